-- A step of the code as a visit of a walk.
use Rattle.std.proofs.Common.{◌≡◌, ◌∙◌, ℕ, false, List, [], length, MatchOption, ap, sym, subst}
use Rattle.bdb_base.specs.Causes.{Rises}
use Rattle.bdb_keep.specs.Seen.{Seen}
use Rattle.bdb_keep.specs.Tables.{Tables}
use Rattle.bdb_tables.specs.Codec.{HasAt}
use Rattle.bdb_tables.specs.InUse.{link_codec, val_codec}
use Rattle.bdb_tables.specs.Writes.{with_changes}
use Rattle.bdb_val.specs.Reads.{AreReadUnder}
use Rattle.bdb_val.specs.Steps.{IsStep, rows_made}
use Rattle.bdb_val.specs.Visits.{TellsVisit}
use Rattle.bdb_val.specs.Walks.{IsVisit, IsQuiet, changes_of}
use Rattle.bdb_val.specs.declared.stored.SettledWorld.{SettledWorld}

-- a step after a read, as one from before the read
pub step_from : (keys : ℕ → ℕ) (old start mid : Seen) (prefix : ℕ → List ℕ) (wid : ℕ) (s : SettledWorld) → start.kept ≡ old.kept → start.writes ≡ old.writes → IsStep keys start mid wid prefix s → IsStep keys old mid wid prefix s
step_from keys old start mid prefix wid s kept writes step =
    let own = step.settling.own in
    let from = step.settling.from in
    record {
      link = step.link;
      linked = subst (λ (t : Tables). HasAt link_codec t wid step.link) kept step.linked;
      settling = record {
        own = own;
        from = from;
        own_read = subst (λ (t : Tables). AreReadUnder t (prefix wid) own) kept step.settling.own_read;
        from_read = subst (λ (t : Tables). MatchOption step.link (from ≡ []) (λ m. AreReadUnder t (prefix m) from)) kept step.settling.from_read;
        written = step.settling.written ∙ ap (λ (t : Tables). with_changes val_codec t (rows_made keys wid own from)) kept;
      };
      tells = step.tells;
      writes = subst (λ n. Rises (length (rows_made keys wid own from)) n mid.writes) writes step.writes;
    }

module _ (keys : ℕ → ℕ) (old mid new : Seen) (prefix : ℕ → List ℕ) (wid : ℕ) (s : SettledWorld) (step : IsStep keys old mid wid prefix s) (kept : new.kept ≡ mid.kept) (writes : new.writes ≡ mid.writes) where
  -- the visit that a step made, where nothing was written after it
  abbrev pub visited : IsVisit keys prefix old.kept new.kept wid
  visited = record {
    link = step.link;
    linked = step.linked;
    settling = record { own = step.settling.own; from = step.settling.from; own_read = step.settling.own_read; from_read = step.settling.from_read; written = kept ∙ step.settling.written };
  }

  pub told : TellsVisit keys old new prefix wid s visited
  told = record { put = step.tells.put; taken = step.tells.taken; writes = subst (Rises (length (changes_of visited)) old.writes) (sym writes) step.writes }

  pub quiet : s.turned ≡ false → IsQuiet visited
  quiet e = sym step.tells.turned ∙ e
