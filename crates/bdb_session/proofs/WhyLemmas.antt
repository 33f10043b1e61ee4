-- How a session tells why a path believes a signed tuple, or why it doesn't.
use Rattle.std.proofs.Common.{◌≡◌, ◌∙◌, ℕ, ◌≤◌, true, ◌&&◌, nat_le, List, Result, length, refl, sym, ap, subst}
use Rattle.std.specs.List.{list_all}
use Rattle.std.proofs.lemmas.Bool.{and_parts, leb-true}
use Rattle.bdb_base.specs.Alternation.{alternates}
use Rattle.bdb_base.specs.Bases.{fits_relation, is_user}
use Rattle.bdb_base.specs.Limits.{deepest_query}
use Rattle.bdb_base.specs.declared.kinds.Catalog.{Catalog}
use Rattle.bdb_base.specs.declared.kinds.Stmt.{Stmt}
use Rattle.bdb_bind.specs.Fits.{fits_catalog, fits_path}
use Rattle.bdb_bind.specs.declared.bound.Bound.TheVariants.{Why}
use Rattle.bdb_keep.specs.Seen.{Seen, NeverFall, GoesOn}
use Rattle.bdb_keep.specs.Tables.{Tables}
use Rattle.bdb_reasons.specs.WhyReplies.{why_reply}
use Rattle.bdb_why.specs.Stored.{IsWhyOf, MayAsk, ReadsNear, SomeMayAsk}
use Rattle.bdb_why.specs.declared.kinds.Why.{Why as Certificate}
use Rattle.bdb_session.specs.Known.{Known, Agrees, AgreesOnSome}
use Rattle.bdb_session.specs.Machine.{bound_outcome}
use Rattle.bdb_session.specs.Outcome.{State, Done}
use Rattle.bdb_session.specs.Telling.{ReadsWithin, why_reads}
use Rattle.bdb_session.specs.Within.{IsSaid, TellsWithin}
use Rattle.bdb_session.specs.declared.reply.Reply.{Reply}
use Rattle.bdb_session.specs.declared.error.StopError.{StopError}
use Rattle.bdb_session.proofs.TellLemmas.{always_ok, fitting_users}
use Rattle.bdb_session.proofs.WithinLemmas.{read_tells}
use Rattle.bdb_worlds.specs.Bounds.{EndsWithin}

-- what is bound may be asked of the base that a session agrees on
module _ (k : Known) (x : Stmt) (fits : fits_catalog k.catalog (Why x) ≡ true) where
  own : list_all (is_user k.catalog.users) x.path ≡ true
  own = fitting_users k.catalog.users deepest_query x.path (and_parts (fits_path k.catalog.users deepest_query x.path) (fits_relation k.catalog.rels x.tuple) fits).0

  fitting : fits_relation k.catalog.rels x.tuple ≡ true
  fitting = (and_parts (fits_path k.catalog.users deepest_query x.path) (fits_relation k.catalog.rels x.tuple) fits).1

  may_ask : (t : Tables) (s : State) → Agrees t k s → MayAsk t x.path x.tuple s.base
  may_ask t s a = record {
    has = record { base = a.base; own = sym (ap (λ (c : Catalog). list_all (is_user c.users) x.path) a.catalog) ∙ own };
    fits = sym (ap (λ (c : Catalog). fits_relation c.rels x.tuple) a.catalog) ∙ fitting;
  }

  pub some_may_ask : (t : Tables) (w : List ℕ) → w ≡ x.path → AgreesOnSome t k → SomeMayAsk t w x.tuple
  some_may_ask t w e h = subst (λ (v : List ℕ). SomeMayAsk t v x.tuple) (sym e) (record { base = h.state.base; may = may_ask t h.state h.agrees })

  pub path_is_short : (w : List ℕ) → w ≡ x.path → length w ≤ deepest_query
  path_is_short w e =
      let path = (and_parts (fits_path k.catalog.users deepest_query x.path) (fits_relation k.catalog.rels x.tuple) fits).0 in
      let short = (and_parts (alternates x.path) (nat_le (length x.path) deepest_query) (and_parts (alternates x.path && nat_le (length x.path) deepest_query) (list_all (is_user k.catalog.users) x.path) path).0).1 in
      subst (λ (v : List ℕ). length v ≤ deepest_query) (sym e) (leb-true (length x.path) deepest_query short)

  -- the outcome, by the certificate that was made
  why_outcome : (t : Tables) (s : State) (y : Certificate) → IsWhyOf t x.path x.tuple x.sign y → Agrees t k s
      → bound_outcome s (Why x) ≡ Done (why_reply k.catalog x.path x.tuple x.sign y) 0 s
  why_outcome t s y is a =
      ap (λ (z : Certificate). Done (why_reply s.base.catalog x.path x.tuple x.sign z) 0 s) (sym (is s.base (may_ask t s a)))
      ∙ ap (λ (c : Catalog). Done (why_reply c x.path x.tuple x.sign y) 0 s) (sym a.catalog)

  pub why_tells : (w : List ℕ) → w ≡ x.path → (y : Certificate) (old mid new : Seen) (result : Result Reply StopError) → AgreesOnSome old.kept k → IsWhyOf old.kept w x.tuple x.sign y → NeverFall old mid
      → mid.kept ≡ old.kept → GoesOn old mid → ((s : State) → IsSaid k.catalog (Done (why_reply k.catalog x.path x.tuple x.sign y) 0 s) mid new result)
      → TellsWithin (λ s. bound_outcome s (Why x)) k k old new result
  why_tells w e y old mid new result some is fall kept goes said =
      read_tells (λ s. bound_outcome s (Why x)) (λ s. Done (why_reply k.catalog x.path x.tuple x.sign y) 0 s) k old mid new result some (record { goes = goes; counts = fall }) kept
      (λ s a. why_outcome old.kept s y (subst (λ (v : List ℕ). IsWhyOf old.kept v x.tuple x.sign y) e is) a) (λ s. refl) said

  pub why_reads_within : {T : Type 0} (w : List ℕ) → w ≡ x.path → (old mid new : Seen) (result : Result T StopError) → ReadsNear old mid w x.tuple → new.reads ≡ mid.reads
      → ReadsWithin (λ s. why_reads s.base x) k old new result
  why_reads_within w e old mid new result most same = λ s a.
      let near = subst (λ (v : List ℕ). ReadsNear old mid v x.tuple) e most in
      always_ok result (subst (λ n. EndsWithin (why_reads s.base x) old.reads n) (sym same) (near s.base (may_ask old.kept s a)))
