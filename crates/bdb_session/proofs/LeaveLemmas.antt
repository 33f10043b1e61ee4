-- What comes of a user who leaves, by what was read and written.
use Rattle.std.proofs.Common.{◌≡◌, ◌∙◌, ℕ, ◌-◌, true, nat_lt, List, [], Option, Some, None, Result, refl, ap, sym, subst, length}
use Rattle.std.specs.Option.{is_some}
use Rattle.std.proofs.lemmas.Bool.{and_parts, cond-true, false≢true}
use Rattle.bdb_base.specs.Bases.{is_user, name_at, without_user}
use Rattle.bdb_base.specs.Changes.{statements_naming}
use Rattle.bdb_base.specs.Queries.{user_name}
use Rattle.bdb_base.specs.declared.kinds.Catalog.{Catalog}
use Rattle.bdb_base.specs.declared.kinds.Stmt.{Stmt}
use Rattle.bdb_base.specs.declared.kinds.UserSlot.{UserSlot}
use Rattle.bdb_bind.specs.Fits.{fits_catalog}
use Rattle.bdb_bind.specs.declared.bound.Bound.TheVariants.{DropUser}
use Rattle.bdb_canon.specs.declared.sizes.Counts.{Counts}
use Rattle.bdb_keep.specs.Seen.{Seen}
use Rattle.bdb_keep.specs.Tables.{Tables}
use Rattle.bdb_leaving.specs.Leaving.{IsWithoutUser, MayDropUser, SomeMayDropUser, UserLeaves, base_without_user}
use Rattle.bdb_render.specs.Replies.{count_reply}
use Rattle.bdb_undo.specs.declared.change.Change.{Change}
use Rattle.bdb_undo.specs.declared.change.Named.TheVariants.{UserDropped}
use Rattle.bdb_undo.proofs.ChangeLemmas.{leaving_leads}
use Rattle.bdb_val.proofs.Calls.{HasGone}
use Rattle.bdb_session.specs.declared.reply.Reply.{Reply}
use Rattle.bdb_session.specs.declared.error.StopError.{StopError}
use Rattle.bdb_session.specs.Known.{Known, Agrees, AgreesOnSome}
use Rattle.bdb_session.specs.Machine.{bound_outcome}
use Rattle.bdb_session.specs.Outcome.{State, Done}
use Rattle.bdb_session.specs.Within.{LeadsBy, TellsChange, TellsWithin, IsSaid}
use Rattle.bdb_session.proofs.LimitLemmas.{no_limit}
use Rattle.bdb_session.proofs.NotingLemmas.{told_changes}
use Rattle.bdb_session.proofs.OutcomeLemmas.{becomes_done}
use Rattle.bdb_session.proofs.WithinLemmas.{said_tells}

module _ (k : Known) (before : Counts) (uid : ℕ) (t : Tables) (fits : fits_catalog k.catalog (DropUser uid) ≡ true) (same : before ≡ k.counts) where
  pub may_leave : (s : State) → Agrees t k s → MayDropUser t before uid s.base
  may_leave s a = record {
    base = record { stored = a.base.stored; valid = a.base.valid; counted = same ∙ a.counts };
    user = ap (λ (c : Catalog). is_user c.users uid) (sym a.catalog) ∙ fits;
  }

  pub some_may_leave : AgreesOnSome t k → SomeMayDropUser t before uid
  some_may_leave some = record { base = some.state.base; may = may_leave some.state some.agrees }

-- a user of a catalog has a name
pub user_has_name : (users : List UserSlot) (uid : ℕ) → is_user users uid ≡ true → user_name users uid ≡ None → ⊥
user_has_name users uid h e = named (name_at users (uid - 1)) (and_parts (nat_lt 0 uid) (is_some (name_at users (uid - 1))) h).1
    (sym (cond-true (is_user users uid) (name_at users (uid - 1)) None h) ∙ e)
  where
    named : (o : Option (List ℕ)) → is_some o ≡ true → o ≡ None → ⊥
    named None h e = false≢true h
    named (Some x) h e = cc

abbrev dropped : ℕ → List ℕ → List Stmt → Change
dropped uid name xs = record { named = UserDropped uid name; gone = xs; come = [] }

-- what the base becomes
abbrev left_by_user : ℕ → State → State
left_by_user uid s = record s { base = base_without_user s.base uid }

module _ (k : Known) (before after : Counts) (uid : ℕ) (went : List Stmt) (old mid : Seen) (fits : fits_catalog k.catalog (DropUser uid) ≡ true) (same : before ≡ k.counts)
    (leaves : UserLeaves old.kept mid.kept before after uid went) where
  left : (s : State) → Agrees old.kept k s → IsWithoutUser s.base uid mid.kept after went
  left s a = leaves s.base (may_leave k before uid old.kept fits same s a)

  leave_done : (m : ℕ) → m ≡ length went → (s : State) → Agrees old.kept k s → bound_outcome s (DropUser uid) ≡ Done (count_reply m) 0 (left_by_user uid s)
  leave_done m many s a =
      becomes_done s (left_by_user uid s).base (count_reply (length (statements_naming uid s.base.stmts))) (no_limit (left_by_user uid s).base (left s a).base.valid)
      ∙ ap (λ c. Done (count_reply c) 0 (left_by_user uid s)) (sym (many ∙ ap length (left s a).gone))

  pub leave_tells : (now : Known) (m : ℕ) (new : Seen) (result : Result Reply StopError) → AgreesOnSome old.kept k → HasGone old mid → now.catalog ≡ without_user k.catalog uid
      → now.counts ≡ after → m ≡ length went → ((s : State) → IsSaid k.catalog (Done (count_reply m) 0 s) mid new result)
      → TellsWithin (λ s. bound_outcome s (DropUser uid)) k now old new result
  leave_tells now m new result some gone catalog counts many said =
      said_tells (λ s. bound_outcome s (DropUser uid)) (λ s. Done (count_reply m) 0 (left_by_user uid s)) k now old mid new result some gone
      (λ s a. leave_done m many s a)
      (λ s a. record {
        base = record { stored = (left s a).base.stored; valid = (left s a).base.valid };
        catalog = catalog ∙ ap (λ (c : Catalog). without_user c uid) a.catalog;
        counts = counts ∙ (left s a).base.counted;
      })
      (λ s. said (left_by_user uid s))

  -- which change is told of it
  pub leave_changes : (name : List ℕ) (result : Result Reply StopError) (c : Change) → user_name k.catalog.users uid ≡ Some name
      → c ≡ record { named = UserDropped uid name; gone = went; come = [] } → TellsChange (λ s. bound_outcome s (DropUser uid)) k (Some c) old result
  leave_changes name result c named is =
      told_changes (λ s. bound_outcome s (DropUser uid)) (λ s. Done (count_reply (length went)) 0 (left_by_user uid s)) k (Some c) old result
      (λ s a. leave_done (length went) refl s a)
      (λ s a. subst (λ (d : Change). LeadsBy (Some d) s.base (left_by_user uid s).base) (sym (is ∙ ap (dropped uid name) (left s a).gone))
      (leaving_leads s.base.catalog s.base.stmts uid name a.base.valid (ap (λ (c : Catalog). user_name c.users uid) (sym a.catalog) ∙ named), refl))
