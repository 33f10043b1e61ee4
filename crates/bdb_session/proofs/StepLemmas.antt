-- How often is written step by step where statements are taken away or changed, and where the transaction ends.
use Rattle.std.proofs.Common.{◌≡◌, ◌∙◌, ℕ, ◌+◌, ◌*◌, ◌≤◌, true, false, List, [], ◌∷◌, length, map, Result, Ok, Err, IfOk, OnOk, refl, ap, sym, subst, inl, inr}
use Rattle.std.proofs.lemmas.Bool.{cases_Bool, false≢true, MatchBool-at_true, MatchBool-at_false}
use Rattle.bdb_base.specs.Bases.{Contents, world_count}
use Rattle.bdb_base.specs.Causes.{Rises}
use Rattle.bdb_base.specs.Changes.{changed_statement, statements_naming, taken_by, without_statements_of}
use Rattle.bdb_base.specs.declared.kinds.Catalog.{Catalog}
use Rattle.bdb_base.specs.declared.kinds.Cond.{Cond}
use Rattle.bdb_base.specs.declared.kinds.SetCol.{SetCol}
use Rattle.bdb_base.specs.declared.kinds.Sign.{Sign}
use Rattle.bdb_base.specs.declared.kinds.Stmt.{Stmt}
use Rattle.bdb_bind.specs.Fits.{fits_catalog}
use Rattle.bdb_bind.specs.declared.bound.Bound.TheVariants.{Delete, DropUser, Update}
use Rattle.bdb_canon.specs.declared.sizes.Counts.{Counts}
use Rattle.bdb_keep.specs.Calls.{IsBegin}
use Rattle.bdb_keep.specs.Seen.{Seen}
use Rattle.bdb_keep.specs.Tables.{Tables}
use Rattle.bdb_leaving.specs.Leaving.{LeavesThrough, WritesLeaving}
use Rattle.bdb_render.specs.declared.refusal.Refusal.{Refusal}
use Rattle.bdb_render.specs.declared.refusal.Refusal.TheVariants as refusal
use Rattle.bdb_update.specs.Calls.{Changes, IsUnwritten}
use Rattle.bdb_update.specs.Replacing.{WritesForOne}
use Rattle.bdb_update.specs.Steps.{ChangesThrough, GoesThrough, KeepsOneWay, WritesThrough, steps_of, steps_without}
use Rattle.bdb_update.specs.declared.answer.UpdateError.{UpdateError}
use Rattle.bdb_update.specs.declared.answer.UpdateError.TheVariants as change
use Rattle.bdb_session.specs.Bounds.{UpdatesThrough, WritesAsTold}
use Rattle.bdb_session.specs.declared.change.Selection.{Selection}
use Rattle.bdb_session.specs.declared.reply.Reply.{Reply}
use Rattle.bdb_session.specs.declared.error.StopError.{StopError}
use Rattle.bdb_session.specs.declared.error.StopError.TheVariants.{Fault, Memory}
use Rattle.bdb_session.specs.Known.{Known, Agrees}
use Rattle.bdb_session.specs.Machine.{clash_with}
use Rattle.bdb_session.specs.Outcome.{State, Outcome, Refused, is_accepted}
use Rattle.bdb_session.specs.Within.{IsSaid, IsStopped, Refuses, IsKept, IsUndone, Closes, sized}
use Rattle.bdb_session.proofs.DeleteLemmas.{HasSelected, gone_is, may_go}
use Rattle.bdb_session.proofs.LeaveLemmas.{may_leave}
use Rattle.bdb_session.proofs.ServedLemmas.{still_agrees}
use Rattle.bdb_session.proofs.UpdateLemmas.{IsUpdate, may_change}
use Rattle.bdb_session.proofs.WriteLemmas.{one_delete_writes, same_writes, closed_writes}

-- steps from one keeper to another are steps from a keeper with the rows and writes of the first to one with those of the second
through_same : (es : List (Stmt × Contents)) (old from to new : Seen) → from.kept ≡ old.kept → from.writes ≡ old.writes → new.kept ≡ to.kept → new.writes ≡ to.writes
    → WritesThrough from es to → WritesThrough old es new
through_same [] old from to new k w l v h = (l ∙ h.0 ∙ k, v ∙ h.1 ∙ w)
through_same (e ∷ es) old from to new k w l v h = (
  h.0,
  subst (λ (n : ℕ). n ≤ h.0.writes) w h.1,
  h.2,
  subst (λ (t : Tables). KeepsOneWay t h.0.kept) k h.3,
  same_writes (length e.0.path + 2) 8 old from h.0 h.0 k w refl refl h.4,
  through_same es h.0 h.0 to new refl refl l v h.5,
)

-- and so are the writes of a user who leaves
leaves_same : (b : Contents) (uid : ℕ) (old from to new : Seen) → from.kept ≡ old.kept → from.writes ≡ old.writes → new.writes ≡ to.writes → WritesLeaving b uid from to → WritesLeaving b uid old new
leaves_same b uid old from to new k w v h = record {
  between = h.between;
  gone = through_same (steps_without b (statements_naming uid b.stmts)) old from h.between h.between k w refl refl h.gone;
  left = subst (λ n. Rises (2 * world_count (without_statements_of uid b.stmts) + 1) h.between.writes n) (sym v) h.left;
}

-- ---- within a transaction

-- a reply writes nothing
said_through : (es : List (Stmt × Contents)) (c : Catalog) (o : Outcome) (old read mid new : Seen) (result : Result Reply StopError) → read.kept ≡ old.kept → read.writes ≡ old.writes
    → WritesThrough read es mid → IsSaid c o mid new result → OnOk result (WritesThrough old es new)
said_through es c o old read mid new (Ok r) k w h said = through_same es old read mid new k w (ap (λ (x : Seen). x.kept) said.alone) (ap (λ (x : Seen). x.writes) said.alone) h
said_through es c o old read mid new (Err stop) k w h said = tt

pub said_accepted : (c : Catalog) (o : Outcome) (mid new : Seen) (result : Result Reply StopError) → is_accepted o ≡ true → IsSaid c o mid new result → IfOk result (λ r. r.accepted ≡ true)
said_accepted c o mid new (Ok r) e said = said.reply.accepted ∙ e
said_accepted c o mid new (Err stop) e said = tt

-- a user who leaves
said_leaves : (b : Contents) (uid : ℕ) (c : Catalog) (o : Outcome) (old mid new : Seen) (result : Result Reply StopError) → WritesLeaving b uid old mid → IsSaid c o mid new result
    → OnOk result (WritesLeaving b uid old new)
said_leaves b uid c o old mid new (Ok r) h said = leaves_same b uid old old mid new refl refl (ap (λ (x : Seen). x.writes) said.alone) h
said_leaves b uid c o old mid new (Err stop) h said = tt

pub leave_writes : (k : Known) (counts : Counts) (uid : ℕ) (old mid new : Seen) (c : Catalog) (o : Outcome) (result : Result Reply StopError) → is_accepted o ≡ true
    → fits_catalog k.catalog (DropUser uid) ≡ true → counts ≡ k.counts → LeavesThrough counts uid old mid → IsSaid c o mid new result → WritesAsTold (DropUser uid) k old new result
leave_writes k counts uid old mid new c o result done fits same through said = λ s a. record {
  steps = said_leaves s.base uid c o old mid new result (through s.base (may_leave k counts uid old.kept fits same s a)) said;
  accepted = said_accepted c o mid new result done said;
}

-- a delete
pub delete_writes : {k : Known} {before : Counts} {x : Selection} {old now : Seen} {gone : List Stmt} (read : HasSelected k before x old now gone) (fin new : Seen) (c : Catalog) (o : Outcome)
    (result : Result Reply StopError) → is_accepted o ≡ true → WritesForOne gone now fin (Ok tt) → GoesThrough before gone now fin → IsSaid c o fin new result
    → WritesAsTold (Delete x.path x.sign x.rel x.conds) (sized k before) old new result
delete_writes {x} {old} {now} read fin new c o result done one through said = λ s a. record {
  one = one_delete_writes read fin new c o result one said s a;
  steps = said_through (steps_without s.base (taken_by x.path x.sign x.rel x.conds s.base.stmts)) c o old now fin new result read.kept read.writes
      (subst (λ (xs : List Stmt). WritesThrough now (steps_without s.base xs) fin) (gone_is read s a) (through s.base (may_go read s a))) said;
  accepted = said_accepted c o fin new result done said;
}

-- an update that is accepted, one that is refused, and one that stops
accepted_through : (b : Contents) (gone : List Stmt) (sets : List SetCol) (c : Catalog) (o : Outcome) (old read mid new : Seen) (result : Result Reply StopError) → is_accepted o ≡ true
    → read.kept ≡ old.kept → read.writes ≡ old.writes → WritesThrough read (steps_of b gone (map (changed_statement sets) gone)) mid → IsSaid c o mid new result
    → UpdatesThrough b gone sets old new result
accepted_through b gone sets c o old read mid new (Ok r) e k w h said = record {
  steps = λ _. said_through (steps_of b gone (map (changed_statement sets) gone)) c o old read mid new (Ok r) k w h said;
  refused = λ f. absurd (false≢true (sym f ∙ said.reply.accepted ∙ e));
}
accepted_through b gone sets c o old read mid new (Err stop) e k w h said = record { steps = tt; refused = tt }

refused_through : (b : Contents) (gone : List Stmt) (sets : List SetCol) (c : Catalog) (o : Outcome) (old mid new : Seen) (result : Result Reply StopError) → is_accepted o ≡ false
    → mid.kept ≡ old.kept → mid.writes ≡ old.writes → IsSaid c o mid new result → UpdatesThrough b gone sets old new result
refused_through b gone sets c o old mid new (Ok r) e k w said = record {
  steps = λ f. absurd (false≢true (sym (said.reply.accepted ∙ e) ∙ f));
  refused = λ _. record { kept = ap (λ (x : Seen). x.kept) said.alone ∙ k; writes = ap (λ (x : Seen). x.writes) said.alone ∙ w };
}
refused_through b gone sets c o old mid new (Err stop) e k w said = record { steps = tt; refused = tt }

stopped_through : (b : Contents) (gone : List Stmt) (sets : List SetCol) (stop : StopError) (old mid new : Seen) (result : Result Reply StopError) → IsStopped stop mid new result
    → UpdatesThrough b gone sets old new result
stopped_through b gone sets stop old mid new result said =
    subst (λ (r : Result Reply StopError). UpdatesThrough b gone sets old new r) (sym said.error) (record { steps = tt; refused = tt })

-- an update, after its statements were read
module _ {k : Known} {before : Counts} {x : Selection} {sets : List SetCol} {old now : Seen} {gone come : List Stmt} (update : IsUpdate k before x sets old now gone come)
    (fin new : Seen) (result : Result Reply StopError) where
  pub update_writes : (o : Outcome) → is_accepted o ≡ true → ChangesThrough before x.path gone come now fin → IsSaid k.catalog o fin new result
      → WritesAsTold (Update x.path x.sign x.rel sets x.conds) (sized k before) old new result
  update_writes o e through said = λ s a.
      let read = update.selected in
      let made = subst (λ (xs : List Stmt). WritesThrough now (steps_of s.base gone xs) fin) update.changed (through s.base (may_change update s a)) in
      accepted_through s.base (taken_by x.path x.sign x.rel x.conds s.base.stmts) sets k.catalog o old now fin new result e read.kept read.writes
      (subst (λ (xs : List Stmt). WritesThrough now (steps_of s.base xs (map (changed_statement sets) xs)) fin) (gone_is read s a) made) said

  -- it is refused, and nothing was written
  refusal_writes : (after : Counts) (r : Refusal) → ((s : State) → Agrees old.kept (sized k before) s → IsUnwritten now fin before after) → IsSaid k.catalog (Refused r) fin new result
      → WritesAsTold (Update x.path x.sign x.rel sets x.conds) (sized k before) old new result
  refusal_writes after r unwritten said = λ s a.
      let un = unwritten s a in
      refused_through s.base (taken_by x.path x.sign x.rel x.conds s.base.stmts) sets k.catalog (Refused r) old fin new result refl
      (un.kept ∙ update.selected.kept) (un.writes ∙ update.selected.writes) said

  pub update_err_writes : (after : Counts) (e : UpdateError) → Changes now fin before after x.path gone come (Err e) → Refuses k.catalog e fin new result
      → WritesAsTold (Update x.path x.sign x.rel sets x.conds) (sized k before) old new result
  update_err_writes after (change.Clash least) h said = refusal_writes after (clash_with least) (λ s a. (h s.base (may_change update s a)).untouched) said
  update_err_writes after (change.Full what) h said = refusal_writes after (refusal.Full what) (λ s a. (h s.base (may_change update s a)).untouched) said
  update_err_writes after change.Fault h said = λ s a. stopped_through s.base (taken_by x.path x.sign x.rel x.conds s.base.stmts) sets Fault old fin new result said
  update_err_writes after change.Memory h said = λ s a. stopped_through s.base (taken_by x.path x.sign x.rel x.conds s.base.stmts) sets Memory old fin new result said

-- ---- the end of a transaction

module _ (learns : Known) (r : Reply) (before now : Known) (old run mid new : Seen) (began : IsBegin {T = Unit {0}} {E = StopError} old run (Ok tt) Fault) where
  kept_through : (es : List (Stmt × Contents)) → WritesThrough run es mid → (result : Result Reply StopError) → IsKept learns r before now mid new result → OnOk result (WritesThrough old es new)
  kept_through es h (Ok q) k = through_same es old run mid new began.kept began.writes k.commit.kept k.commit.writes h
  kept_through es h (Err stop) k = tt

  done_through : (es : List (Stmt × Contents)) → r.accepted ≡ true → WritesThrough run es mid → (result : Result Reply StopError) → Closes learns r before now mid new result
      → OnOk result (WritesThrough old es new)
  done_through es done h result e =
      kept_through es h result (MatchBool-at_true (IsKept learns r before now mid new result) (IsUndone r before now mid new result) done e)

  kept_leaves : (b : Contents) (uid : ℕ) → WritesLeaving b uid run mid → (result : Result Reply StopError) → IsKept learns r before now mid new result → OnOk result (WritesLeaving b uid old new)
  kept_leaves b uid h (Ok q) k = leaves_same b uid old run mid new began.kept began.writes k.commit.writes h
  kept_leaves b uid h (Err stop) k = tt

  done_leaves : (b : Contents) (uid : ℕ) → r.accepted ≡ true → WritesLeaving b uid run mid → (result : Result Reply StopError) → Closes learns r before now mid new result
      → OnOk result (WritesLeaving b uid old new)
  done_leaves b uid done h result e =
      kept_leaves b uid h result (MatchBool-at_true (IsKept learns r before now mid new result) (IsUndone r before now mid new result) done e)

  kept_accepted : r.accepted ≡ true → (result : Result Reply StopError) → IsKept learns r before now mid new result → IfOk result (λ q. q.accepted ≡ true)
  kept_accepted done (Ok q) k = ap (λ (x : Reply). x.accepted) k.reply ∙ done
  kept_accepted done (Err stop) k = tt

  done_accepted : r.accepted ≡ true → (result : Result Reply StopError) → Closes learns r before now mid new result → IfOk result (λ q. q.accepted ≡ true)
  done_accepted done result e =
      kept_accepted done result (MatchBool-at_true (IsKept learns r before now mid new result) (IsUndone r before now mid new result) done e)

  kept_updates : (b : Contents) (gone : List Stmt) (sets : List SetCol) → r.accepted ≡ true → WritesThrough run (steps_of b gone (map (changed_statement sets) gone)) mid
      → (result : Result Reply StopError) → IsKept learns r before now mid new result → UpdatesThrough b gone sets old new result
  kept_updates b gone sets done h (Ok q) k = record {
    steps = λ _. kept_through (steps_of b gone (map (changed_statement sets) gone)) h (Ok q) k;
    refused = λ f. absurd (false≢true (sym f ∙ ap (λ (x : Reply). x.accepted) k.reply ∙ done));
  }
  kept_updates b gone sets done h (Err stop) k = record { steps = tt; refused = tt }

  closed_updates : (b : Contents) (gone : List Stmt) (sets : List SetCol) → mid.last ≡ run.last → UpdatesThrough b gone sets run mid (Ok r) → (result : Result Reply StopError)
      → Closes learns r before now mid new result → UpdatesThrough b gone sets old new result
  closed_updates b gone sets last h result e = elim (cases_Bool r.accepted) [
    | inl done ↦
        kept_updates b gone sets done (h.steps done) result (MatchBool-at_true (IsKept learns r before now mid new result) (IsUndone r before now mid new result) done e)
    | inr undone ↦
        let k = MatchBool-at_false (IsKept learns r before now mid new result) (IsUndone r before now mid new result) undone e in
        subst (λ (x : Result Reply StopError). UpdatesThrough b gone sets old new x) (sym k.reply) (record {
          steps = λ f. absurd (false≢true (sym undone ∙ f));
          refused = λ _. record { kept = k.undo.dropped.undone ∙ last ∙ began.last ∙ sym began.rest; writes = k.undo.writes ∙ (h.refused undone).writes ∙ began.writes };
        })
  ]

-- after its begin a session still agrees with the tables
module _ (learns : Known) (r : Reply) (before now : Known) (old run mid new : Seen) (result : Result Reply StopError)
    (began : IsBegin {T = Unit {0}} {E = StopError} old run (Ok tt) Fault) where
  begun_agrees : (s : State) → Agrees old.kept before s → Agrees run.kept before s
  begun_agrees s a = still_agrees old.kept run.kept before s began.kept a

  pub leave_closes : (uid : ℕ) → WritesAsTold (DropUser uid) before run mid (Ok r) → Closes learns r before now mid new result → WritesAsTold (DropUser uid) before old new result
  leave_closes uid within e = λ s a.
      let h = within s (begun_agrees s a) in
      record {
        steps = done_leaves learns r before now old run mid new began s.base uid h.accepted h.steps result e;
        accepted = done_accepted learns r before now old run mid new began h.accepted result e;
      }

  pub delete_closes : (w : List ℕ) (sign : Sign) (rel : ℕ) (conds : List Cond) → WritesAsTold (Delete w sign rel conds) before run mid (Ok r)
      → Closes learns r before now mid new result → WritesAsTold (Delete w sign rel conds) before old new result
  delete_closes w sign rel conds within e = λ s a.
      let h = within s (begun_agrees s a) in
      let done = h.accepted in
      record {
        one = λ single. closed_writes (length w + 2) 8 learns r before now old run mid new began (h.one single) (λ f. absurd (false≢true (sym f ∙ done))) result e;
        steps = done_through learns r before now old run mid new began (steps_without s.base (taken_by w sign rel conds s.base.stmts)) done h.steps result e;
        accepted = done_accepted learns r before now old run mid new began done result e;
      }

  pub update_closes : (w : List ℕ) (sign : Sign) (rel : ℕ) (sets : List SetCol) (conds : List Cond) → WritesAsTold (Update w sign rel sets conds) before run mid (Ok r)
      → mid.last ≡ run.last → Closes learns r before now mid new result → WritesAsTold (Update w sign rel sets conds) before old new result
  update_closes w sign rel sets conds within last e = λ s a.
      closed_updates learns r before now old run mid new began s.base (taken_by w sign rel conds s.base.stmts) sets last (within s (begun_agrees s a)) result e
