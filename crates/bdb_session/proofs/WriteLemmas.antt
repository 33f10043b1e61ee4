-- How often is written where a step is told of within a transaction, and where the transaction ends.
use Rattle.std.proofs.Common.{◌≡◌, ◌∙◌, ℕ, ◌+◌, ◌*◌, true, false, List, length, Result, Ok, Err, OnOk, refl, ap, sym, subst, inl, inr}
use Rattle.std.specs.FinMap as tables
use Rattle.std.proofs.lemmas.Bool.{cases_Bool, false≢true, MatchBool-at_true, MatchBool-at_false}
use Rattle.bdb_base.specs.Bases.{belongs}
use Rattle.bdb_base.specs.Changes.{taken_by}
use Rattle.bdb_base.specs.declared.kinds.Catalog.{Catalog}
use Rattle.bdb_base.specs.declared.kinds.Stmt.{Stmt}
use Rattle.bdb_canon.specs.declared.sizes.Counts.{Counts}
use Rattle.bdb_keep.specs.Calls.{IsBegin}
use Rattle.bdb_keep.specs.Seen.{Seen}
use Rattle.bdb_keep.specs.Tables.{Tables}
use Rattle.bdb_render.specs.declared.refusal.Refusal.TheVariants as refusal
use Rattle.bdb_tables.specs.Differences.{AreDifferences}
use Rattle.bdb_update.specs.Bounds.{WritesWithinMore}
use Rattle.bdb_update.specs.Calls.{Adds}
use Rattle.bdb_update.specs.Replacing.{WritesForOne}
use Rattle.bdb_update.specs.declared.answer.Added.TheVariants.{New, Already}
use Rattle.bdb_update.specs.declared.answer.UpdateError.{UpdateError}
use Rattle.bdb_update.specs.declared.answer.UpdateError.TheVariants as change
use Rattle.bdb_worlds.specs.Bounds.{EndsWithin}
use Rattle.bdb_update.proofs.SpendLemmas.{none_within}
use Rattle.bdb_session.specs.Bounds.{InsertsWithin, RefusedUnwritten, StandsUnwritten}
use Rattle.bdb_session.specs.declared.change.Selection.{Selection}
use Rattle.bdb_session.specs.declared.reply.Reply.{Reply}
use Rattle.bdb_session.specs.declared.error.StopError.{StopError}
use Rattle.bdb_session.specs.declared.error.StopError.TheVariants.{Fault, Memory}
use Rattle.bdb_session.specs.Known.{Known, Agrees, AgreesOnSome}
use Rattle.bdb_session.specs.Machine.{clash_with}
use Rattle.bdb_session.specs.Outcome.{State, Outcome, Refused, is_accepted}
use Rattle.bdb_session.specs.Within.{IsSaid, IsStopped, Refuses, IsKept, IsUndone, Closes, sized}
use Rattle.bdb_session.proofs.DeleteLemmas.{HasSelected, gone_here, gone_is}
use Rattle.bdb_session.proofs.InsertLemmas.{insert_meets}
use Rattle.bdb_session.proofs.ServedLemmas.{still_agrees}
use Rattle.bdb_session.proofs.TakenLemmas.{only_one}

-- ---- what is written

-- a bound from one keeper to another is one from a keeper with the rows and writes of the first to one with those of the second
pub same_writes : (times more : ℕ) (old from to new : Seen) → from.kept ≡ old.kept → from.writes ≡ old.writes → new.kept ≡ to.kept → new.writes ≡ to.writes
    → WritesWithinMore times more from to → WritesWithinMore times more old new
same_writes times more old from to new k w l v h = λ ps d.
    let there = subst (λ (t : Tables). AreDifferences (tables.get t) (tables.get to.kept) ps) (sym k) (subst (λ (t : Tables). AreDifferences (tables.get old.kept) (tables.get t) ps) l d) in
    subst (λ n. EndsWithin (times * length ps + more) old.writes n) (sym v) (subst (λ n. EndsWithin (times * length ps + more) n to.writes) w (h ps there))

-- ---- within a transaction

-- a reply writes nothing
pub said_writes : (times more : ℕ) (c : Catalog) (o : Outcome) (old mid new : Seen) (result : Result Reply StopError) → WritesWithinMore times more old mid → IsSaid c o mid new result
    → OnOk result (WritesWithinMore times more old new)
said_writes times more c o old mid new (Ok r) h said = subst (λ (x : Seen). WritesWithinMore times more old x) (sym said.alone) h
said_writes times more c o old mid new (Err stop) h said = tt

-- what is accepted is not refused
pub accepted_unrefused : (c : Catalog) (o : Outcome) (old mid new : Seen) (result : Result Reply StopError) → is_accepted o ≡ true → IsSaid c o mid new result → RefusedUnwritten old new result
accepted_unrefused c o old mid new (Ok r) e said = λ f. absurd (false≢true (sym f ∙ said.reply.accepted ∙ e))
accepted_unrefused c o old mid new (Err stop) e said = tt

said_unwritten : (c : Catalog) (o : Outcome) (old mid new : Seen) (result : Result Reply StopError) → mid.writes ≡ old.writes → IsSaid c o mid new result → RefusedUnwritten old new result
said_unwritten c o old mid new (Ok r) e said = λ _. ap (λ (x : Seen). x.writes) said.alone ∙ e
said_unwritten c o old mid new (Err stop) e said = tt

-- an error told is no reply
stopped_writes : (times more : ℕ) (stop : StopError) (old mid new : Seen) (result : Result Reply StopError) → IsStopped stop mid new result
    → OnOk result (WritesWithinMore times more old new) × RefusedUnwritten old new result
stopped_writes times more stop old mid new result said =
    subst (λ (r : Result Reply StopError). OnOk r (WritesWithinMore times more old new) × RefusedUnwritten old new r) (sym said.error) (tt, tt)

-- an insert that is refused or stops
module _ (k : Known) (x : Stmt) (before after : Counts) (old mid new : Seen) (result : Result Reply StopError) (fits : belongs k.catalog x ≡ true) (some : AgreesOnSome old.kept (sized k before)) where
  said_refused : (o : Outcome) → mid.writes ≡ old.writes → IsSaid k.catalog o mid new result → OnOk result (WritesWithinMore (length x.path + 2) 8 old new) × RefusedUnwritten old new result
  said_refused o e said =
      (said_writes (length x.path + 2) 8 k.catalog o old mid new result (none_within (length x.path + 2) 8 old mid e) said, said_unwritten k.catalog o old mid new result e said)

  pub insert_err_writes : (e : UpdateError) → Adds old mid before after x (Err e) → Refuses k.catalog e mid new result
      → OnOk result (WritesWithinMore (length x.path + 2) 8 old new) × RefusedUnwritten old new result
  insert_err_writes (change.Clash least) adds said = said_refused _ (adds some.state.base (insert_meets k x before after old mid fits some.state some.agrees)).untouched.writes said
  insert_err_writes (change.Full what) adds said = said_refused _ (adds some.state.base (insert_meets k x before after old mid fits some.state some.agrees)).untouched.writes said
  insert_err_writes change.Fault adds said = stopped_writes (length x.path + 2) 8 Fault old mid new result said
  insert_err_writes change.Memory adds said = stopped_writes (length x.path + 2) 8 Memory old mid new result said

-- a statement that stood already is not new, and is added without a write; nor is one where it is refused
said_same : (c : Catalog) (o : Outcome) (old mid new : Seen) (result : Result Reply StopError) → mid.writes ≡ old.writes → IsSaid c o mid new result → OnOk result (new.writes ≡ old.writes)
said_same c o old mid new (Ok r) e said = ap (λ (x : Seen). x.writes) said.alone ∙ e
said_same c o old mid new (Err stop) e said = tt

stopped_same : (stop : StopError) (old mid new : Seen) (result : Result Reply StopError) → IsStopped stop mid new result → OnOk result (new.writes ≡ old.writes)
stopped_same stop old mid new result said = subst (λ (r : Result Reply StopError). OnOk r (new.writes ≡ old.writes)) (sym said.error) tt

module _ (k : Known) (x : Stmt) (before after : Counts) (old mid new : Seen) (result : Result Reply StopError) (fits : belongs k.catalog x ≡ true) where
  pub new_unstood : Adds old mid before after x (Ok New) → StandsUnwritten x (sized k before) old new result
  new_unstood adds = λ s a there. absurd (false≢true (sym (adds s.base (insert_meets k x before after old mid fits s a)).fresh ∙ there))

  pub already_unwritten : (o : Outcome) → Adds old mid before after x (Ok Already) → IsSaid k.catalog o mid new result → StandsUnwritten x (sized k before) old new result
  already_unwritten o adds said = λ s a there. said_same k.catalog o old mid new result (adds s.base (insert_meets k x before after old mid fits s a)).untouched.writes said

  pub err_unwritten : (e : UpdateError) → Adds old mid before after x (Err e) → Refuses k.catalog e mid new result → StandsUnwritten x (sized k before) old new result
  err_unwritten (change.Clash least) adds said = λ s a there.
      said_same k.catalog (Refused (clash_with least)) old mid new result (adds s.base (insert_meets k x before after old mid fits s a)).untouched.writes said
  err_unwritten (change.Full what) adds said = λ s a there.
      said_same k.catalog (Refused (refusal.Full what)) old mid new result (adds s.base (insert_meets k x before after old mid fits s a)).untouched.writes said
  err_unwritten change.Fault adds said = λ s a there. stopped_same Fault old mid new result said
  err_unwritten change.Memory adds said = λ s a there. stopped_same Memory old mid new result said

-- a delete of one statement
pub one_delete_writes : {k : Known} {before : Counts} {x : Selection} {old now : Seen} {gone : List Stmt} (read : HasSelected k before x old now gone) (fin new : Seen) (c : Catalog)
    (o : Outcome) (result : Result Reply StopError) → WritesForOne gone now fin (Ok tt) → IsSaid c o fin new result → (s : State) → Agrees old.kept (sized k before) s
    → length (taken_by x.path x.sign x.rel x.conds s.base.stmts) ≡ 1 → OnOk result (WritesWithinMore (length x.path + 2) 8 old new)
one_delete_writes {x} {old} {now} {gone} read fin new c o result one said s a single =
    let alone = only_one (λ (y : Stmt). y.path ≡ x.path) gone (gone_here read s a) (ap length (gone_is read s a) ∙ single) in
    let within = subst (λ (p : List ℕ). WritesWithinMore (length p + 2) 8 now fin) alone.1.1 (one alone.0 alone.1.0) in
    said_writes (length x.path + 2) 8 c o old fin new result (same_writes (length x.path + 2) 8 old now fin fin read.kept read.writes refl refl within) said

-- ---- the end of a transaction

module _ (learns : Known) (r : Reply) (before now : Known) (old run mid new : Seen) (began : IsBegin {T = Unit {0}} {E = StopError} old run (Ok tt) Fault)
    (refused : r.accepted ≡ false → mid.writes ≡ run.writes) where
  kept_unwritten : (result : Result Reply StopError) → r.accepted ≡ true → IsKept learns r before now mid new result → RefusedUnwritten old new result
  kept_unwritten (Ok q) done k = λ f. absurd (false≢true (sym f ∙ ap (λ (x : Reply). x.accepted) k.reply ∙ done))
  kept_unwritten (Err stop) done k = tt

  pub closed_unwritten : (result : Result Reply StopError) → Closes learns r before now mid new result → RefusedUnwritten old new result
  closed_unwritten result h = elim (cases_Bool r.accepted) [
    | inl done ↦ kept_unwritten result done (MatchBool-at_true (IsKept learns r before now mid new result) (IsUndone r before now mid new result) done h)
    | inr undone ↦
        let k = MatchBool-at_false (IsKept learns r before now mid new result) (IsUndone r before now mid new result) undone h in
        subst (λ (x : Result Reply StopError). RefusedUnwritten old new x) (sym k.reply) (λ _. k.undo.writes ∙ refused undone ∙ began.writes)
  ]

module _ (times more : ℕ) (learns : Known) (r : Reply) (before now : Known) (old run mid new : Seen) (began : IsBegin {T = Unit {0}} {E = StopError} old run (Ok tt) Fault)
    (within : WritesWithinMore times more run mid) (refused : r.accepted ≡ false → mid.writes ≡ run.writes) where
  kept_writes : (result : Result Reply StopError) → IsKept learns r before now mid new result → OnOk result (WritesWithinMore times more old new)
  kept_writes (Ok q) k = same_writes times more old run mid new began.kept began.writes k.commit.kept k.commit.writes within
  kept_writes (Err stop) k = tt

  pub closed_writes : (result : Result Reply StopError) → Closes learns r before now mid new result → OnOk result (WritesWithinMore times more old new)
  closed_writes result h = elim (cases_Bool r.accepted) [
    | inl done ↦ kept_writes result (MatchBool-at_true (IsKept learns r before now mid new result) (IsUndone r before now mid new result) done h)
    | inr undone ↦
        let k = MatchBool-at_false (IsKept learns r before now mid new result) (IsUndone r before now mid new result) undone h in
        subst (λ (x : Result Reply StopError). OnOk x (WritesWithinMore times more old new)) (sym k.reply) (none_within times more old new (k.undo.writes ∙ refused undone ∙ began.writes))
  ]

  kept_same : mid.writes ≡ run.writes → (result : Result Reply StopError) → IsKept learns r before now mid new result → OnOk result (new.writes ≡ old.writes)
  kept_same e (Ok q) k = k.commit.writes ∙ e ∙ began.writes
  kept_same e (Err stop) k = tt

  closed_same : mid.writes ≡ run.writes → (result : Result Reply StopError) → Closes learns r before now mid new result → OnOk result (new.writes ≡ old.writes)
  closed_same e result h = elim (cases_Bool r.accepted) [
    | inl done ↦ kept_same e result (MatchBool-at_true (IsKept learns r before now mid new result) (IsUndone r before now mid new result) done h)
    | inr undone ↦
        let k = MatchBool-at_false (IsKept learns r before now mid new result) (IsUndone r before now mid new result) undone h in
        subst (λ (x : Result Reply StopError). OnOk x (new.writes ≡ old.writes)) (sym k.reply) (k.undo.writes ∙ e ∙ began.writes)
  ]

  -- an insert
  pub insert_closes : (x : Stmt) → times ≡ length x.path + 2 → more ≡ 8 → StandsUnwritten x before run mid (Ok r)
      → (result : Result Reply StopError) → Closes learns r before now mid new result → InsertsWithin x before old new result
  insert_closes x t m already result h = record {
    within = subst (λ n. OnOk result (WritesWithinMore n 8 old new)) t (subst (λ n. OnOk result (WritesWithinMore times n old new)) m (closed_writes result h));
    refused = closed_unwritten learns r before now old run mid new began refused result h;
    already = λ s a there. closed_same (already s (still_agrees old.kept run.kept before s began.kept a) there) result h;
  }
