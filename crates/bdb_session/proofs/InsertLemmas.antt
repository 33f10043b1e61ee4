-- What comes of an insert, by what is answered where the statement is added to tables.
use Rattle.std.proofs.Common.{◌≡◌, ◌∙◌, ℕ, Bool, true, false, not, ◌&&◌, List, [], ◌∷◌, Option, Some, None, Result, Ok, Err, refl, ap, sym, subst, inl, inr}
use Rattle.std.specs.Prelude.{if◌then◌else◌}
use Rattle.std.specs.List.{list_all}
use Rattle.std.specs.Ordering.{is_eq}
use Rattle.std.proofs.lemmas.Bool.{false≢true, and_parts, or_cases, not-true}
use Rattle.bdb_base.specs.Bases.{Contents, IsValid, belongs, key_lengths, stands, with_statement}
use Rattle.bdb_base.specs.Clash.{clash}
use Rattle.bdb_base.specs.Order.{statement_cmp}
use Rattle.bdb_base.specs.OrderLemmas.{statement_exact}
use Rattle.bdb_base.specs.Same.{same_path}
use Rattle.bdb_base.specs.Worlds.{contradicted}
use Rattle.bdb_base.specs.declared.kinds.Stmt.{Stmt}
use Rattle.bdb_base.specs.declared.kinds.What.{What}
use Rattle.bdb_base.proofs.SetLemmas.{is_eq-Equal}
use Rattle.bdb_base.proofs.FindLemmas.{find_none}
use Rattle.bdb_base.proofs.UpdateLemmas.{put_stands}
use Rattle.bdb_bind.specs.declared.bound.Bound.TheVariants.{Insert}
use Rattle.bdb_canon.specs.Sizes.{counts_of}
use Rattle.bdb_canon.specs.declared.sizes.Counts.{Counts}
use Rattle.bdb_keep.specs.Calls.{IsUndo}
use Rattle.bdb_keep.specs.Seen.{Seen, NeverFall}
use Rattle.bdb_render.specs.Replies.{count_reply}
use Rattle.bdb_render.specs.declared.refusal.Refusal.TheVariants as refusal
use Rattle.bdb_undo.specs.declared.change.Change.{Change}
use Rattle.bdb_undo.specs.declared.change.Named.TheVariants.{Nothing}
use Rattle.bdb_undo.proofs.ChangeLemmas.{put_leads}
use Rattle.bdb_update.specs.Calls.{MayMeet, SomeMayMeet, Adds, IsAdding, clash_of, size_passed, with_one, with_stmts}
use Rattle.bdb_update.specs.declared.answer.Added.TheVariants.{New, Already}
use Rattle.bdb_update.specs.declared.answer.UpdateError.{UpdateError}
use Rattle.bdb_update.specs.declared.answer.UpdateError.TheVariants as change
use Rattle.bdb_update.proofs.CallLemmas.{gone_itself}
use Rattle.bdb_update.proofs.JoinLemmas.{may_join}
use Rattle.bdb_session.specs.declared.reply.Reply.{Reply}
use Rattle.bdb_session.specs.declared.error.StopError.{StopError}
use Rattle.bdb_session.specs.declared.error.StopError.TheVariants.{Fault, Memory}
use Rattle.bdb_session.specs.Known.{Known, Agrees, AgreesOnSome}
use Rattle.bdb_session.specs.Machine.{bound_outcome, becomes, clash_with, clashes_with}
use Rattle.bdb_session.specs.Outcome.{State, Refused, Done}
use Rattle.bdb_session.specs.Within.{TellsChange, TellsWithin, IsSaid, Refuses, sized}
use Rattle.bdb_session.proofs.ChangeFacts.{size_limit, change_stopped, change_failed, untouched_agrees}
use Rattle.bdb_session.proofs.NotingLemmas.{told_changes, stays_unchanged, stopped_unchanged}
use Rattle.bdb_session.proofs.OutcomeLemmas.{becomes_done, becomes_full, becomes_itself, unless_none, unless_some}
use Rattle.bdb_session.proofs.WithinLemmas.{memory_tells, said_tells}

-- what all statements pass is passed by one that stands
member_passes : (p : Stmt → Bool) (stmts : List Stmt) (x : Stmt) → list_all p stmts ≡ true → stands stmts x ≡ true → p x ≡ true
member_passes p [] x h e = absurd (false≢true e)
member_passes p (y ∷ ys) x h e =
    let k = and_parts (p y) (list_all p ys) h in
    elim (or_cases (is_eq (statement_cmp y x)) (stands ys x) e) [
      | inl a ↦ ap p (sym (statement_exact.exact y x (is_eq-Equal (statement_cmp y x) a))) ∙ k.0
      | inr a ↦ member_passes p ys x k.1 a
    ]

-- a statement of a valid base clashes with none of it
standing_is_apart : (b : Contents) (x : Stmt) → IsValid b.catalog b.stmts → stands b.stmts x ≡ true → clash_of b x ≡ None
standing_is_apart b x valid there =
    let keys = key_lengths b.catalog.rels in
    find_none (λ y. same_path y.path x.path && clash keys x.tuple x.sign y.tuple y.sign) b.stmts
    (not-true (contradicted keys b.stmts x.path x.tuple x.sign) (member_passes (λ y. not (contradicted keys b.stmts y.path y.tuple y.sign)) b.stmts x valid.stmts.no_clash there))

-- ---- what comes of it

abbrev insert_text : State → Stmt → List ℕ
insert_text s x = count_reply (if stands s.base.stmts x then 0 else 1)

-- an insert that clashes with nothing
insert_apart : (s : State) (x : Stmt) → clash_of s.base x ≡ None → bound_outcome s (Insert x) ≡ becomes s (with_one s.base x) (insert_text s x)
insert_apart s x e = unless_none (clashes_with (clash_of s.base x)) (becomes s (with_one s.base x) (insert_text s x)) (ap clashes_with e)

insert_new : (s : State) (x : Stmt) → IsValid s.base.catalog s.base.stmts → clash_of s.base x ≡ None → size_passed (counts_of (with_one s.base x)) ≡ None → stands s.base.stmts x ≡ false
    → bound_outcome s (Insert x) ≡ Done (count_reply 1) 0 (record s { base = with_one s.base x })
insert_new s x valid apart room fresh =
    insert_apart s x apart
    ∙ becomes_done s (with_one s.base x) (insert_text s x) (size_limit s.base (with_statement s.base.stmts x) valid ∙ room)
    ∙ ap (λ (k : Bool). Done (count_reply (if k then 0 else 1)) 0 (record s { base = with_one s.base x })) fresh

insert_already : (s : State) (x : Stmt) → IsValid s.base.catalog s.base.stmts → stands s.base.stmts x ≡ true → bound_outcome s (Insert x) ≡ Done (count_reply 0) 0 s
insert_already s x valid there =
    insert_apart s x (standing_is_apart s.base x valid there)
    ∙ becomes_itself s (with_one s.base x) (insert_text s x) valid (ap (λ (xs : List Stmt). with_stmts s.base xs) (put_stands s.base.stmts x valid.stmts.sorted there))
    ∙ ap (λ (k : Bool). Done (count_reply (if k then 0 else 1)) 0 s) there

insert_clashes : (s : State) (x least : Stmt) → clash_of s.base x ≡ Some least → bound_outcome s (Insert x) ≡ Refused (clash_with least)
insert_clashes s x least e = unless_some (clashes_with (clash_of s.base x)) (clash_with least) (becomes s (with_one s.base x) (insert_text s x)) (ap clashes_with e)

insert_fills : (s : State) (x : Stmt) (what : What) → IsValid s.base.catalog s.base.stmts → clash_of s.base x ≡ None → size_passed (counts_of (with_one s.base x)) ≡ Some what
    → bound_outcome s (Insert x) ≡ Refused (refusal.Full what)
insert_fills s x what valid apart full =
    insert_apart s x apart ∙ becomes_full s (with_one s.base x) (insert_text s x) what (size_limit s.base (with_statement s.base.stmts x) valid ∙ full)

-- ---- what is told of it

module _ (k : Known) (x : Stmt) (before after : Counts) (old mid : Seen) (fits : belongs k.catalog x ≡ true) where
  pub insert_meets : (s : State) → Agrees old.kept (sized k before) s → MayMeet old.kept before x s.base
  insert_meets s a = record {
    base = record { stored = a.base.stored; valid = a.base.valid; counted = a.counts };
    belongs = ap (λ c. belongs c x) (sym a.catalog) ∙ fits;
  }

  pub insert_may_meet : AgreesOnSome old.kept (sized k before) → SomeMayMeet old.kept before x
  insert_may_meet some = record { base = some.state.base; may = insert_meets some.state some.agrees }

  new_agrees : (s : State) → Agrees old.kept (sized k before) s → IsAdding s.base x old mid before after (Ok New) → Agrees mid.kept (sized k after) (record s { base = with_one s.base x })
  new_agrees s a h = record {
    base = record {
      stored = h.becomes.stored;
      valid = (may_join s.base x a.base.valid (insert_meets s a).belongs h.apart h.room).next;
    };
    catalog = a.catalog;
    counts = h.becomes.counted;
  }

  pub insert_tells_new : (new : Seen) (result : Result Reply StopError) → AgreesOnSome old.kept (sized k before) → NeverFall old mid → Adds old mid before after x (Ok New)
      → ((s : State) → IsSaid k.catalog (Done (count_reply 1) 0 s) mid new result) → TellsWithin (λ s. bound_outcome s (Insert x)) (sized k before) (sized k after) old new result
  insert_tells_new new result some fall adds said =
      let at = λ (s : State) (a : Agrees old.kept (sized k before) s). adds s.base (insert_meets s a) in
      said_tells (λ s. bound_outcome s (Insert x)) (λ s. Done (count_reply 1) 0 (record s { base = with_one s.base x })) (sized k before) (sized k after) old mid new result some
      (record { goes = (at some.state some.agrees).becomes.goes_on; counts = fall })
      (λ s a. let h = at s a in insert_new s x a.base.valid h.apart h.room h.fresh)
      (λ s a. new_agrees s a (at s a)) (λ s. said (record s { base = with_one s.base x }))

  pub insert_tells_memory : (new : Seen) → AgreesOnSome old.kept (sized k before) → NeverFall old mid → Adds old mid before after x (Ok New) → IsUndo mid new
      → TellsWithin (λ s. bound_outcome s (Insert x)) (sized k before) (sized k after) old new (Err Memory)
  insert_tells_memory new some fall adds undo =
      memory_tells (λ s. bound_outcome s (Insert x)) (sized k before) (sized k after) old mid new
      (record { goes = (adds some.state.base (insert_meets some.state some.agrees)).becomes.goes_on; counts = fall }) undo

  pub insert_tells_already : (new : Seen) (result : Result Reply StopError) → AgreesOnSome old.kept (sized k before) → NeverFall old mid → Adds old mid before after x (Ok Already)
      → ((s : State) → IsSaid k.catalog (Done (count_reply 0) 0 s) mid new result) → TellsWithin (λ s. bound_outcome s (Insert x)) (sized k before) (sized k after) old new result
  insert_tells_already new result some fall adds said =
      let at = λ (s : State) (a : Agrees old.kept (sized k before) s). adds s.base (insert_meets s a) in
      said_tells (λ s. bound_outcome s (Insert x)) (λ s. Done (count_reply 0) 0 s) (sized k before) (sized k after) old mid new result some
      (record { goes = (at some.state some.agrees).untouched.goes_on; counts = fall })
      (λ s a. insert_already s x a.base.valid (at s a).there)
      (λ s a. untouched_agrees k before after old mid s (at s a).untouched a) said

  pub insert_tells_err : (new : Seen) (result : Result Reply StopError) (e : UpdateError) → AgreesOnSome old.kept (sized k before) → NeverFall old mid → Adds old mid before after x (Err e)
      → Refuses k.catalog e mid new result → TellsWithin (λ s. bound_outcome s (Insert x)) (sized k before) (sized k after) old new result
  insert_tells_err new result (change.Clash least) some fall adds said =
      let at = λ (s : State) (a : Agrees old.kept (sized k before) s). adds s.base (insert_meets s a) in
      said_tells (λ s. bound_outcome s (Insert x)) (λ s. Refused (clash_with least)) (sized k before) (sized k after) old mid new result some
      (record { goes = (at some.state some.agrees).untouched.goes_on; counts = fall })
      (λ s a. insert_clashes s x least (at s a).clash)
      (λ s a. untouched_agrees k before after old mid s (at s a).untouched a) (λ s. said)
  insert_tells_err new result (change.Full what) some fall adds said =
      let at = λ (s : State) (a : Agrees old.kept (sized k before) s). adds s.base (insert_meets s a) in
      said_tells (λ s. bound_outcome s (Insert x)) (λ s. Refused (refusal.Full what)) (sized k before) (sized k after) old mid new result some
      (record { goes = (at some.state some.agrees).untouched.goes_on; counts = fall })
      (λ s a. let h = at s a in insert_fills s x what a.base.valid h.apart h.passed)
      (λ s a. untouched_agrees k before after old mid s (at s a).untouched a) (λ s. said)
  insert_tells_err new result change.Fault some fall adds said =
      change_failed (λ s. bound_outcome s (Insert x)) (sized k before) (sized k after) before after old old mid new result (gone_itself old) fall (adds some.state.base (insert_meets some.state some.agrees)) said
  insert_tells_err new result change.Memory some fall adds said =
      change_stopped (λ s. bound_outcome s (Insert x)) (sized k before) (sized k after) before after old old mid new result (gone_itself old) fall (adds some.state.base (insert_meets some.state some.agrees)) said

  -- ---- which change is told of it

  pub insert_changes_new : (result : Result Reply StopError) (c : Change) → c ≡ record { named = Nothing; gone = []; come = x ∷ [] } → Adds old mid before after x (Ok New)
      → TellsChange (λ s. bound_outcome s (Insert x)) (sized k before) (Some c) old result
  insert_changes_new result c is adds =
      let at = λ (s : State) (a : Agrees old.kept (sized k before) s). adds s.base (insert_meets s a) in
      subst (λ (d : Change). TellsChange (λ s. bound_outcome s (Insert x)) (sized k before) (Some d) old result) (sym is)
      (told_changes (λ s. bound_outcome s (Insert x)) (λ s. Done (count_reply 1) 0 (record s { base = with_one s.base x })) (sized k before) (Some (record { named = Nothing; gone = []; come = x ∷ [] })) old result
      (λ s a. let h = at s a in insert_new s x a.base.valid h.apart h.room h.fresh)
      (λ s a. let h = at s a in (
        put_leads s.base.catalog s.base.stmts x a.base.valid (may_join s.base x a.base.valid (insert_meets s a).belongs h.apart h.room).next h.fresh,
        refl,
      )))

  pub insert_changes_already : (result : Result Reply StopError) (c : Option Change) → c ≡ None → Adds old mid before after x (Ok Already)
      → TellsChange (λ s. bound_outcome s (Insert x)) (sized k before) c old result
  insert_changes_already result c none adds =
      stays_unchanged (λ s. bound_outcome s (Insert x)) (λ s. Done (count_reply 0) 0 s) (sized k before) c old result none
      (λ s a. insert_already s x a.base.valid (adds s.base (insert_meets s a)).there) (λ s. refl)

  pub insert_changes_err : (new : Seen) (result : Result Reply StopError) (c : Option Change) (e : UpdateError) → c ≡ None → Adds old mid before after x (Err e)
      → Refuses k.catalog e mid new result → TellsChange (λ s. bound_outcome s (Insert x)) (sized k before) c old result
  insert_changes_err new result c (change.Clash least) none adds said =
      stays_unchanged (λ s. bound_outcome s (Insert x)) (λ s. Refused (clash_with least)) (sized k before) c old result none
      (λ s a. insert_clashes s x least (adds s.base (insert_meets s a)).clash) (λ s. refl)
  insert_changes_err new result c (change.Full what) none adds said =
      stays_unchanged (λ s. bound_outcome s (Insert x)) (λ s. Refused (refusal.Full what)) (sized k before) c old result none
      (λ s a. let h = adds s.base (insert_meets s a) in insert_fills s x what a.base.valid h.apart h.passed) (λ s. refl)
  insert_changes_err new result c change.Fault none adds said = stopped_unchanged (λ s. bound_outcome s (Insert x)) (sized k before) c old mid new result Fault said
  insert_changes_err new result c change.Memory none adds said = stopped_unchanged (λ s. bound_outcome s (Insert x)) (sized k before) c old mid new result Memory said
