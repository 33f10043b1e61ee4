-- A step along the bases, from its transaction's beginning to its end.
use Rattle.std.proofs.Common.{◌≡◌, ◌∙◌, ◌<◌, true, false, List, [], ◌∷◌, length, Option, None, Some, Result, Ok, Err, refl, sym, ap, subst, arith}
use Rattle.std.specs.Prelude.{MatchBool}
use Rattle.std.proofs.lemmas.Bool.{false≢true}
use Rattle.std.specs.List.{slice_get}
use Rattle.bdb_base.specs.Bases.{Contents}
use Rattle.bdb_canon.specs.declared.sizes.Counts.{Counts}
use Rattle.bdb_keep.specs.Calls.{IsBegin, IsUndo}
use Rattle.bdb_keep.specs.Seen.{Seen, IsStill}
use Rattle.bdb_keep.specs.Tables.{Tables}
use Rattle.bdb_render.specs.Replies.{ok_reply}
use Rattle.bdb_render.specs.declared.refusal.Refusal.{Refusal}
use Rattle.bdb_render.specs.declared.refusal.Refusal.TheVariants.{NoUndo, NoRedo}
use Rattle.bdb_return.specs.Returning.{MayGoBack, SomeMayGoBack, GoesBack, MayGoForth, SomeMayGoForth, GoesForth}
use Rattle.bdb_tables.specs.declared.tab.TabError.{TabError}
use Rattle.bdb_tables.specs.declared.tab.TabError.TheVariants as tab
use Rattle.bdb_undo.specs.Changes.{CanName, Leads, named_back, named_forth}
use Rattle.bdb_undo.specs.Histories.{stepped_back, stepped_forth}
use Rattle.bdb_undo.specs.Timelines.{Timeline, KeepsTimeline, undone, redone}
use Rattle.bdb_undo.specs.declared.change.Change.{Change}
use Rattle.bdb_undo.proofs.ChangeLemmas.{back_gives_the_base_before}
use Rattle.bdb_undo.proofs.TimelineLemmas.{back_undoes, forth_redoes, last_leads_here, coming_leads_ahead, nothing_to_undo, nothing_to_redo}
use Rattle.bdb_update.specs.Calls.{StoresSized}
use Rattle.bdb_val.specs.Steps.{IsChanging}
use Rattle.bdb_update.proofs.CallLemmas.{gone_itself}
use Rattle.bdb_val.proofs.Calls.{HasGone, changing_ok, changing_undone}
use Rattle.bdb_session.specs.Bounds.{RefusedUnwritten}
use Rattle.bdb_session.specs.Following.{Follows, IsFollowed, TellsStep, gone_back, gone_forth}
use Rattle.bdb_session.specs.Known.{Known, Agrees, Remembers, RemembersSome}
use Rattle.bdb_session.specs.Outcome.{State, Outcome, Blank, Refused, Done, is_accepted, commit_count, start_from}
use Rattle.bdb_session.specs.Served.{Serves, AnswersAlone}
use Rattle.bdb_session.specs.Undoing.{led, stepped}
use Rattle.bdb_session.specs.declared.news.News.{News}
use Rattle.bdb_session.specs.Within.{IsKept, IsUndone, IsSaid, Closes, TellsWithin, learned, noted_by}
use Rattle.bdb_session.specs.declared.reply.Reply.{Reply}
use Rattle.bdb_session.specs.declared.error.StopError.{StopError}
use Rattle.bdb_session.specs.declared.error.StopError.TheVariants.{Fault, Memory}
use Rattle.bdb_session.proofs.FollowLemmas.{agrees_as, still_remembers, refused_follows}
use Rattle.bdb_session.proofs.ServedLemmas.{still_agrees}
use Rattle.bdb_session.proofs.WithinLemmas.{begin_stops, step_serves, step_stops, table_stops, memory_tells}

-- what comes of a step to a base
abbrev step_outcome : Timeline → State → Outcome
step_outcome u s = Done ok_reply 0 (start_from u.now)

once : (u : Timeline) (s : State) → is_accepted (step_outcome u s) ≡ true → commit_count (step_outcome u s) ≡ 1
once u s e = refl

-- ---- where a step leads

pub undo_leads : (k : Known) (t : Tables) (c : Change) (l : Timeline) → Remembers t k l → slice_get k.history.undos 0 ≡ Some c
    → (u : Timeline) × (undone l ≡ Some u) × Leads c u.now l.now
undo_leads k t c l r e = last_leads_here k.history l c r.history e

pub redo_leads : (k : Known) (t : Tables) (c : Change) (l : Timeline) → Remembers t k l → slice_get k.history.redos 0 ≡ Some c
    → (u : Timeline) × (redone l ≡ Some u) × Leads c l.now u.now
redo_leads k t c l r e = coming_leads_ahead k.history l c r.history e

-- a list with an item has a first one
first_of : {X : Type 0} (xs : List X) → 0 < length xs → (x : X) × (slice_get xs 0 ≡ Some x)
first_of [] h = absurd (omega arith)
first_of (x ∷ xs) h = (x, refl)

none_of : {X : Type 0} (xs : List X) → length xs ≡ 0 → slice_get xs 0 ≡ None
none_of [] e = refl
none_of (x ∷ xs) e = absurd cc

pub none_first : {X : Type 0} (xs : List X) → 0 < length xs → slice_get xs 0 ≡ None → ⊥
none_first [] h e = absurd (omega arith)
none_first (x ∷ xs) h e = absurd cc

-- ---- nothing to take back, or to make again

pub no_undo : (k : Known) (t : Tables) (l : Timeline) → length k.history.undos ≡ 0 → Remembers t k l → undone l ≡ None
no_undo k t l e r = nothing_to_undo k.history l r.history (none_of k.history.undos e)

pub no_redo : (k : Known) (t : Tables) (l : Timeline) → length k.history.redos ≡ 0 → Remembers t k l → redone l ≡ None
no_redo k t l e r = nothing_to_redo k.history l r.history (none_of k.history.redos e)

pub nowhere : (x : Refusal) (step : Timeline → Option Timeline) (k : Known) (old : Seen) (result : Result Reply StopError)
    → ((t : Timeline) → Remembers old.kept k t → step t ≡ None) → IsStill old → AnswersAlone k.catalog (Refused x) result
    → Follows (λ t. stepped x (step t)) (λ t. led t (step t)) k k old old result
nowhere x step k old result none still told =
    refused_follows (λ t. stepped x (step t)) (λ t. led t (step t)) x k old result (λ t r. ap (stepped x) (none t r)) (λ t r. ap (led t) (none t r)) still told

-- ---- within the transaction

-- what is told of a step to a base, as of one over the base held
module _ (step : Timeline → Option Timeline) (before learns gone : Known) (run mid : Seen) (catalog : gone.catalog ≡ learns.catalog) (counts : gone.counts ≡ learns.counts) where
  pub tells_step : (t u : Timeline) → Remembers run.kept before t → step t ≡ Some u → (result : Result Reply StopError) → TellsStep step before learns run mid result
      → TellsWithin (step_outcome u) before gone run mid result
  tells_step t u r e (Ok q) h =
      let told = h.told t u r e in
      record {
        told = λ s a. record {
          reply = record { text = told.reply.text; accepted = told.reply.accepted; answers = told.reply.answers };
          next = agrees_as mid.kept learns gone (start_from u.now) catalog counts told.agrees;
        };
        changing = h.changing;
      }
  tells_step t u r e (Err stop) h = record { told = λ s a. record { reply = tt; next = tt }; changing = h.changing }

-- a step that has ended follows
module _ (x : Refusal) (step : Timeline → Option Timeline) (before learns gone : Known) (old run mid new : Seen) (still : IsStill old)
    (began : IsBegin {T = Unit {0}} {E = StopError} old run (Ok tt) Fault) (catalog : gone.catalog ≡ learns.catalog) (counts : gone.counts ≡ learns.counts)
    (leads : (t : Timeline) → Remembers old.kept before t → (u : Timeline) × (step t ≡ Some u) × KeepsTimeline gone.history u) (some : RemembersSome old.kept before) where
  begun : (t : Timeline) → Remembers old.kept before t → Remembers run.kept before t
  begun t r = still_remembers old.kept run.kept before t began.kept r

  closed : (r : Reply) (now : Known) (result : Result Reply StopError) → r.accepted ≡ true → IsKept gone r before now mid new result → Closes gone r before now mid new result
  closed r now result e k = subst (λ b. MatchBool b (IsKept gone r before now mid new result) (IsUndone r before now mid new result)) (sym e) k

  serves_to : (t : Timeline) (m : Remembers old.kept before t) (r : Reply) (now : Known) (result : Result Reply StopError) → TellsStep step before learns run mid (Ok r)
      → r.accepted ≡ true → IsKept gone r before now mid new result → Serves (step_outcome (leads t m).0) before now old new result
  serves_to t m r now result h e k =
      let to = leads t m in
      step_serves (step_outcome to.0) (once to.0) before gone old run mid new still began r now result
      (tells_step step before learns gone run mid catalog counts t to.0 (begun t m) to.1 (Ok r) h) (closed r now result e k)

  served_to : (t : Timeline) (m : Remembers old.kept before t) (r : Reply) (now : Known) (result : Result Reply StopError) → IsKept gone r before now mid new result
      → Serves (step_outcome (leads t m).0) before now old new result → IsFollowed t (step_outcome (leads t m).0 (start_from t.now)) (leads t m).0 now old new result
  served_to t m r now (Ok q) k s =
      let h = s.served (start_from t.now) m.agrees in
      record {
        reply = h.reply;
        next = record { agrees = h.next; history = subst (λ (j : Known). KeepsTimeline j.history (leads t m).0) (sym k.next) (leads t m).2 };
        commits = h.commits;
        alone = h.alone;
      }
  served_to t m r now (Err stop) k s = record { reply = tt; next = tt; commits = tt; alone = tt }

  pub step_follows : (r : Reply) (now : Known) (result : Result Reply StopError) → TellsStep step before learns run mid (Ok r) → r.accepted ≡ true
      → IsKept gone r before now mid new result → Follows (λ t. stepped x (step t)) (λ t. led t (step t)) before now old new result
  step_follows r now result h e k = record {
    served = λ t m.
        let to = leads t m in
        subst (λ (o : Option Timeline). IsFollowed t (stepped x o) (led t o) now old new result) (sym to.1)
        (served_to t m r now result k (serves_to t m r now result h e k));
    ends = (serves_to some.timeline some.remembers r now result h e k).ends;
  }

  pub step_ends : (stop : StopError) → TellsStep step before learns run mid (Err stop) → Follows (λ t. stepped x (step t)) (λ t. led t (step t)) before before old mid (Err stop)
  step_ends stop h =
      let to = leads some.timeline some.remembers in
      record {
        served = λ t m. record { reply = tt; next = tt; commits = tt; alone = tt };
        ends = (step_stops (step_outcome to.0) (once to.0) before gone old run mid mid still began stop
            (tells_step step before learns gone run mid catalog counts some.timeline to.0 (begun some.timeline some.remembers) to.1 (Err stop) h)).ends;
      }

-- a transaction that does not begin
pub step_unbegun : (x : Refusal) (step : Timeline → Option Timeline) (k : Known) (old new : Seen) (stop : StopError) → IsStill old → IsBegin {T = Unit {0}} old new (Err stop) Fault
    → Follows (λ t. stepped x (step t)) (λ t. led t (step t)) k k old new (Err stop)
step_unbegun x step k old new stop still b = record {
  served = λ t m. record { reply = tt; next = tt; commits = tt; alone = tt };
  ends = (begin_stops (λ s. Refused x) k old new stop still b).ends;
}

-- ---- which bases there are

module _ (k : Known) (t : Tables) (c : Change) where
  sized_now : (l : Timeline) (counts : Counts) → counts ≡ k.counts → Remembers t k l → StoresSized t counts l.now
  sized_now l counts e r = record { stored = r.agrees.base.stored; valid = r.agrees.base.valid; counted = e ∙ r.agrees.counts }

  pub may_go_back : (counts : Counts) → counts ≡ k.counts → (e : slice_get k.history.undos 0 ≡ Some c) (l : Timeline) (r : Remembers t k l)
      → MayGoBack t counts c (undo_leads k t c l r e).0.now l.now
  may_go_back counts same e l r = record { base = sized_now l counts same r; leads = (undo_leads k t c l r e).2 }

  pub some_go_back : (counts : Counts) → counts ≡ k.counts → slice_get k.history.undos 0 ≡ Some c → RemembersSome t k → SomeMayGoBack t counts c
  some_go_back counts same e some = record {
    from = (undo_leads k t c some.timeline some.remembers e).0.now;
    to = some.timeline.now;
    may = may_go_back counts same e some.timeline some.remembers;
  }

  pub may_go_forth : (counts : Counts) → counts ≡ k.counts → (e : slice_get k.history.redos 0 ≡ Some c) (l : Timeline) (r : Remembers t k l)
      → MayGoForth t counts c l.now (redo_leads k t c l r e).0.now
  may_go_forth counts same e l r = record { base = sized_now l counts same r; leads = (redo_leads k t c l r e).2 }

  pub some_go_forth : (counts : Counts) → counts ≡ k.counts → slice_get k.history.redos 0 ≡ Some c → RemembersSome t k → SomeMayGoForth t counts c
  some_go_forth counts same e some = record {
    from = some.timeline.now;
    to = (redo_leads k t c some.timeline some.remembers e).0.now;
    may = may_go_forth counts same e some.timeline some.remembers;
  }

-- ---- where a step has led

-- what is known before a change that is taken back
module _ (k : Known) (t : Tables) (c : Change) (first : slice_get k.history.undos 0 ≡ Some c) (l : Timeline) (r : Remembers t k l) where
  catalog_before : named_back c.named k.catalog ≡ (undo_leads k t c l r first).0.now.catalog
  catalog_before =
      let to = undo_leads k t c l r first in
      ap (named_back c.named) r.agrees.catalog ∙ ap (λ (b : Contents). b.catalog) (back_gives_the_base_before c to.0.now l.now to.2)

  pub can_come_back : CanName c.named (named_back c.named k.catalog)
  can_come_back = subst (CanName c.named) (sym catalog_before) (undo_leads k t c l r first).2.can

  pub came_last : k.catalog ≡ named_forth c.named (named_back c.named k.catalog)
  came_last = r.agrees.catalog ∙ (undo_leads k t c l r first).2.forth ∙ ap (named_forth c.named) (sym catalog_before)

pub can_come_again : (k : Known) (t : Tables) (c : Change) (l : Timeline) → slice_get k.history.redos 0 ≡ Some c → Remembers t k l → CanName c.named k.catalog
can_come_again k t c l first r = subst (CanName c.named) (sym r.agrees.catalog) (redo_leads k t c l r first).2.can

one_timeline : (o : Option Timeline) (u v : Timeline) → o ≡ Some u → o ≡ Some v → u ≡ v
one_timeline o u v e f = let both : Some u ≡ Some v = sym e ∙ f in cc

pub agrees_back : (k now : Known) (t mid : Tables) (c : Change) (before after : Counts) → before ≡ k.counts → slice_get k.history.undos 0 ≡ Some c → GoesBack t mid before after c
    → now.catalog ≡ named_back c.named k.catalog → now.counts ≡ after → (l u : Timeline) → Remembers t k l → undone l ≡ Some u → Agrees mid now (start_from u.now)
agrees_back k now t mid c before after same first goes catalog counts l u r e =
    let to = undo_leads k t c l r first in
    let h = goes to.0.now l.now (may_go_back k t c before same first l r) in
    subst (λ (x : Timeline). Agrees mid now (start_from x.now)) (one_timeline (undone l) to.0 u to.1 e) (record {
      base = record { stored = h.stored; valid = h.valid };
      catalog = catalog ∙ catalog_before k t c first l r;
      counts = counts ∙ h.counted;
    })

pub agrees_forth : (k now : Known) (t mid : Tables) (c : Change) (before after : Counts) → before ≡ k.counts → slice_get k.history.redos 0 ≡ Some c → GoesForth t mid before after c
    → now.catalog ≡ named_forth c.named k.catalog → now.counts ≡ after → (l u : Timeline) → Remembers t k l → redone l ≡ Some u → Agrees mid now (start_from u.now)
agrees_forth k now t mid c before after same first goes catalog counts l u r e =
    let to = redo_leads k t c l r first in
    let h = goes l.now to.0.now (may_go_forth k t c before same first l r) in
    subst (λ (x : Timeline). Agrees mid now (start_from x.now)) (one_timeline (redone l) to.0 u to.1 e) (record {
      base = record { stored = h.stored; valid = h.valid };
      catalog = catalog ∙ ap (named_forth c.named) r.agrees.catalog ∙ sym to.2.forth;
      counts = counts ∙ h.counted;
    })

-- ---- what is told of it

pub said_step : (step : Timeline → Option Timeline) (k now : Known) (old mid new : Seen) (result : Result Reply StopError) → RemembersSome old.kept k → HasGone old mid
    → ((t u : Timeline) → Remembers old.kept k t → step t ≡ Some u → Agrees mid.kept now (start_from u.now))
    → ((s : State) → IsSaid k.catalog (Done ok_reply 0 s) mid new result) → TellsStep step k now old new result
said_step step k now old mid new (Ok q) some gone agrees said = record {
  told = λ t u r e.
      let h = said (start_from u.now) in
      record {
        reply = record { text = h.reply.text; accepted = h.reply.accepted; answers = h.reply.answers };
        agrees = still_agrees mid.kept new.kept now (start_from u.now) (ap (λ (x : Seen). x.kept) h.alone) (agrees t u r e);
      };
  changing = subst (λ (x : Seen). IsChanging {T = Reply} {E = StopError} old x (Ok q) Fault) (sym (said (start_from some.timeline.now)).alone) (changing_ok old mid q Fault gone);
}
said_step step k now old mid new (Err stop) some gone agrees said =
    let h = said (start_from some.timeline.now) in record {
      told = λ t u r e. record { reply = tt; agrees = tt };
      changing = changing_undone {U = Reply} old mid new stop Fault gone h.undone h.memory;
    }

pub step_stopped : (step : Timeline → Option Timeline) (k now : Known) (old new : Seen) (stop : StopError) → IsChanging {T = Reply} {E = StopError} old new (Err stop) Fault
    → TellsStep step k now old new (Err stop)
step_stopped step k now old new stop h = record { told = λ t u r e. record { reply = tt; agrees = tt }; changing = h }

-- no memory, after which the transaction was undone
pub step_forgotten : (step : Timeline → Option Timeline) (k now : Known) (old new : Seen) → IsUndo old new → TellsStep step k now old new (Err Memory)
step_forgotten step k now old new undo = step_stopped step k now old new Memory (memory_tells (λ s. Blank) k now old old new (gone_itself old) undo).changing

-- tables that stopped
pub step_failed : {T : Type 0} (step : Timeline → Option Timeline) (k now : Known) (old new : Seen) (error : TabError) (stop : StopError) → (stop ≡ Fault → error ≡ tab.Fault)
    → IsChanging {T = T} old new (Err error) tab.Fault → TellsStep step k now old new (Err stop)
step_failed {T} step k now old new error stop same h = step_stopped step k now old new stop (table_stops {T = T} (λ s. Blank) k now old new error stop same h).changing

-- ---- undo and redo, from beginning to end

-- a step that told is accepted
step_accepted : (step : Timeline → Option Timeline) (before learns : Known) (run mid : Seen) (t u : Timeline) → Remembers run.kept before t → step t ≡ Some u → (r : Reply)
    → TellsStep step before learns run mid (Ok r) → r.accepted ≡ true
step_accepted step before learns run mid t u m e r h = (h.told t u m e).reply.accepted

module _ (k : Known) (news : News) (old run mid new : Seen) (still : IsStill old) (began : IsBegin {T = Unit {0}} {E = StopError} old run (Ok tt) Fault) (some : RemembersSome old.kept k)
    (unchanged : news.change ≡ None) where
  begins : (t : Timeline) → Remembers old.kept k t → Remembers run.kept k t
  begins t m = still_remembers old.kept run.kept k t began.kept m

  undo_leads_on : 0 < length k.history.undos → (t : Timeline) → Remembers old.kept k t → (u : Timeline) × (undone t ≡ Some u) × KeepsTimeline (gone_back (learned k news)).history u
  undo_leads_on many t m =
      let first = first_of k.history.undos many in
      let to = undo_leads k old.kept first.0 t m first.1 in
      (to.0, to.1, subst (λ (o : Option Change). KeepsTimeline (stepped_back (noted_by o k.history)) to.0) (sym unchanged) (back_undoes k.history t to.0 m.history to.1))

  redo_leads_on : 0 < length k.history.redos → (t : Timeline) → Remembers old.kept k t → (u : Timeline) × (redone t ≡ Some u) × KeepsTimeline (gone_forth (learned k news)).history u
  redo_leads_on many t m =
      let first = first_of k.history.redos many in
      let to = redo_leads k old.kept first.0 t m first.1 in
      (to.0, to.1, subst (λ (o : Option Change). KeepsTimeline (stepped_forth (noted_by o k.history)) to.0) (sym unchanged) (forth_redoes k.history t to.0 m.history to.1))

  pub undo_closes : 0 < length k.history.undos → (r : Reply) (now : Known) (result : Result Reply StopError) → TellsStep undone k (learned k news) run mid (Ok r)
      → IsKept (gone_back (learned k news)) r k now mid new result → Follows (λ t. stepped NoUndo (undone t)) (λ t. led t (undone t)) k now old new result
  undo_closes many r now result h kept =
      let to = undo_leads_on many some.timeline some.remembers in
      step_follows NoUndo undone k (learned k news) (gone_back (learned k news)) old run mid new still began refl refl (undo_leads_on many) some r now result h
      (step_accepted undone k (learned k news) run mid some.timeline to.0 (begins some.timeline some.remembers) to.1 r h) kept

  pub redo_closes : 0 < length k.history.redos → (r : Reply) (now : Known) (result : Result Reply StopError) → TellsStep redone k (learned k news) run mid (Ok r)
      → IsKept (gone_forth (learned k news)) r k now mid new result → Follows (λ t. stepped NoRedo (redone t)) (λ t. led t (redone t)) k now old new result
  redo_closes many r now result h kept =
      let to = redo_leads_on many some.timeline some.remembers in
      step_follows NoRedo redone k (learned k news) (gone_forth (learned k news)) old run mid new still began refl refl (redo_leads_on many) some r now result h
      (step_accepted redone k (learned k news) run mid some.timeline to.0 (begins some.timeline some.remembers) to.1 r h) kept

  pub undo_stops : 0 < length k.history.undos → (stop : StopError) → TellsStep undone k (learned k news) run mid (Err stop)
      → Follows (λ t. stepped NoUndo (undone t)) (λ t. led t (undone t)) k k old mid (Err stop)
  undo_stops many stop h = step_ends NoUndo undone k (learned k news) (gone_back (learned k news)) old run mid new still began refl refl (undo_leads_on many) some stop h

  pub redo_stops : 0 < length k.history.redos → (stop : StopError) → TellsStep redone k (learned k news) run mid (Err stop)
      → Follows (λ t. stepped NoRedo (redone t)) (λ t. led t (redone t)) k k old mid (Err stop)
  redo_stops many stop h = step_ends NoRedo redone k (learned k news) (gone_forth (learned k news)) old run mid new still began refl refl (redo_leads_on many) some stop h

-- what is told of a step that is never refused writes as it may
pub step_unwritten : (step : Timeline → Option Timeline) (x : Refusal) (before now : Known) (old new : Seen) (result : Result Reply StopError) → RemembersSome old.kept before
    → ((t : Timeline) → Remembers old.kept before t → (u : Timeline) × (step t ≡ Some u)) → Follows (λ t. stepped x (step t)) (λ t. led t (step t)) before now old new result
    → RefusedUnwritten old new result
step_unwritten step x before now old new (Ok r) some leads h = λ refused.
    let to = leads some.timeline some.remembers in
    let accepted : r.accepted ≡ true = (h.served some.timeline some.remembers).reply.accepted ∙ ap (λ (o : Option Timeline). is_accepted (stepped x o)) to.1 in
    absurd (false≢true (sym refused ∙ accepted))
step_unwritten step x before now old new (Err stop) some leads h = tt

pub undo_leads_somewhere : (k : Known) (t : Tables) → 0 < length k.history.undos → (l : Timeline) → Remembers t k l → (u : Timeline) × (undone l ≡ Some u)
undo_leads_somewhere k t many l m =
    let first = first_of k.history.undos many in
    let to = undo_leads k t first.0 l m first.1 in
    (to.0, to.1)

pub redo_leads_somewhere : (k : Known) (t : Tables) → 0 < length k.history.redos → (l : Timeline) → Remembers t k l → (u : Timeline) × (redone l ≡ Some u)
redo_leads_somewhere k t many l m =
    let first = first_of k.history.redos many in
    let to = redo_leads k t first.0 l m first.1 in
    (to.0, to.1)
