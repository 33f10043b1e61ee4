-- What becomes of a step within a transaction.
use Rattle.std.proofs.Common.{◌≡◌, ◌∙◌, ℕ, ◌≤◌, true, false, [], Option, Result, Ok, Err, refl, sym, ap, subst, inl, inr, arith}
use Rattle.std.proofs.lemmas.Bool.{cases_Bool, MatchBool-at_true, MatchBool-at_false}
use Rattle.bdb_base.specs.Causes.{HasCause, Rises}
use Rattle.bdb_base.proofs.CauseLemmas.{rose_later, rises_once}
use Rattle.bdb_bind.specs.declared.bound.Bound.{Bound}
use Rattle.bdb_canon.specs.declared.sizes.Counts.{Counts}
use Rattle.bdb_keep.specs.Calls.{IsBegin, IsUndo}
use Rattle.bdb_keep.specs.Seen.{Seen, IsStill, IsDropped, NeverFall, Unchanged, GoesOn}
use Rattle.bdb_render.specs.declared.refusal.Refusal.{Refusal}
use Rattle.bdb_tables.specs.declared.tab.TabError.{TabError}
use Rattle.bdb_tables.specs.declared.tab.TabError.TheVariants as tab
use Rattle.bdb_tables.proofs.Loops.{counts_then}
use Rattle.bdb_update.proofs.CallLemmas.{gone_itself}
use Rattle.bdb_undo.specs.declared.change.Change.{Change}
use Rattle.bdb_val.specs.Steps.{IsChanging}
use Rattle.bdb_val.proofs.Calls.{HasGone, changing_err, changing_ok, changing_undone}
use Rattle.bdb_session.specs.declared.news.News.{News}
use Rattle.bdb_session.specs.declared.reply.Reply.{Reply}
use Rattle.bdb_session.specs.declared.error.StopError.{StopError}
use Rattle.bdb_session.specs.declared.error.StopError.TheVariants.{Fault, Memory}
use Rattle.bdb_session.specs.Known.{Known, Agrees, AgreesOnSome}
use Rattle.bdb_session.specs.Machine.{bound_outcome}
use Rattle.bdb_session.specs.Outcome.{State, Outcome, Blank, Refused, Done, text_of, is_accepted, state_after, commit_count}
use Rattle.bdb_session.specs.Served.{IsReply, Serves}
use Rattle.bdb_session.specs.Within.{IsToldWithin, TellsWithin, IsSaid, IsKept, IsUndone, Closes, catalog_by, learned, nothing_new, sized}
use Rattle.bdb_session.proofs.ServedLemmas.{still_agrees, stop_serves, ends_well}

-- ---- what is told of a step

-- what is said of a step that went on and came to this in each state
pub said_tells : (outcome known : State → Outcome) (before now : Known) (old mid new : Seen) (result : Result Reply StopError) → AgreesOnSome old.kept before → HasGone old mid
    → ((s : State) → Agrees old.kept before s → outcome s ≡ known s)
    → ((s : State) → Agrees old.kept before s → Agrees mid.kept now (state_after s (known s)))
    → ((s : State) → IsSaid before.catalog (known s) mid new result) → TellsWithin outcome before now old new result
said_tells outcome known before now old mid new (Ok r) some gone is agrees said = record {
  told = λ s a.
      let h = said s in
      subst (λ (o : Outcome). IsToldWithin s o now old new (Ok r)) (sym (is s a)) (record {
        reply = record { text = h.reply.text ∙ ap (λ c. text_of c (known s)) a.catalog; accepted = h.reply.accepted; answers = h.reply.answers };
        next = still_agrees mid.kept new.kept now (state_after s (known s)) (ap (λ (x : Seen). x.kept) h.alone) (agrees s a);
      });
  changing = subst (λ (x : Seen). IsChanging {T = Reply} {E = StopError} old x (Ok r) Fault) (sym (said some.state).alone) (changing_ok old mid r Fault gone);
}
said_tells outcome known before now old mid new (Err stop) some gone is agrees said =
    let h = said some.state in record {
      told = λ s a. record { reply = tt; next = tt };
      changing = changing_undone {U = Reply} old mid new stop Fault gone h.undone h.memory;
    }

-- a step that stopped
pub stop_tells : (outcome : State → Outcome) (before now : Known) (old new : Seen) (stop : StopError) → IsChanging {T = Reply} old new (Err stop) Fault
    → TellsWithin outcome before now old new (Err stop)
stop_tells outcome before now old new stop h = record { told = λ s a. record { reply = tt; next = tt }; changing = h }

pub call_stops : {T : Type 0} (outcome : State → Outcome) (before now : Known) (old mid new : Seen) (stop : StopError) → HasGone old mid → IsChanging {T = T} mid new (Err stop) Fault
    → TellsWithin outcome before now old new (Err stop)
call_stops {T} outcome before now old mid new stop gone h = stop_tells outcome before now old new stop (changing_err {T = T} {U = Reply} old mid new stop Fault gone h)

-- a step over tables that stopped, after a call that went on
pub tables_stop : {T : Type 0} (outcome : State → Outcome) (before now : Known) (old mid new : Seen) (error : TabError) (stop : StopError) → (stop ≡ Fault → error ≡ tab.Fault) → HasGone old mid
    → IsChanging {T = T} mid new (Err error) tab.Fault → TellsWithin outcome before now old new (Err stop)
tables_stop {T} outcome before now old mid new error stop same gone h =
    let k = changing_err {T = T} {U = Reply} old mid new error tab.Fault gone h in
    stop_tells outcome before now old new stop (record {
      counts = k.counts;
      steps = record {
        cause = record { later = k.steps.cause.later; rose = λ e. k.steps.cause.rose (let is : stop ≡ Fault = cc in ap Err (same is)) };
        ok = tt;
        err = k.steps.err;
      };
    })

-- a step over tables that stopped at once
pub table_stops : {T : Type 0} (outcome : State → Outcome) (before now : Known) (old new : Seen) (error : TabError) (stop : StopError) → (stop ≡ Fault → error ≡ tab.Fault)
    → IsChanging {T = T} old new (Err error) tab.Fault → TellsWithin outcome before now old new (Err stop)
table_stops {T} outcome before now old new error stop same h = tables_stop {T = T} outcome before now old old new error stop same (gone_itself old) h

-- a step that was undone as memory ran out, after calls that went on
pub memory_tells : (outcome : State → Outcome) (before now : Known) (old mid new : Seen) → HasGone old mid → IsUndo mid new → TellsWithin outcome before now old new (Err Memory)
memory_tells outcome before now old mid new gone undo =
    stop_tells outcome before now old new Memory (changing_undone {U = Reply} old mid new Memory Fault gone undo (λ e. absurd cc))

-- what is said of rows that were read, and of what is refused
pub read_tells : (outcome known : State → Outcome) (k : Known) (old mid new : Seen) (result : Result Reply StopError) → AgreesOnSome old.kept k → HasGone old mid → mid.kept ≡ old.kept
    → ((s : State) → Agrees old.kept k s → outcome s ≡ known s) → ((s : State) → state_after s (known s) ≡ s) → ((s : State) → IsSaid k.catalog (known s) mid new result)
    → TellsWithin outcome k k old new result
read_tells outcome known k old mid new result some gone kept is stays said =
    said_tells outcome known k k old mid new result some gone is
    (λ s a. subst (λ (x : State). Agrees mid.kept k x) (sym (stays s)) (still_agrees old.kept mid.kept k s kept a)) said

-- what is refused
pub refused_tells : (outcome : State → Outcome) (x : Refusal) (k : Known) (old new : Seen) (result : Result Reply StopError) → AgreesOnSome old.kept k
    → ((s : State) → Agrees old.kept k s → outcome s ≡ Refused x) → IsSaid k.catalog (Refused x) old new result → TellsWithin outcome k k old new result
refused_tells outcome x k old new result some is said =
    read_tells outcome (λ s. Refused x) k old old new result some (gone_itself old) refl is (λ s. refl) (λ s. said)

-- nothing is said
pub blank_tells : (outcome : State → Outcome) (k : Known) (old : Seen) (r : Reply) → ((s : State) → outcome s ≡ Blank) → r.text ≡ [] → r.accepted ≡ true → r.answers ≡ 0
    → TellsWithin outcome k k old old (Ok r)
blank_tells outcome k old r is text accepted answers = record {
  told = λ s a. subst (λ (o : Outcome). IsToldWithin s o k old old (Ok r)) (sym (is s)) (record { reply = record { text = text; accepted = accepted; answers = answers }; next = a });
  changing = changing_ok old old r Fault (gone_itself old);
}

-- by what this comes of in the states with which the tables agree
pub tells_where : (outcome known : State → Outcome) (before now : Known) (old new : Seen) (result : Result Reply StopError) → ((s : State) → Agrees old.kept before s → outcome s ≡ known s)
    → TellsWithin known before now old new result → TellsWithin outcome before now old new result
tells_where outcome known before now old new result is h = record {
  told = λ s a. subst (λ (o : Outcome). IsToldWithin s o now old new result) (sym (is s a)) (h.told s a);
  changing = h.changing;
}

-- by what this comes of, where that is known, and by what is known before and next
pub tells_as : (outcome known : State → Outcome) (before from now next : Known) (old new : Seen) (result : Result Reply StopError) → ((s : State) → outcome s ≡ known s) → before ≡ from → next ≡ now
    → TellsWithin known from now old new result → TellsWithin outcome before next old new result
tells_as outcome known before from now next old new result is e f h =
    subst (λ (k : Known). TellsWithin outcome k next old new result) (sym e) (subst (λ (k : Known). TellsWithin outcome from k old new result) (sym f) (record {
      told = λ s a. subst (λ (o : Outcome). IsToldWithin s o now old new result) (sym (is s)) (h.told s a);
      changing = h.changing;
    }))

-- whatever changes the session then keeps
pub tells_knowing : (outcome : State → Outcome) (before now next : Known) (old new : Seen) (result : Result Reply StopError) → next.catalog ≡ now.catalog → next.counts ≡ now.counts
    → TellsWithin outcome before now old new result → TellsWithin outcome before next old new result
tells_knowing outcome before now next old new (Ok r) catalog counts h = record {
  told = λ s a.
      let k = h.told s a in
      record { reply = k.reply; next = record { base = k.next.base; catalog = catalog ∙ k.next.catalog; counts = counts ∙ k.next.counts } };
  changing = h.changing;
}
tells_knowing outcome before now next old new (Err stop) catalog counts h = record { told = λ s a. record { reply = tt; next = tt }; changing = h.changing }

-- of a command that is bound, where nothing was learned before: by what comes of a step that learns nothing, and of one that learns no names
pub tells_unlearned : (b known : Bound) (k : Known) (news : News) (old new : Seen) (result : Result Reply StopError) → news ≡ nothing_new k → b ≡ known
    → TellsWithin (λ s. bound_outcome s known) k k old new result → TellsWithin (λ s. bound_outcome s b) k (learned k news) old new result
tells_unlearned b known k news old new result nothing is h =
    tells_as (λ s. bound_outcome s b) (λ s. bound_outcome s known) k k k (learned k news) old new result (λ s. ap (bound_outcome s) is) refl (ap (learned k) nothing) h

pub tells_from : (b known : Bound) (k : Known) (news : News) (counts : Counts) (change : Option Change) (old new : Seen) (result : Result Reply StopError) → news ≡ nothing_new k → b ≡ known
    → TellsWithin (λ s. bound_outcome s known) (sized k news.counts) (sized k counts) old new result
    → TellsWithin (λ s. bound_outcome s b) k (learned k (record news { counts = counts; change = change })) old new result
tells_from b known k news counts change old new result nothing is h =
    let learns = learned k (record news { counts = counts; change = change }) in
    tells_as (λ s. bound_outcome s b) (λ s. bound_outcome s known) k (sized k news.counts) learns learns old new result (λ s. ap (bound_outcome s) is)
    (sym (ap (λ (n : News). sized k n.counts) nothing)) refl
    (tells_knowing (λ s. bound_outcome s known) (sized k news.counts) (sized k counts) learns old new result (ap (λ (n : News). catalog_by k.catalog n.names) nothing) refl h)

-- ---- the end of a transaction

-- what is dropped is as it was
pub dropped_is_unchanged : (old new : Seen) → IsStill old → IsDropped old new → Unchanged old new
dropped_is_unchanged old new still d = record { kept = d.undone ∙ sym still.rest; last = d.last; commits = d.commits }

pub dropped_is_still : (old new : Seen) → IsDropped old new → IsStill new
dropped_is_still old new d = record { stopped = d.stopped; rest = d.undone ∙ sym d.last }

pub dropped_serves : (outcome : State → Outcome) (k : Known) (old new : Seen) (stop : StopError) → IsStill old → IsDropped old new → NeverFall old new
    → HasCause {T = Reply} old.faults new.faults (Err stop) Fault → Serves outcome k k old new (Err stop)
dropped_serves outcome k old new stop still d fall cause = stop_serves outcome k old new stop (dropped_is_still old new d) (dropped_is_unchanged old new still d) fall cause

pub cause_later : {T U : Type 0} (a b c : ℕ) (stop : StopError) → a ≤ b → HasCause {T = T} b c (Err stop) Fault → HasCause {T = U} a c (Err stop) Fault
cause_later a b c stop le h = record { later = omega (arith, h.later); rose = λ is. rose_later a b c le (h.rose (let same : stop ≡ Fault = cc in ap Err same)) }

-- a transaction does not begin
pub begin_stops : (outcome : State → Outcome) (k : Known) (old new : Seen) (stop : StopError) → IsStill old → IsBegin {T = Unit {0}} old new (Err stop) Fault
    → Serves outcome k k old new (Err stop)
begin_stops outcome k old new stop still b =
    dropped_serves outcome k old new stop still b.err b.counts (cause_later {T = Unit {0}} {U = Reply} old.faults old.faults new.faults stop (omega arith) b.cause)

-- what is refused changes nothing
pub refused_stays : (s : State) (o : Outcome) → is_accepted o ≡ false → (state_after s o ≡ s) × (commit_count o ≡ 0)
refused_stays s Blank e = absurd cc
refused_stays s (Refused x) e = (refl, refl)
refused_stays s (Done text answers next) e = absurd cc

-- A transaction began, in which a step told, which counts where it is accepted. The session learns from it.
module _ (outcome : State → Outcome) (sure : (s : State) → is_accepted (outcome s) ≡ true → commit_count (outcome s) ≡ 1) (before learns : Known) (old run mid new : Seen) (still : IsStill old)
    (began : IsBegin {T = Unit {0}} {E = StopError} old run (Ok tt) Fault) where
  -- the session agrees with the tables as before
  begun_agrees : (s : State) → Agrees old.kept before s → Agrees run.kept before s
  begun_agrees s a = still_agrees old.kept run.kept before s began.kept a

  goes_from_start : GoesOn run mid → (mid.last ≡ old.kept) × (mid.commits ≡ old.commits)
  goes_from_start g = (g.last ∙ began.last ∙ sym still.rest, g.commits ∙ began.commits)

  pub step_stops : (stop : StopError) → TellsWithin outcome before learns run mid (Err stop) → Serves outcome before before old mid (Err stop)
  step_stops stop t =
      let d = t.changing.steps.err in
      dropped_serves outcome before old mid stop still
      (record { stopped = d.stopped; undone = d.undone ∙ began.last; last = d.last ∙ began.last; commits = d.commits ∙ began.commits })
      (counts_then old run mid began.counts t.changing.counts)
      (cause_later {T = Reply} {U = Reply} old.faults run.faults mid.faults stop began.counts.faults t.changing.steps.cause)

  step_kept : (r q : Reply) (now : Known) → TellsWithin outcome before learns run mid (Ok r) → r.accepted ≡ true → IsKept learns r before now mid new (Ok q)
      → Serves outcome before now old new (Ok q)
  step_kept r q now t done k =
      let goes = t.changing.steps.ok in
      let c = k.commit in
      let from = goes_from_start goes in
      record {
        served = λ s a.
            let h = t.told s (begun_agrees s a) in
            let once = sure s (sym h.reply.accepted ∙ done) in
            record {
              reply = subst (IsReply s.base.catalog (outcome s)) (sym k.reply) h.reply;
              next = subst (λ (u : Known). Agrees new.kept u (state_after s (outcome s))) (sym k.next) (still_agrees mid.kept new.kept learns (state_after s (outcome s)) c.kept h.next);
              commits = subst (λ n. Rises n old.commits new.commits) (sym once) (rises_once old.commits mid.commits new.commits from.1 c.commits);
              alone = λ none. absurd (omega arith);
            };
        ends = ends_well before now old new q (record { stopped = c.stopped; rest = c.kept ∙ sym c.last }) (counts_then old mid new (counts_then old run mid began.counts t.changing.counts) c.counts);
      }

  step_lost : (r : Reply) (now : Known) (stop : StopError) → TellsWithin outcome before learns run mid (Ok r) → IsKept learns r before now mid new (Err stop)
      → Serves outcome before now old new (Err stop)
  step_lost r now stop t k =
      let goes = t.changing.steps.ok in
      let c = k.commit in
      let d = c.err in
      let from = goes_from_start goes in
      subst (λ (u : Known). Serves outcome before u old new (Err stop)) (sym k.same)
      (dropped_serves outcome before old new stop still
      (record { stopped = d.stopped; undone = d.undone ∙ from.0 ∙ still.rest; last = d.last ∙ from.0 ∙ still.rest; commits = d.commits ∙ from.1 })
      (counts_then old mid new (counts_then old run mid began.counts t.changing.counts) c.counts)
      (cause_later {T = Reply} {U = Reply} old.faults mid.faults new.faults stop (counts_then old run mid began.counts t.changing.counts).faults c.cause))

  step_undone : (r : Reply) → TellsWithin outcome before learns run mid (Ok r) → r.accepted ≡ false → IsUndo mid new → Serves outcome before before old new (Ok r)
  step_undone r t refused u =
      let goes = t.changing.steps.ok in
      let d = u.dropped in
      let from = goes_from_start goes in
      let unchanged : Unchanged old new = record { kept = d.undone ∙ from.0; last = d.last ∙ from.0 ∙ still.rest; commits = d.commits ∙ from.1 } in
      let fall = counts_then old mid new (counts_then old run mid began.counts t.changing.counts) u.counts in
      record {
        served = λ s a.
            let h = t.told s (begun_agrees s a) in
            let stays = refused_stays s (outcome s) (sym h.reply.accepted ∙ refused) in
            record {
              reply = h.reply;
              next = subst (Agrees new.kept before) (sym stays.0) (still_agrees old.kept new.kept before s unchanged.kept a);
              commits = subst (λ n. Rises n old.commits new.commits) (sym stays.1) (λ k. let e = unchanged.commits in omega arith);
              alone = λ none. unchanged;
            };
        ends = ends_well before before old new r (record { stopped = d.stopped; rest = d.undone ∙ sym d.last }) fall;
      }

  pub step_serves : (r : Reply) (now : Known) (result : Result Reply StopError) → TellsWithin outcome before learns run mid (Ok r) → Closes learns r before now mid new result
      → Serves outcome before now old new result
  step_serves r now result t h = elim (cases_Bool r.accepted) [
    | inl done ↦ kept result (MatchBool-at_true (IsKept learns r before now mid new result) (IsUndone r before now mid new result) done h) done
    | inr refused ↦
        let k = MatchBool-at_false (IsKept learns r before now mid new result) (IsUndone r before now mid new result) refused h in
        subst (λ (x : Result Reply StopError). Serves outcome before now old new x) (sym k.reply)
        (subst (λ (u : Known). Serves outcome before u old new (Ok r)) (sym k.same) (step_undone r t refused k.undo))
  ]
    where
      kept : (x : Result Reply StopError) → IsKept learns r before now mid new x → r.accepted ≡ true → Serves outcome before now old new x
      kept (Ok q) k done = step_kept r q now t done k
      kept (Err stop) k done = step_lost r now stop t k
