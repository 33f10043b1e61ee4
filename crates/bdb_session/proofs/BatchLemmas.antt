-- Batches: where they break off, how their lines are run, and how their transaction ends.
use Rattle.std.proofs.Common.{◌≡◌, ◌∙◌, ℕ, ◌+◌, ◌-◌, ◌<◌, ◌≤◌, suc, Bool, true, false, not, ◌&&◌, List, [], ◌∷◌, ◌++◌, length, take, drop, get_or, Result, Ok, Err, IfOk, MatchBool, refl, sym, ap, subst, inl, inr, arith}
use Rattle.std.proofs.lemmas.Bool.{cases_Bool, and_parts, cond-true, cond-false, false≢true, MatchBool-at_true, MatchBool-at_false, and_from}
use Rattle.std.proofs.lemmas.List.{append-nil, append_assoc, take_rest}
use Rattle.std.proofs.lemmas.Grind.{get_or_head}
use Rattle.bdb_base.specs.Causes.{HasCause, Rises}
use Rattle.bdb_base.proofs.CauseLemmas.{rises_once}
use Rattle.bdb_keep.specs.Calls.{IsBegin}
use Rattle.bdb_keep.specs.Seen.{Seen, IsStill, IsDropped, NeverFall, Unchanged}
use Rattle.bdb_tables.proofs.Loops.{counts_then}
use Rattle.bdb_val.proofs.Calls.{HasGone}
use Rattle.bdb_session.specs.Batches.{pieces, up_to_refused, before_refused, batch_text, IsRun, AreRun, IsBatchReply, ServesBatch}
use Rattle.bdb_session.specs.Known.{Known, Agrees, AgreesOnSome}
use Rattle.bdb_session.specs.Laws.{IsWhole, BreaksOff, BatchesAreWholeOrBreakOff}
use Rattle.bdb_session.specs.Machine.{accepts, next_state, outcome_of, reply_of}
use Rattle.bdb_session.specs.Outcome.{State}
use Rattle.bdb_session.specs.Runs.{accepts_all, after, replies}
use Rattle.bdb_session.specs.Served.{Ends}
use Rattle.bdb_session.specs.Within.{IsKept, IsUndone, TellsWithin}
use Rattle.bdb_session.specs.declared.batch.BatchReply.{BatchReply}
use Rattle.bdb_session.specs.declared.event.ScriptEvent.{ScriptEvent}
use Rattle.bdb_session.specs.declared.event.ScriptEvent.TheVariants.{Piece}
use Rattle.bdb_session.specs.declared.reply.Reply.{Reply}
use Rattle.bdb_session.specs.declared.error.StopError.{StopError}
use Rattle.bdb_session.specs.declared.error.StopError.TheVariants.{Fault}
use Rattle.bdb_session.proofs.ServedLemmas.{still_agrees, ends_well}
use Rattle.bdb_session.proofs.WithinLemmas.{cause_later, dropped_is_still, dropped_is_unchanged}
use Rattle.bdb_session.proofs.BatchLists.{negated, negated_false}

-- ---- where a batch breaks off

all_up : (s : State) (es : List ScriptEvent) → accepts_all s es ≡ true → up_to_refused s es ≡ es
all_up s [] h = refl
all_up s (e ∷ es) h =
    let p = and_parts (accepts s e) (accepts_all (next_state s e) es) h in
    ap (λ (rest : List ScriptEvent). e ∷ rest) (cond-true (accepts s e) (up_to_refused (next_state s e) es) [] p.0 ∙ all_up (next_state s e) es p.1)

one_counted : (m n k : ℕ) → m ≡ n + 1 → n ≡ k → m ≡ suc k
one_counted m n k e f = omega arith

all_before : (s : State) (es : List ScriptEvent) → accepts_all s es ≡ true → before_refused s es ≡ length es
all_before s [] h = refl
all_before s (e ∷ es) h =
    let p = and_parts (accepts s e) (accepts_all (next_state s e) es) h in
    one_counted (before_refused s (e ∷ es)) (before_refused (next_state s e) es) (length es)
    (cond-true (accepts s e) (before_refused (next_state s e) es + 1) 0 p.0) (all_before (next_state s e) es p.1)

whole : (s : State) (es : List ScriptEvent) → accepts_all s es ≡ true → IsWhole s es
whole s es h = record {
  text = ap (replies s) (all_up s es h);
  accepted = all_before s es h;
  next = cond-true (accepts_all s es) (after s es) s h;
  commits = cond-true (accepts_all s es) 1 0 h;
}

-- the first is refused
at_once : (s : State) (e : ScriptEvent) (es : List ScriptEvent) → accepts s e ≡ false → accepts_all s (e ∷ es) ≡ false → BreaksOff s (e ∷ es)
at_once s e es no_more h = record {
  front = [];
  refused = e;
  rest = es;
  are = refl;
  are_accepted = refl;
  is_refused = no_more;
  text = ap (λ (xs : List ScriptEvent). reply_of s e ++ replies (next_state s e) xs) (cond-false (accepts s e) (up_to_refused (next_state s e) es) [] no_more);
  accepted = cond-false (accepts s e) (before_refused (next_state s e) es + 1) 0 no_more;
  next = cond-false (accepts_all s (e ∷ es)) (after s (e ∷ es)) s h;
  commits = cond-false (accepts_all s (e ∷ es)) 1 0 h;
}

-- it is accepted, and a later one is refused
later_on : (s : State) (e : ScriptEvent) (es : List ScriptEvent) → accepts s e ≡ true → accepts_all s (e ∷ es) ≡ false → BreaksOff (next_state s e) es → BreaksOff s (e ∷ es)
later_on s e es more h r = record {
  front = e ∷ r.front;
  refused = r.refused;
  rest = r.rest;
  are = ap (λ (xs : List ScriptEvent). e ∷ xs) r.are;
  are_accepted = and_from (accepts s e) (accepts_all (next_state s e) r.front) more r.are_accepted;
  is_refused = r.is_refused;
  text = ap (λ (xs : List ScriptEvent). reply_of s e ++ replies (next_state s e) xs) (cond-true (accepts s e) (up_to_refused (next_state s e) es) [] more)
      ∙ ap (λ (x : List ℕ). reply_of s e ++ x) r.text;
  accepted = one_counted (before_refused s (e ∷ es)) (before_refused (next_state s e) es) (length r.front)
      (cond-true (accepts s e) (before_refused (next_state s e) es + 1) 0 more) r.accepted;
  next = cond-false (accepts_all s (e ∷ es)) (after s (e ∷ es)) s h;
  commits = cond-false (accepts_all s (e ∷ es)) 1 0 h;
}

breaks : (s : State) (es : List ScriptEvent) → accepts_all s es ≡ false → BreaksOff s es
breaks s [] h = absurd (false≢true (sym h))
breaks s (e ∷ es) h = elim (cases_Bool (accepts s e)) [
  | inl more ↦ later_on s e es more h (breaks (next_state s e) es (ap (λ (b : Bool). b && accepts_all (next_state s e) es) (sym more) ∙ h))
  | inr no_more ↦ at_once s e es no_more h
]

pub batches_are_whole_or_break_off : BatchesAreWholeOrBreakOff
batches_are_whole_or_break_off s es = by (accepts_all s es) refl
  where
    by : (b : Bool) → accepts_all s es ≡ b → MatchBool b (IsWhole s es) (BreaksOff s es)
    by true e = whole s es e
    by false e = breaks s es e

-- ---- how lines are run

-- a line of which this was told, behind what was told before
pub line_run : (line before told : List ℕ) (k now : Known) (old new : Seen) (r : Reply) → TellsWithin (λ s. outcome_of s (Piece line)) k now old new (Ok r) → told ≡ before ++ r.text
    → (s : State) → Agrees old.kept k s → IsRun s (Piece line) before told r.accepted now new
line_run line before told k now old new r h e s a =
    let t = h.told s a in
    record { text = e ∙ ap (λ (x : List ℕ). before ++ x) t.reply.text; accepted_is = t.reply.accepted; next = t.next }

-- the session and the tables agree on the state after it
pub line_agrees : (line : List ℕ) (k now : Known) (old new : Seen) (r : Reply) → TellsWithin (λ s. outcome_of s (Piece line)) k now old new (Ok r) → AgreesOnSome old.kept k
    → AgreesOnSome new.kept now
line_agrees line k now old new r h some = record { state = next_state some.state (Piece line); agrees = (h.told some.state some.agrees).next }

pub none_run : (s : State) (text : List ℕ) (now : Known) (new : Seen) → Agrees new.kept now s → AreRun s [] text text 0 false now new
none_run s text now new a = record { text = sym (append-nil text); accepted_is = refl; refused_is = refl; next = λ _. a }

pub refused_run : (s : State) (e : ScriptEvent) (es : List ScriptEvent) (before told : List ℕ) (now : Known) (new : Seen) → IsRun s e before told false now new
    → AreRun s (e ∷ es) before told 0 true now new
refused_run s e es before told now new h =
    let no_more = sym h.accepted_is in
    let none : accepts_all s (e ∷ es) ≡ false = ap (λ (b : Bool). b && accepts_all (next_state s e) es) no_more in
    record {
      text = h.text ∙ ap (λ (x : List ℕ). before ++ x) (sym (append-nil (reply_of s e)))
          ∙ ap (λ (x : List ScriptEvent). before ++ (reply_of s e ++ replies (next_state s e) x)) (sym (cond-false (accepts s e) (up_to_refused (next_state s e) es) [] no_more));
      accepted_is = sym (cond-false (accepts s e) (before_refused (next_state s e) es + 1) 0 no_more);
      refused_is = ap not (sym none);
      next = λ all. absurd (false≢true (sym none ∙ all));
    }

pub then_run : (s : State) (e : ScriptEvent) (es : List ScriptEvent) (before mid told : List ℕ) (n : ℕ) (refused : Bool) (between now : Known) (run new : Seen) → IsRun s e before mid true between run
    → AreRun (next_state s e) es mid told n refused now new → AreRun s (e ∷ es) before told (n + 1) refused now new
then_run s e es before mid told n refused between now run new h r =
    let next = next_state s e in
    let more = sym h.accepted_is in
    let same : accepts_all s (e ∷ es) ≡ accepts_all next es = ap (λ (b : Bool). b && accepts_all next es) more in
    record {
      text = r.text ∙ ap (λ (x : List ℕ). x ++ batch_text next es) h.text ∙ append_assoc before (reply_of s e) (batch_text next es)
          ∙ ap (λ (x : List ScriptEvent). before ++ (reply_of s e ++ replies next x)) (sym (cond-true (accepts s e) (up_to_refused next es) [] more));
      accepted_is = ap (λ m. m + 1) r.accepted_is ∙ sym (cond-true (accepts s e) (before_refused next es + 1) 0 more);
      refused_is = r.refused_is ∙ ap not (sym same);
      next = λ all. r.next (sym same ∙ all);
    }

-- the lines of a slice
pub empty_is : (lines : List (List ℕ)) → length lines < 1 → lines ≡ []
empty_is [] h = refl
empty_is (c ∷ cs) h = absurd (omega arith)

pub first_line : (lines : List (List ℕ)) (x y : List ℕ) → 1 ≤ length lines → x ≡ get_or lines 0 x → y ≡ x → lines ≡ y ∷ take (length lines - 1) (drop 1 lines)
first_line [] x y le e f = absurd (omega arith)
first_line (c ∷ cs) x y le e f = ap (λ z. z ∷ cs) (sym (f ∙ e ∙ get_or_head c cs 0 x refl)) ∙ ap (λ rest. y ∷ rest) (sym (take_rest (c ∷ cs) 1))

pub stop_lines : (s : State) (lines rest : List (List ℕ)) (line : List ℕ) (accepted : Bool) (before told : List ℕ) (now : Known) (new : Seen) → lines ≡ line ∷ rest → accepted ≡ false
    → IsRun s (Piece line) before told accepted now new → AreRun s (pieces lines) before told 0 true now new
stop_lines s lines rest line accepted before told now new split e h =
    subst (λ (ls : List (List ℕ)). AreRun s (pieces ls) before told 0 true now new) (sym split)
    (refused_run s (Piece line) (pieces rest) before told now new (subst (λ (b : Bool). IsRun s (Piece line) before told b now new) e h))

pub then_lines : (s : State) (lines rest : List (List ℕ)) (line : List ℕ) (accepted : Bool) (before mid told : List ℕ) (n : ℕ) (refused : Bool) (between now : Known) (run new : Seen) → lines ≡ line ∷ rest
    → accepted ≡ true → IsRun s (Piece line) before mid accepted between run → AreRun (next_state s (Piece line)) (pieces rest) mid told n refused now new
    → AreRun s (pieces lines) before told (n + 1) refused now new
then_lines s lines rest line accepted before mid told n refused between now run new split e h r =
    subst (λ (ls : List (List ℕ)). AreRun s (pieces ls) before told (n + 1) refused now new) (sym split)
    (then_run s (Piece line) (pieces rest) before mid told n refused between now run new (subst (λ (b : Bool). IsRun s (Piece line) before mid b between run) e h) r)

-- the same text, behind none
pub run_as : (s : State) (es : List ScriptEvent) (before told text : List ℕ) (n : ℕ) (refused : Bool) (now : Known) (new : Seen) → before ≡ [] → text ≡ told → AreRun s es before told n refused now new
    → AreRun s es [] text n refused now new
run_as s es before told text n refused now new e f h = record {
  text = f ∙ h.text ∙ ap (λ (x : List ℕ). x ++ batch_text s es) e;
  accepted_is = h.accepted_is;
  refused_is = h.refused_is;
  next = h.next;
}

-- ---- how the transaction of a batch ends

drop_ends : {R : Type 0} (before now : Known) (old new : Seen) (stop : StopError) → now ≡ before → IsStill old → IsDropped old new → NeverFall old new
    → HasCause {T = R} old.faults new.faults (Err stop) Fault → Ends {R = R} before now old new (Err stop)
drop_ends before now old new stop e still d fall cause =
    record { same = e; still = dropped_is_still old new d; never_fall = fall; cause = cause; err = dropped_is_unchanged old new still d }

stop_batch : (es : List ScriptEvent) (before now : Known) (old new : Seen) (stop : StopError) → now ≡ before → IsStill old → IsDropped old new → NeverFall old new
    → HasCause {T = BatchReply} old.faults new.faults (Err stop) Fault → ServesBatch es before now old new (Err stop)
stop_batch es before now old new stop e still d fall cause = record {
  served = λ s a. record { reply = tt; next = tt; commits = tt; alone = tt; known = tt };
  ends = drop_ends {R = BatchReply} before now old new stop e still d fall cause;
}

pub unbegun_batch : (es : List ScriptEvent) (k : Known) (old new : Seen) (stop : StopError) → IsStill old → IsBegin {T = Unit {0}} old new (Err stop) Fault → ServesBatch es k k old new (Err stop)
unbegun_batch es k old new stop still b =
    stop_batch es k k old new stop refl still b.err b.counts (cause_later {T = Unit {0}} {U = BatchReply} old.faults old.faults new.faults stop (omega arith) b.cause)

module _ (es : List ScriptEvent) (before learns : Known) (old run mid new : Seen) (still : IsStill old) (began : IsBegin {T = Unit {0}} {E = StopError} old run (Ok tt) Fault) where
  begun : (s : State) → Agrees old.kept before s → Agrees run.kept before s
  begun s a = still_agrees old.kept run.kept before s began.kept a

  pub lost_batch : {T : Type 0} (stop : StopError) → NeverFall run mid → IsDropped run mid → HasCause {T = T} run.faults mid.faults (Err stop) Fault → ServesBatch es before before old mid (Err stop)
  lost_batch {T} stop fall d cause =
      stop_batch es before before old mid stop refl still
      (record { stopped = d.stopped; undone = d.undone ∙ began.last; last = d.last ∙ began.last; commits = d.commits ∙ began.commits })
      (counts_then old run mid began.counts fall) (cause_later {T = T} {U = BatchReply} old.faults run.faults mid.faults stop began.counts.faults cause)

  module _ (told : BatchReply) (gone : HasGone run mid) (ran : (s : State) → Agrees run.kept before s → AreRun s es [] told.text told.accepted told.refused learns mid) where
    is_reply : (s : State) → Agrees old.kept before s → IsBatchReply s es told
    is_reply s a = let h = ran s (begun s a) in record { refused = h.refused_is; accepted = h.accepted_is; text = h.text }

    kept_batch : (now : Known) (result : Result BatchReply StopError) → told.refused ≡ false → IsKept learns told before now mid new result → ServesBatch es before now old new result
    kept_batch now (Ok q) done k =
        let c = k.commit in
        let fall = counts_then old mid new (counts_then old run mid began.counts gone.counts) c.counts in
        record {
          served = λ s a.
              let h = ran s (begun s a) in
              let all = negated told.refused (accepts_all s es) h.refused_is done in
              record {
                reply = subst (IsBatchReply s es) (sym k.reply) (is_reply s a);
                next = subst (λ (x : State). Agrees new.kept now x) (sym (cond-true (accepts_all s es) (after s es) s all))
                    (subst (λ (u : Known). Agrees new.kept u (after s es)) (sym k.next) (still_agrees mid.kept new.kept learns (after s es) c.kept (h.next all)));
                commits = subst (λ n. Rises n old.commits new.commits) (sym (cond-true (accepts_all s es) 1 0 all))
                    (rises_once old.commits mid.commits new.commits (gone.goes.commits ∙ began.commits) c.commits);
                alone = λ f. absurd (false≢true (sym f ∙ all));
                known = λ f. absurd (false≢true (sym f ∙ all));
              };
          ends = ends_well before now old new q (record { stopped = c.stopped; rest = c.kept ∙ sym c.last }) fall;
        }
    kept_batch now (Err stop) done k =
        let c = k.commit in
        let d = c.err in
        let fall = counts_then old run mid began.counts gone.counts in
        stop_batch es before now old new stop k.same still
        (record { stopped = d.stopped; undone = d.undone ∙ gone.goes.last ∙ began.last; last = d.last ∙ gone.goes.last ∙ began.last; commits = d.commits ∙ gone.goes.commits ∙ began.commits })
        (counts_then old mid new fall c.counts) (cause_later {T = BatchReply} {U = BatchReply} old.faults mid.faults new.faults stop fall.faults c.cause)

    undone_batch : (now : Known) (result : Result BatchReply StopError) → told.refused ≡ true → IsUndone told before now mid new result → ServesBatch es before now old new result
    undone_batch now result refused k =
        let d = k.undo.dropped in
        let fall = counts_then old mid new (counts_then old run mid began.counts gone.counts) k.undo.counts in
        let unchanged : Unchanged old new = record {
          kept = d.undone ∙ gone.goes.last ∙ began.last ∙ sym still.rest;
          last = d.last ∙ gone.goes.last ∙ began.last;
          commits = d.commits ∙ gone.goes.commits ∙ began.commits;
        } in
        let ended : ServesBatch es before now old new (Ok told) = record {
          served = λ s a.
              let h = ran s (begun s a) in
              let some = negated_false told.refused (accepts_all s es) h.refused_is refused in
              record {
                reply = is_reply s a;
                next = subst (λ (x : State). Agrees new.kept now x) (sym (cond-false (accepts_all s es) (after s es) s some))
                    (subst (λ (u : Known). Agrees new.kept u s) (sym k.same) (still_agrees old.kept new.kept before s unchanged.kept a));
                commits = subst (λ n. Rises n old.commits new.commits) (sym (cond-false (accepts_all s es) 1 0 some)) (λ low. let e = unchanged.commits in omega arith);
                alone = λ _. unchanged;
                known = λ _. k.same;
              };
          ends = ends_well before now old new told (record { stopped = d.stopped; rest = d.undone ∙ sym d.last }) fall;
        } in
        subst (λ (x : Result BatchReply StopError). ServesBatch es before now old new x) (sym k.reply) ended

    pub batch_serves : (now : Known) (result : Result BatchReply StopError) → MatchBool told.refused (IsUndone told before now mid new result) (IsKept learns told before now mid new result) → ServesBatch es before now old new result
    batch_serves now result h = elim (cases_Bool told.refused) [
      | inl refused ↦
          undone_batch now result refused (MatchBool-at_true (IsUndone told before now mid new result) (IsKept learns told before now mid new result) refused h)
      | inr done ↦ kept_batch now result done (MatchBool-at_false (IsUndone told before now mid new result) (IsKept learns told before now mid new result) done h)
    ]

-- the parts of what is answered
module _ (s : State) (es : List ScriptEvent) where
  pub told_refused : (result : Result BatchReply StopError) → IfOk result (IsBatchReply s es) → IfOk result (λ r. r.refused ≡ not (accepts_all s es))
  told_refused (Ok r) h = h.refused
  told_refused (Err stop) h = tt

  pub told_accepted : (result : Result BatchReply StopError) → IfOk result (IsBatchReply s es) → IfOk result (λ r. r.accepted ≡ before_refused s es)
  told_accepted (Ok r) h = h.accepted
  told_accepted (Err stop) h = tt

  pub told_text : (result : Result BatchReply StopError) → IfOk result (IsBatchReply s es) → IfOk result (λ r. r.text ≡ batch_text s es)
  told_text (Ok r) h = h.text
  told_text (Err stop) h = tt
