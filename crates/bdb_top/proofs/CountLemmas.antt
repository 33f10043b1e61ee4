-- What the events that count tell of a run.
use Rattle.std.proofs.Common.{◌≡◌, ◌≢◌, ◌∙◌, ℕ, ◌+◌, ◌-◌, true, false, nat_eq, List, ◌++◌, take, drop, Option, Some, None, IfSome, inl, inr, refl, ap, sym, subst, append_assoc, arith}
use Rattle.std.proofs.lemmas.Bool.{cases_Bool}
use Rattle.std.proofs.lemmas.List.{take-append-drop}
use Rattle.bdb_catalog.specs.Opening.{StandFor}
use Rattle.bdb_keep.specs.Seen.{Seen}
use Rattle.bdb_session.specs.declared.event.ScriptEvent.{ScriptEvent}
use Rattle.bdb_render.specs.declared.refusal.Refusal.{Refusal}
use Rattle.bdb_render.specs.declared.refusal.Refusal.TheVariants.{NoUndo, NoRedo}
use Rattle.bdb_session.specs.declared.course.Course.{Course}
use Rattle.bdb_session.specs.declared.course.Course.TheVariants.{Back, Forth, Onward}
use Rattle.bdb_session.specs.Machine as machine
use Rattle.bdb_session.specs.Outcome.{State, Outcome, Blank, Refused, Done, start_from, state_after, commit_count}
use Rattle.bdb_session.specs.Undoing.{counts, course_of, led, next_by, next_state, outcome_by, reply_of, stepped}
use Rattle.bdb_undo.specs.Timelines.{Timeline, arrived, redone, started, undone}
use Rattle.bdb_undo.proofs.TimelineLemmas.{staying_arrives}
use Rattle.bdb_session.specs.Runs.{events_of}
use Rattle.bdb_session.specs.UndoRuns.{after, replies}
use Rattle.bdb_stream.specs.Carried.{by_session, counted, session_in_order}
use Rattle.bdb_stream.proofs.CommitLemmas.{all_told, before_part, before_whole, no_more_told, replies-push, replies_begin, state_told}
use Rattle.bdb_top.specs.Counted.{before_count, up_to_count}
use Rattle.bdb_top.specs.Ran.{Ran, EachBase}
use Rattle.bdb_top.specs.ByCount.{BeginsWith, EndsByCount, CommitsTell}
use Rattle.bdb_top.specs.Laws.{IsToldByCount, CountTellsTheState}

-- what doesn't count changes nothing
same_by : (s : State) (o : Outcome) → commit_count o ≡ 0 → state_after s o ≡ s
same_by s Blank h = refl
same_by s (Refused r) h = refl
same_by s (Done text answers next) h = absurd (omega (arith, h))

-- a step along the bases counts where it leads to one
no_step : (r : Refusal) (s : Timeline) (to : Option Timeline) → commit_count (stepped r to) ≡ 0 → led s to ≡ s
no_step r s None h = refl
no_step r s (Some next) h = absurd (omega (arith, h))

uncounted_by : (c : Course) (s : Timeline) (e : ScriptEvent) → commit_count (outcome_by c s e) ≡ 0 → next_by c s e ≡ s
uncounted_by Back s e h = no_step NoUndo s (undone s) h
uncounted_by Forth s e h = no_step NoRedo s (redone s) h
uncounted_by Onward s e h =
    ap (λ (x : State). arrived x.base s) (same_by (start_from s.now) (machine.outcome_of (start_from s.now) e) h)
    ∙ staying_arrives s

uncounted : (s : Timeline) (e : ScriptEvent) → counts s e ≡ 0 → next_state s e ≡ s
uncounted s e h = uncounted_by (course_of e) s e h

told : (b : Timeline) (done rest : List ScriptEvent) → IsToldByCount b (done ++ rest) done (counted b done)
told b done rest = record {
  state = (state_told by_session session_in_order (λ t. t) uncounted) b done rest;
  all_of = (all_told by_session session_in_order) b done rest;
  no_more = (no_more_told by_session session_in_order) b done rest;
}

pub count_tells_the_state : CountTellsTheState
count_tells_the_state b events done is = subst (λ (l : List ScriptEvent). IsToldByCount b l done (counted b done)) (sym is.1) (told b done is.0)

pub begins_on : (x y z : List ℕ) → BeginsWith x y → BeginsWith y z → BeginsWith x z
begins_on x y z h k = (k.0 ++ h.0, h.1 ∙ ap (λ l. l ++ h.0) k.1 ∙ append_assoc z k.0 h.0)

pub begins_more : (x y z : List ℕ) → BeginsWith x z → BeginsWith (x ++ y) z
begins_more x y z h = (h.0 ++ y, ap (λ l. l ++ y) h.1 ∙ append_assoc z h.0 y)

-- a part of the last reply is of the first bytes of all
pub part_begins : (x y : List ℕ) (n : ℕ) → BeginsWith (x ++ y) (x ++ take n y)
part_begins x y n = (drop n y, ap (λ l. x ++ l) (sym (take-append-drop n y)) ∙ sym (append_assoc x (take n y) (drop n y)))

pub is_four : (n : ℕ) → nat_eq n 4 ≡ true → n ≡ 4
is_four n h = grind (arith, h)

pub not_four : (n : ℕ) → nat_eq n 4 ≡ false → n ≢ 4
not_four n h e = grind (arith, h, e)

-- the run by the events that are done
by_done : (b : Timeline) (text : List ℕ) (left : Option (List ℕ)) (first now : Seen) (old new : Option (List ℕ)) (status : ℕ) (ran : Ran b text left first now old new status)
    → EndsByCount b (events_of text) now old new status (counted b ran.done)
by_done b text left first now old new status ran =
    let events = events_of text in
    let done = ran.done in
    let k = counted b done in
    let is = count_tells_the_state b events done ran.front in
    let stand = subst (λ (x : Timeline). StandFor now.last x.now) is.state ran.stands in
    let more = (replies_begin by_session session_in_order) b done (before_count k b events) is.no_more in
    elim (cases_Bool (nat_eq status 4)) [
      | inl t ↦
          let p = ran.part (is_four status t) in
          let reply = reply_of (after b p.front) p.last in
          let all = subst (λ (l : List ℕ). BeginsWith l (replies b p.front ++ take p.part reply)) (sym (ap (replies b) p.is ∙ (replies-push by_session session_in_order) b p.front p.last)) (part_begins (replies b p.front) reply p.part) in
          record {
            stands = stand;
            text = replies b p.front ++ take p.part reply;
            written = p.written;
            no_more = begins_on (replies b (before_count k b events)) (replies b done) (replies b p.front ++ take p.part reply) more all;
            before = λ some. begins_more (replies b p.front) (take p.part reply) (replies b (before_count (k - 1) b events))
                ((replies_begin by_session session_in_order) b (before_count (k - 1) b events) p.front ((before_part by_session session_in_order) b events done p.front p.last p.is ran.front some));
            whole = λ other. absurd (other (is_four status t));
          }
      | inr f ↦ record {
        stands = stand;
        text = replies b done;
        written = ran.written (not_four status f);
        no_more = more;
        before = λ some. (replies_begin by_session session_in_order) b (before_count (k - 1) b events) done ((before_whole by_session session_in_order) b events done ran.front some);
        whole = λ _. (replies_begin by_session session_in_order) b (up_to_count k b events) done is.all_of;
      }
    ]

commits_tell : (s : Timeline) (text : List ℕ) (left : Option (List ℕ)) (first now : Seen) (old new : Option (List ℕ)) (status : ℕ) → Ran s text left first now old new status → CommitsTell s text first now old new status
commits_tell s text left first now old new status ran below =
    subst (λ (k : ℕ). EndsByCount s (events_of text) now old new status k) (ran.commits below) (by_done s text left first now old new status ran)

-- the same for each base and text
pub each_by_count : (before left : Option (List ℕ)) (first now : Seen) (old new : Option (List ℕ)) (status : ℕ)
    → IfSome before (λ text. EachBase first.kept (λ b. Ran (started b) text left first now old new status))
    → IfSome before (λ text. EachBase first.kept (λ b. CommitsTell (started b) text first now old new status))
each_by_count None left first now old new status h = tt
each_by_count (Some text) left first now old new status h = λ b stands. commits_tell (started b) text left first now old new status (h b stands)
