-- What is refused is told by an error, and nothing else is: with undo and redo.
use Rattle.std.proofs.Common.{ℕ, suc, List, [], ◌∷◌, Option, Some, None, refl, take}
use Prim.Native.Nat.{zero}
use Rattle.std.specs.List.{AllByRecursion}
use Rattle.std.proofs.lemmas.Bool.{cond_both}
use Rattle.bdb_base.specs.Bases.{Contents}
use Rattle.bdb_render.specs.declared.refusal.Refusal.{Refusal}
use Rattle.bdb_render.specs.declared.refusal.Refusal.TheVariants.{NoUndo, NoRedo}
use Rattle.bdb_undo.specs.Limits.{most_changes}
use Rattle.bdb_undo.specs.Same.{same_contents}
use Rattle.bdb_undo.specs.Timelines.{Timeline, arrived, moved_to, redone, redone_by, undone, undone_by}
use Rattle.bdb_session.specs.Machine as machine
use Rattle.bdb_session.specs.Outcome.{start_from}
use Rattle.bdb_session.specs.UndoErrors.{HasValidBases, IsValidBase, TimelinesStayValid, UndoRefusalsAreErrors, UndoRunsTellErrors}
use Rattle.bdb_session.specs.UndoRuns.{accepts_all, replies}
use Rattle.bdb_session.specs.Undoing.{course_of, led, next_by, next_state, outcome_by, outcome_of, stepped}
use Rattle.bdb_session.specs.declared.course.Course.{Course}
use Rattle.bdb_session.specs.declared.course.Course.TheVariants.{Back, Forth, Onward}
use Rattle.bdb_session.specs.declared.event.ScriptEvent.{ScriptEvent}
use Rattle.bdb_session.proofs.ErrorLemmas.{IsQuietOutcome, first_told, outcome_quiet, told}
use Rattle.bdb_session.proofs.ErrorReplies.{ok_quiet}
use Rattle.bdb_session.proofs.ErrorValid.{bases_stay_valid}

stepped_quiet : (r : Refusal) (o : Option Timeline) → IsQuietOutcome (stepped r o)
stepped_quiet r None = tt
stepped_quiet r (Some u) = ok_quiet

by_course : (k : Course) (t : Timeline) (e : ScriptEvent) → HasValidBases t → IsQuietOutcome (outcome_by k t e)
by_course Back t e v = stepped_quiet NoUndo (undone t)
by_course Forth t e v = stepped_quiet NoRedo (redone t)
by_course Onward t e v = outcome_quiet (start_from t.now) e v.now

outcomes_quiet : (t : Timeline) (e : ScriptEvent) → HasValidBases t → IsQuietOutcome (outcome_of t e)
outcomes_quiet t e v = by_course (course_of e) t e v

pub undo_refusals_are_errors : UndoRefusalsAreErrors
undo_refusals_are_errors t e v = told t.now.catalog (outcome_of t e) (outcomes_quiet t e v)

-- ---- bases

back_valid : (t : Timeline) (before : List Contents) (b : Contents) (ahead : List Contents) → HasValidBases t → AllByRecursion IsValidBase before → IsValidBase b
    → AllByRecursion IsValidBase ahead → HasValidBases (led t (undone_by before b ahead))
back_valid t [] b ahead v p q r = v
back_valid t (a ∷ before) b ahead v p q r = record { before = p.1; now = p.0; ahead = (q, r) }

forth_valid : (t : Timeline) (before : List Contents) (b : Contents) (ahead : List Contents) → HasValidBases t → AllByRecursion IsValidBase before → IsValidBase b
    → AllByRecursion IsValidBase ahead → HasValidBases (led t (redone_by before b ahead))
forth_valid t before b [] v p q r = v
forth_valid t before b (a ∷ ahead) v p q r = record { before = (q, p); now = r.0; ahead = r.1 }

first_valid : (n : ℕ) (bs : List Contents) → AllByRecursion IsValidBase bs → AllByRecursion IsValidBase (take n bs)
first_valid zero bs h = tt
first_valid (suc n) [] h = tt
first_valid (suc n) (b ∷ bs) h = (h.0, first_valid n bs h.1)

arrived_valid : (t : Timeline) (b : Contents) → HasValidBases t → IsValidBase b → HasValidBases (arrived b t)
arrived_valid t b v w =
    cond_both (same_contents t.now b) t (moved_to b t) HasValidBases (λ e. v)
    (λ e. record { before = first_valid most_changes (t.now ∷ t.before) (v.now, v.before); now = w; ahead = tt })

next_valid : (k : Course) (t : Timeline) (e : ScriptEvent) → HasValidBases t → HasValidBases (next_by k t e)
next_valid Back t e v = back_valid t t.before t.now t.ahead v v.before v.now v.ahead
next_valid Forth t e v = forth_valid t t.before t.now t.ahead v v.before v.now v.ahead
next_valid Onward t e v = arrived_valid t (machine.next_state (start_from t.now) e).base v (bases_stay_valid (start_from t.now) e v.now)

pub timelines_stay_valid : TimelinesStayValid
timelines_stay_valid t e v = next_valid (course_of e) t e v

pub undo_runs_tell_errors : UndoRunsTellErrors
undo_runs_tell_errors t [] v = refl
undo_runs_tell_errors t (e ∷ es) v =
    first_told t.now.catalog (outcome_of t e) (replies (next_state t e) es) (accepts_all (next_state t e) es) (outcomes_quiet t e v)
    (undo_runs_tell_errors (next_state t e) es (timelines_stay_valid t e v))
