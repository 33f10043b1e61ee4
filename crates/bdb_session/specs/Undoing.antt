-- The belief machine with undo and redo: what comes of each event of a script, where the bases are known to which these lead.
use Rattle.std.specs.Prelude.{ℕ, Bool, List, Option, None, Some}
use Rattle.bdb_render.specs.declared.refusal.Refusal.{Refusal}
use Rattle.bdb_render.specs.declared.refusal.Refusal.TheVariants.{NoUndo, NoRedo}
use Rattle.bdb_render.specs.Replies.{ok_reply}
use Rattle.bdb_syntax.specs.declared.command.Command.{Command}
use Rattle.bdb_syntax.specs.declared.command.Command.TheVariants.{Undo, Redo}
use Rattle.bdb_undo.specs.Timelines.{Timeline, arrived, undone, redone}
use Rattle.bdb_session.specs.declared.course.Course.{Course}
use Rattle.bdb_session.specs.declared.course.Course.TheVariants.{Back, Forth, Onward}
use Rattle.bdb_session.specs.declared.event.ScriptEvent.{ScriptEvent}
use Rattle.bdb_session.specs.declared.event.ScriptEvent.TheVariants as event
use Rattle.bdb_session.specs.declared.reading.Reading.{Reading}
use Rattle.bdb_session.specs.declared.reading.Reading.TheVariants as reading
use Rattle.bdb_session.specs.Machine as machine
use Rattle.bdb_session.specs.Outcome.{Outcome, Refused, Done, start_from, text_of, is_accepted, answer_count, commit_count}
use Rattle.bdb_session.specs.Reading.{reading_of}

-- ---- where a command leads among the bases: back, forth, or onward

abbrev pub course_of_command : Command → Course
course_of_command Undo = Back
course_of_command Redo = Forth
course_of_command _ = Onward

abbrev pub course_of_reading : Reading → Course
course_of_reading (reading.Says c) = course_of_command c
course_of_reading _ = Onward

abbrev pub course_of : ScriptEvent → Course
course_of (event.Piece bytes) = course_of_reading (reading_of bytes)
course_of _ = Onward

-- ---- what comes of it

-- a step along the bases is done where it leads to one, and refused where it leads to none
abbrev pub stepped : Refusal → Option Timeline → Outcome
stepped r None = Refused r
stepped r (Some u) = Done ok_reply 0 (start_from u.now)

-- what an event comes to by its course: back and forth go by the bases, and all else by the base held
abbrev pub outcome_by : Course → Timeline → ScriptEvent → Outcome
outcome_by Back t e = stepped NoUndo (undone t)
outcome_by Forth t e = stepped NoRedo (redone t)
outcome_by Onward t e = machine.outcome_of (start_from t.now) e

abbrev pub outcome_of : Timeline → ScriptEvent → Outcome
outcome_of t e = outcome_by (course_of e) t e

-- ---- where it leads

-- a step along the bases leads to another timeline, or nowhere
abbrev pub led : Timeline → Option Timeline → Timeline
led t None = t
led t (Some u) = u

-- the timeline after an event by its course: onward it goes to the base that the machine reaches, where that is another one
abbrev pub next_by : Course → Timeline → ScriptEvent → Timeline
next_by Back t e = led t (undone t)
next_by Forth t e = led t (redone t)
next_by Onward t e = arrived (machine.next_state (start_from t.now) e).base t

abbrev pub next_state : Timeline → ScriptEvent → Timeline
next_state t e = next_by (course_of e) t e

-- ---- the parts of what comes of an event

-- the reply: empty where nothing is said
abbrev pub reply_of : Timeline → ScriptEvent → List ℕ
reply_of t e = text_of t.now.catalog (outcome_of t e)

-- the event is accepted
abbrev pub accepts : Timeline → ScriptEvent → Bool
accepts t e = is_accepted (outcome_of t e)

-- how many answers it has
abbrev pub answers_to : Timeline → ScriptEvent → ℕ
answers_to t e = answer_count (outcome_of t e)

-- how often it counts: once where it says something and is accepted
abbrev pub counts : Timeline → ScriptEvent → ℕ
counts t e = commit_count (outcome_of t e)
