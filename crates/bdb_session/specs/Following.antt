-- How a session serves what comes of an event, with the bases to which undo and redo lead.
use Rattle.std.specs.Prelude.{◌≡◌, Option, Some, Result, IfOk, OnOk}
use Rattle.bdb_base.specs.Causes.{Rises}
use Rattle.bdb_keep.specs.Seen.{Seen, Unchanged}
use Rattle.bdb_render.specs.declared.refusal.Refusal.TheVariants.{NoUndo, NoRedo}
use Rattle.bdb_render.specs.Replies.{ok_reply}
use Rattle.bdb_syntax.specs.declared.command.Command.{Command}
use Rattle.bdb_undo.specs.Histories.{stepped_back, stepped_forth}
use Rattle.bdb_undo.specs.Timelines.{Timeline, arrived, undone, redone}
use Rattle.bdb_val.specs.Steps.{IsChanging}
use Rattle.bdb_session.specs.declared.course.Course.{Course}
use Rattle.bdb_session.specs.declared.course.Course.TheVariants.{Back, Forth, Onward}
use Rattle.bdb_session.specs.declared.event.ScriptEvent.{ScriptEvent}
use Rattle.bdb_session.specs.declared.reply.Reply.{Reply}
use Rattle.bdb_session.specs.declared.error.StopError.{StopError}
use Rattle.bdb_session.specs.declared.error.StopError.TheVariants.{Fault}
use Rattle.bdb_session.specs.Known.{Known, Agrees, Remembers}
use Rattle.bdb_session.specs.Machine.{command_outcome}
use Rattle.bdb_session.specs.Outcome.{State, Outcome, Done, commit_count, start_from, state_after}
use Rattle.bdb_session.specs.Served.{IsReply, Ends}
use Rattle.bdb_session.specs.Undoing.{course_of_command, led, next_state, outcome_of, stepped}

-- How a session serves what comes of an event, which leads to another timeline. After an Ok it has answered so, it remembers with
-- the tables the timeline after, and what was done is committed once; where nothing was done, the rows and commits are as they were.
pub record IsFollowed (t : Timeline) (outcome : Outcome) (then : Timeline) (now : Known) (old new : Seen) (result : Result Reply StopError) : Type 0 where
  pub reply : IfOk result (λ r. IsReply t.now.catalog outcome r)
  pub next : OnOk result (Remembers new.kept now then)
  pub commits : OnOk result (Rises (commit_count outcome) old.commits new.commits)
  pub alone : OnOk result (commit_count outcome ≡ 0 → Unchanged old new)

-- how a session serves what comes of an event, whichever timeline it remembers with the tables
pub record Follows (outcome : Timeline → Outcome) (next : Timeline → Timeline) (before now : Known) (old new : Seen) (result : Result Reply StopError) : Type 0 where
  pub served : (t : Timeline) → Remembers old.kept before t → IsFollowed t (outcome t) (next t) now old new result
  pub ends : Ends before now old new result

-- how a session serves an event
abbrev pub FollowsEvent : ScriptEvent → Known → Known → Seen → Seen → Result Reply StopError → Type 0
FollowsEvent e before now old new result = Follows (λ t. outcome_of t e) (λ t. next_state t e) before now old new result

-- the timeline after something comes of an event over the base held
abbrev pub moved_by : (State → Outcome) → Timeline → Timeline
moved_by outcome t = arrived (state_after (start_from t.now) (outcome (start_from t.now))).base t

-- what a session remembers after an Ok of something that comes of an event over the base held
abbrev pub Moves : (State → Outcome) → Known → Known → Seen → Seen → Result Reply StopError → Type 0
Moves outcome before now old new result = (t : Timeline) → Remembers old.kept before t → OnOk result (Remembers new.kept now (moved_by outcome t))

-- ---- what comes of a command, by its course

abbrev pub outcome_on : Course → Command → Timeline → Outcome
outcome_on Back c t = stepped NoUndo (undone t)
outcome_on Forth c t = stepped NoRedo (redone t)
outcome_on Onward c t = command_outcome (start_from t.now) c

abbrev pub next_on : Course → Command → Timeline → Timeline
next_on Back c t = led t (undone t)
next_on Forth c t = led t (redone t)
next_on Onward c t = moved_by (λ s. command_outcome s c) t

abbrev pub said_outcome : Command → Timeline → Outcome
said_outcome c t = outcome_on (course_of_command c) c t

abbrev pub said_next : Command → Timeline → Timeline
said_next c t = next_on (course_of_command c) c t

-- ---- a step along the bases, within its transaction

-- what a session knows that has gone back, or forth, in its history
abbrev pub gone_back : Known → Known
gone_back k = record k { history = stepped_back k.history }

abbrev pub gone_forth : Known → Known
gone_forth k = record k { history = stepped_forth k.history }

-- a step from one timeline to another: after an Ok it has answered so, and the session agrees with the tables on the base to which it led
pub record IsStepTo (t u : Timeline) (now : Known) (new : Seen) (result : Result Reply StopError) : Type 0 where
  pub reply : IfOk result (λ r. IsReply t.now.catalog (Done ok_reply 0 (start_from u.now)) r)
  pub agrees : OnOk result (Agrees new.kept now (start_from u.now))

-- What is told of a step along the bases, whichever timeline the session remembers with the tables. After an Ok the transaction still
-- runs, after an Err none does.
pub record TellsStep (step : Timeline → Option Timeline) (before now : Known) (old new : Seen) (result : Result Reply StopError) : Type 0 where
  pub told : (t u : Timeline) → Remembers old.kept before t → step t ≡ Some u → IsStepTo t u now new result
  pub changing : IsChanging old new result Fault
