-- What status 1 of a run tells of its replies.
use Rattle.std.specs.Prelude.{◌≡◌, ◌↔◌, ℕ, ◌≤◌, true, List, Option}
use Rattle.std.specs.Io.KnownBytes.{Appends}
use Rattle.bdb_crowd.specs.Asked.{asked_of, replies, start_at}
use Rattle.bdb_crowd.specs.TellsErrors.{has_error}
use Rattle.bdb_session.specs.ErrorLines.{has_error_line}
use Rattle.bdb_session.specs.Outcome.{State}
use Rattle.bdb_session.specs.Runs.{events_of}
use Rattle.bdb_session.specs.UndoRuns.{replies as replies_to}
use Rattle.bdb_undo.specs.Timelines.{Timeline}

-- none of the statuses from 2 on came, the replies to all that the stream asks for are written, and a line of them tells an error
pub record EndsInErrors (s : State) (text : List ℕ) (old new : Option (List ℕ)) (status : ℕ) : Type 0 where
  pub ended : status ≤ 1
  pub written : Appends old new (replies (start_at s) (asked_of text))
  pub errors : has_error (replies (start_at s) (asked_of text)) ≡ true

-- a run over a stream has ended with 1 exactly where it ends in errors
abbrev pub StatusTellsErrors : State → List ℕ → Option (List ℕ) → Option (List ℕ) → ℕ → Type 0
StatusTellsErrors s text old new status = (status ≡ 1) ↔ EndsInErrors s text old new status

-- the same of a run over a script: the replies to all events are written, and a line of them begins with `error `
pub record EndsInRefusals (s : Timeline) (text : List ℕ) (old new : Option (List ℕ)) (status : ℕ) : Type 0 where
  pub ended : status ≤ 1
  pub written : Appends old new (replies_to s (events_of text))
  pub errors : has_error_line (replies_to s (events_of text)) ≡ true

-- a run over a script has ended with 1 exactly where it ends in refusals
abbrev pub StatusTellsRefusals : Timeline → List ℕ → Option (List ℕ) → Option (List ℕ) → ℕ → Type 0
StatusTellsRefusals s text old new status = (status ≡ 1) ↔ EndsInRefusals s text old new status
