-- The events of a run before and up to one of those that count.
use Rattle.std.specs.Prelude.{ℕ, List}
use Rattle.bdb_session.specs.declared.event.ScriptEvent.{ScriptEvent}
use Rattle.bdb_stream.specs.Carried.{by_session}
use Rattle.bdb_stream.specs.Commits.{before_commit, up_to_commit}
use Rattle.bdb_undo.specs.Timelines.{Timeline}

-- the events up to and without the one that is number k + 1 of those that count; all, where there is none
abbrev pub before_count : ℕ → Timeline → List ScriptEvent → List ScriptEvent
before_count k s es = before_commit by_session k s es

-- the events up to and with the one that is number k of those that count; none, where k is 0
abbrev pub up_to_count : ℕ → Timeline → List ScriptEvent → List ScriptEvent
up_to_count k s es = up_to_commit by_session k s es
