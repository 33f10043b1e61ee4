-- What the number of events that count tells, and what tables without rows stand for.
use Rattle.std.specs.Prelude.{◌≡◌, ℕ, List}
use Rattle.std.specs.FinMap as tables
use Rattle.bdb_base.specs.Bases.{empty_contents}
use Rattle.bdb_catalog.specs.Opening.{StandFor}
use Rattle.bdb_keep.specs.Tables.{Tables}
use Rattle.bdb_session.specs.declared.event.ScriptEvent.{ScriptEvent}
use Rattle.bdb_undo.specs.Timelines.{Timeline}
use Rattle.bdb_session.specs.UndoRuns.{after}
use Rattle.bdb_stream.specs.Carried.{counted}
use Rattle.bdb_stream.specs.Handling.{IsFrontOf}
use Rattle.bdb_top.specs.Counted.{before_count, up_to_count}

-- Where the first events are done and k of them count, the timeline is the one after the first k that count; what is done has
-- the last of these in it, and goes no further than up to the next.
pub record IsToldByCount (s : Timeline) (events done : List ScriptEvent) (k : ℕ) : Type 0 where
  pub state : after s done ≡ after s (before_count k s events)
  pub all_of : IsFrontOf (up_to_count k s events) done
  pub no_more : IsFrontOf done (before_count k s events)

abbrev pub CountTellsTheState : Type 0
CountTellsTheState = (s : Timeline) (events done : List ScriptEvent) → IsFrontOf done events → IsToldByCount s events done (counted s done)

-- tables without rows stand for the empty base
abbrev pub NoRowsStandForABase : Type 0
NoRowsStandForABase = (t : Tables) → t ≡ tables.empty → StandFor t empty_contents
