-- What a session knows of the base that the tables store and of those to which undo and redo lead, and when it agrees with them.
use Rattle.std.specs.Prelude.{◌≡◌}
use Rattle.bdb_base.specs.declared.kinds.Catalog.{Catalog}
use Rattle.bdb_canon.specs.Sizes.{counts_of}
use Rattle.bdb_canon.specs.declared.sizes.Counts.{Counts}
use Rattle.bdb_catalog.specs.Bases.{StoresValid}
use Rattle.bdb_keep.specs.Tables.{Tables}
use Rattle.bdb_undo.specs.Histories.{Kept}
use Rattle.bdb_undo.specs.Timelines.{Timeline, KeepsTimeline}
use Rattle.bdb_session.specs.Outcome.{State, start_from}

-- what a session knows: the relations and users, the sizes of the base, and the changes that led to it and from it
pub record Known : Type 0 where
  pub catalog : Catalog
  pub counts : Counts
  pub history : Kept

-- A session and tables agree on a state of the belief machine: the tables store its base, a valid one, and the session knows
-- its catalog and sizes. There is at most one such state.
pub record Agrees (t : Tables) (k : Known) (s : State) : Type 0 where
  pub base : StoresValid t s.base
  pub catalog : k.catalog ≡ s.base.catalog
  pub counts : k.counts ≡ counts_of s.base

-- there is such a state
pub record AgreesOnSome (t : Tables) (k : Known) : Type 0 where
  pub state : State
  pub agrees : Agrees t k state

-- A session and tables remember a timeline: they agree on its base, and the changes that the session knows stand for the bases to
-- which undo and redo lead. There is at most one such timeline.
pub record Remembers (t : Tables) (k : Known) (s : Timeline) : Type 0 where
  pub agrees : Agrees t k (start_from s.now)
  pub history : KeepsTimeline k.history s

-- there is such a timeline
pub record RemembersSome (t : Tables) (k : Known) : Type 0 where
  pub timeline : Timeline
  pub remembers : Remembers t k timeline
