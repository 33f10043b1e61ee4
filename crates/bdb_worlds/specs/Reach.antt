-- How far a path goes along states.
use Rattle.std.specs.Prelude.{◌≡◌, ℕ, ◌≤◌, ◌<◌, suc, true, false, List, length, take, Option, Some, MatchOption}
use Rattle.std.specs.List.{list_all}
use Rattle.bdb_keep.specs.Tables.{Tables}
use Rattle.bdb_tables.specs.Codec.{HasRow}
use Rattle.bdb_tables.specs.InUse.{depth_codec, edge_codec}
use Rattle.bdb_tables.specs.Names.{number_of, is_named}
use Rattle.bdb_tables.specs.States.{HoldsStates}
use Rattle.bdb_worlds.specs.Holding.{Worlds}

-- the number stands for the path's first users, as many as `len`, and with one more they are no state
pub record Reaches (s : Worlds) (path : List ℕ) (len wid : ℕ) : Type 0 where
  pub within : len ≤ length path
  pub number : number_of s.names (take len path) ≡ Some wid
  pub longest : len < length path → is_named s.names (take (suc len) path) ≡ false

-- whichever states the tables hold over users among whom are those of a path
abbrev pub ReachesState : Tables → List ℕ → ℕ → ℕ → Type 0
ReachesState t path len wid = (s : Worlds) → HoldsStates s.users s.names t → list_all s.users path ≡ true → Reaches s path len wid

-- the edge of a world for a user leads to a world of this depth
pub record LeadsDeep (t : Tables) (wid uid depth target : ℕ) : Type 0 where
  pub edge : HasRow edge_codec t (wid, uid) target
  pub deep : HasRow depth_codec t target depth

-- where the edge of a world for a user leads, if to a world of this depth
abbrev pub HasDeepTarget : Tables → ℕ → ℕ → ℕ → Option ℕ → Type 0
HasDeepTarget t wid uid depth found = MatchOption found ((target : ℕ) → LeadsDeep t wid uid depth target → ⊥) (LeadsDeep t wid uid depth)
