-- What the search for the worlds whose links and edges move finds.
use Rattle.std.specs.Prelude.{◌≡◌, ℕ, ◌≤◌, ◌<◌, List, [], Option, None, Some, MatchOption}
use Rattle.std.specs.FinMap as map
use Rattle.bdb_keep.specs.Tables.{Tables}
use Rattle.bdb_key.specs.Grammar.{IsNum}
use Rattle.bdb_tables.specs.Codec.{HasAt, place}
use Rattle.bdb_tables.specs.InUse.{linked_codec, edge_codec}
use Rattle.bdb_tables.specs.States.{HoldsStates}
use Rattle.bdb_names.specs.Moves.{IsLeaf, AreMovers}
use Rattle.bdb_names.specs.Search.{sources_after, met_after}
use Rattle.bdb_worlds.specs.Holding.{Worlds}

-- the suffix link of `child` leads to `wid`, and no link of a world from `low` on below `child` does
pub record IsNextChild (t : Tables) (wid low child : ℕ) : Type 0 where
  pub fits : IsNum child
  pub from : low ≤ child
  pub linked : map.get t (place linked_codec (wid, child)) ≡ Some []
  pub least : (c : ℕ) → low ≤ c → c < child → map.get t (place linked_codec (wid, c)) ≡ None

-- the least world from `low` on whose suffix link leads to `wid`
abbrev pub HasNextChild : Tables → ℕ → ℕ → Option ℕ → Type 0
HasNextChild t wid low found = MatchOption found ((c : ℕ) → low ≤ c → IsNum c → map.get t (place linked_codec (wid, c)) ≡ None) (IsNextChild t wid low)

-- what is noted once the edge of a child was read
pub record IsChildRead (t : Tables) (child uid from : ℕ) (sources met sources_now met_now : List ℕ) : Type 0 where
  pub edge : Option ℕ
  pub found : HasAt edge_codec t (child, uid) edge
  pub noted : sources_now ≡ sources_after edge from child sources
  pub moved : met_now ≡ met_after edge from met

-- Whichever states the tables hold: where `start` stands for a path, the path with `uid` behind it is no state, and its
-- edge for `uid` leads to `from`, these are the worlds whose edges for `uid` and whose suffix links would lead to it.
abbrev pub FindsMovers : Tables → ℕ → ℕ → ℕ → List ℕ → List ℕ → Type 0
FindsMovers t start uid from sources met = (s : Worlds) (q : List ℕ) → HoldsStates s.users s.names t → IsLeaf s.users s.names q uid start from
    → AreMovers s.users s.names q uid sources met
