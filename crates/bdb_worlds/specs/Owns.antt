-- The edges of one world.
use Rattle.std.specs.Prelude.{◌≡◌, ℕ, ◌≤◌, ◌<◌, Bool, true, nat_eq, cond, List, [], ◌∷◌, map, flat_map, Option, None, Some, MatchOption}
use Rattle.std.specs.List.{AllByRecursion}
use Rattle.std.specs.FinMap as tables
use Rattle.bdb_keep.specs.Tables.{Tables}
use Rattle.bdb_key.specs.Bytes.{num_bytes}
use Rattle.bdb_key.specs.Grammar.{IsNum}
use Rattle.bdb_tables.specs.Codec.{place}
use Rattle.bdb_tables.specs.InUse.{edge_codec}
use Rattle.bdb_tables.specs.Names.{Names, are_once, edge_of}
use Rattle.bdb_tables.specs.States.{HoldsStates}
use Rattle.bdb_names.specs.Turned.{look}
use Rattle.bdb_worlds.specs.Holding.{Worlds}

-- the edge of `wid` for a user leads to this world, and it has none for users from `low` on below
pub record IsNextEdge (t : Tables) (wid low : ℕ) (edge : ℕ × ℕ) : Type 0 where
  pub fits : IsNum edge.0
  pub target_fits : IsNum edge.1
  pub from : low ≤ edge.0
  pub there : tables.get t (place edge_codec (wid, edge.0)) ≡ Some (num_bytes edge.1)
  pub least : (j : ℕ) → low ≤ j → j < edge.0 → tables.get t (place edge_codec (wid, j)) ≡ None

-- the edge of `wid` for the least user from `low` on
abbrev pub HasNextEdge : Tables → ℕ → ℕ → Option (ℕ × ℕ) → Type 0
HasNextEdge t wid low found = MatchOption found ((j : ℕ) → low ≤ j → IsNum j → tables.get t (place edge_codec (wid, j)) ≡ None) (IsNextEdge t wid low)

-- a user and a world, as numbers of four bytes
abbrev pub IsOwnEdge : ℕ × ℕ → Type 0
IsOwnEdge x = IsNum x.0 × IsNum x.1

-- these are the edges of a world but for one user, each user once
pub record AreOwnEdges (users : ℕ → Bool) (ns : Names) (wid uid : ℕ) (edges : List (ℕ × ℕ)) : Type 0 where
  pub leads : (j : ℕ) → look edges j ≡ cond (nat_eq j uid) None (edge_of users ns (wid, j))
  pub sized : AllByRecursion IsOwnEdge edges
  pub once : are_once (map (λ x. x.0) edges) ≡ true

-- whichever states the tables hold, these are the edges of a world but for one user
abbrev pub FindsEdges : Tables → ℕ → ℕ → List (ℕ × ℕ) → Type 0
FindsEdges t wid uid edges = (s : Worlds) → HoldsStates s.users s.names t → AreOwnEdges s.users s.names wid uid edges

-- the edge of a row, by its user and the world to which it leads, unless it is the one for a user
abbrev pub edge_beside : ℕ → (ℕ × ℕ) × ℕ → List (ℕ × ℕ)
edge_beside uid row = cond (nat_eq row.0.1 uid) [] ((row.0.1, row.1) ∷ [])

-- the edges of rows but the one for a user
abbrev pub edges_beside : ℕ → List ((ℕ × ℕ) × ℕ) → List (ℕ × ℕ)
edges_beside uid rows = flat_map (edge_beside uid) rows
