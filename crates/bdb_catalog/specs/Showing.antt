-- The world of a path, as it is read from tables that store a base.
use Rattle.std.specs.Prelude.{◌≡◌, ℕ, Bool, true, false, List, Some, map, cond}
use Rattle.std.specs.List.{list_all}
use Rattle.bdb_base.specs.Bases.{Contents, key_lengths}
use Rattle.bdb_base.specs.States.{is_state, deepest_suffix}
use Rattle.bdb_base.specs.WorldRows.{world_of}
use Rattle.bdb_base.specs.declared.kinds.Held.{Held}
use Rattle.bdb_base.specs.declared.kinds.Stmt.{Stmt}
use Rattle.bdb_keep.specs.Tables.{Tables}
use Rattle.bdb_tables.specs.Names.{number_of, is_named}
use Rattle.bdb_tables.specs.States.{HoldsStates}
use Rattle.bdb_worlds.specs.Holding.{Worlds}
use Rattle.bdb_catalog.specs.Bases.{HasUsers}

-- a number stands for the deepest state that a path ends in, and it is told whether that is the path itself
pub record IsStateOf (s : Worlds) (path : List ℕ) (found : ℕ × Bool) : Type 0 where
  pub number : number_of s.names (deepest_suffix (is_named s.names) path) ≡ Some found.0
  pub own : found.1 ≡ is_named s.names path

-- whichever states the tables hold over users among whom are those of the path
abbrev pub FindsState : Tables → List ℕ → ℕ × Bool → Type 0
FindsState t path found = (s : Worlds) → HoldsStates s.users s.names t → list_all s.users path ≡ true → IsStateOf s path found

-- a row that is inherited as it stands
abbrev pub inherited : Held → Held
inherited h = record { tuple = h.tuple; sign = h.sign; explicit = false }

-- a world's rows, as its own path has them or as another path inherits them
abbrev pub shown : Bool → List Held → List Held
shown own rows = cond own rows (map inherited rows)

-- whichever valid base the tables store with the users of a path, these are the rows of the world of the path
abbrev pub IsWorldOf : Tables → List ℕ → List Held → Type 0
IsWorldOf t path held = (b : Contents) → HasUsers t path b → held ≡ world_of (key_lengths b.catalog.rels) b.stmts path

-- a path that is no state has the rows of the deepest state that it ends in, none of them explicit
abbrev pub PlainPathsInherit : Type 0
PlainPathsInherit = (keys : ℕ → ℕ) (stmts : List Stmt) (w : List ℕ) → is_state stmts w ≡ false
    → world_of keys stmts w ≡ map inherited (world_of keys stmts (deepest_suffix (is_state stmts) w))
