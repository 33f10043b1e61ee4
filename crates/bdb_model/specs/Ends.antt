-- The statements at the ends of a path, where they stand in order.
use Rattle.std.specs.Prelude.{◌≡◌, ℕ, ◌≤◌, Bool, true, not, List, length, take, drop, filter}
use Rattle.std.specs.List.{list_all}
use Rattle.std.specs.Ordering.{is_lt}
use Rattle.bdb_base.specs.declared.kinds.Stmt.{Stmt}
use Rattle.bdb_base.specs.Order.{path_cmp}
use Rattle.bdb_base.specs.Segments.{is_suffix}
use Rattle.bdb_base.specs.WorldRows.{world_of}

-- a statement's path comes before another path
abbrev pub path_is_before : List ℕ → Stmt → Bool
path_is_before w x = is_lt (path_cmp x.path w)

-- before a place each statement's path comes before another path, and from there on none does
pub record IsFirstAt (stmts : List Stmt) (w : List ℕ) (at : ℕ) : Type 0 where
  pub within : at ≤ length stmts
  pub before : list_all (path_is_before w) (take at stmts) ≡ true
  pub behind : list_all (λ x. not (path_is_before w x)) (drop at stmts) ≡ true

-- a world depends on the statements at the path's ends alone
abbrev pub WorldsDependOnEnds : Type 0
WorldsDependOnEnds = (keys : ℕ → ℕ) (stmts : List Stmt) (w : List ℕ) → world_of keys (filter (λ x. is_suffix x.path w) stmts) w ≡ world_of keys stmts w
