-- The world of a path as a list of rows.
use Rattle.std.specs.Prelude.{ℕ, Bool, ◌&&◌, List, [], ◌∷◌, ◌++◌, map, cond}
use Rattle.std.specs.declared.cmp.Ordering.{Ordering}
use Rattle.std.specs.Bool.{beq}
use Rattle.std.specs.List.{flat_map, list_any}
use Rattle.bdb_base.specs.declared.kinds.Held.{Held}
use Rattle.bdb_base.specs.declared.kinds.Sign.{Sign}
use Rattle.bdb_base.specs.declared.kinds.Sign.TheVariants.{Plus, Minus}
use Rattle.bdb_base.specs.declared.kinds.Stmt.{Stmt}
use Rattle.bdb_base.specs.declared.tuple.Tuple.{Tuple}
use Rattle.bdb_base.specs.Order.{tuple_cmp}
use Rattle.bdb_base.specs.Same.{same_tuple, same_sign}
use Rattle.bdb_base.specs.SortedSet.{sorted_set}
use Rattle.bdb_base.specs.Worlds.{explicit, stated}

-- the tuples of the statements, in order, each once
abbrev pub tuples_of : List Stmt → List Tuple
tuples_of stmts = sorted_set tuple_cmp (map (λ x. x.tuple) stmts)

-- the row of a signed tuple, where the world has it; explicit where it is a statement of this very path
abbrev pub row_at : (ℕ → ℕ) → List Stmt → List ℕ → Tuple → Sign → List Held
row_at keys stmts w t s = cond (stated keys stmts w t s) (record { tuple = t; sign = s; explicit = explicit stmts w t s } ∷ []) []

-- the rows of a tuple
abbrev pub rows_at : (ℕ → ℕ) → List Stmt → List ℕ → Tuple → List Held
rows_at keys stmts w t = row_at keys stmts w t Plus ++ row_at keys stmts w t Minus

-- the rows of a path's world, by tuple
abbrev pub world_of : (ℕ → ℕ) → List Stmt → List ℕ → List Held
world_of keys stmts w = flat_map (rows_at keys stmts w) (tuples_of stmts)

-- two rows have one tuple, sign and mark
abbrev pub same_row : Held → Held → Bool
same_row a b = same_tuple a.tuple b.tuple && (same_sign a.sign b.sign && beq a.explicit b.explicit)

-- a row is among the rows
abbrev pub has_row : List Held → Held → Bool
has_row rows h = list_any (same_row h) rows

-- the order of rows by tuple alone
abbrev pub row_tuple_cmp : Held → Held → Ordering
row_tuple_cmp a b = tuple_cmp a.tuple b.tuple
