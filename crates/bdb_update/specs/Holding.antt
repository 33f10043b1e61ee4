-- Whether statements of one path have a tuple.
use Rattle.std.specs.Prelude.{◌≡◌, ℕ, Bool, true, false, List, [], ◌∷◌}
use Rattle.std.specs.List.{list_all}
use Rattle.bdb_base.specs.Order.{statement_cmp}
use Rattle.bdb_base.specs.Same.{same_path, same_tuple}
use Rattle.bdb_base.specs.SortedSet.{ascending}
use Rattle.bdb_base.specs.declared.kinds.Stmt.{Stmt}
use Rattle.bdb_base.specs.declared.tuple.Tuple.{Tuple}

-- statements in order, all of one path
pub record AreOfOnePath (xs : List Stmt) : Type 0 where
  pub path : List ℕ
  pub here : list_all (λ x. same_path x.path path) xs ≡ true
  pub sorted : ascending statement_cmp xs ≡ true

-- the first of some statements has a tuple
abbrev pub begins_with : List Stmt → Tuple → Bool
begins_with [] t = false
begins_with (x ∷ xs) t = same_tuple t x.tuple
