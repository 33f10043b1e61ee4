-- Places of items in lists, and of the paths to which others lead.
use Rattle.std.specs.Prelude.{ℕ, suc, List, [], ◌∷◌, Option, None, Some, cond}
use Rattle.std.specs.Ordering.{is_eq}
use Rattle.std.specs.declared.cmp.Ordering.{Ordering}
use Rattle.bdb_base.specs.Order.{path_cmp}
use Rattle.bdb_base.specs.SortedSet.{is_member}
use Rattle.bdb_base.specs.States.{deepest_suffix}

-- the first place of an item in a list; the list's length where it is not there
abbrev pub place_in : {X : Type 0} → (X → X → Ordering) → List X → X → ℕ
place_in R [] x = 0
place_in R (y ∷ ys) x = cond (is_eq (R y x)) 0 (suc (place_in R ys x))

-- the first place of an item in a list, if it is there
abbrev pub place_if_there : {X : Type 0} → (X → X → Ordering) → List X → X → Option ℕ
place_if_there R xs x = cond (is_member R xs x) (Some (place_in R xs x)) None

-- the place in a list of paths to which a path leads: that of its deepest suffix
abbrev pub target_place : List (List ℕ) → List ℕ → ℕ
target_place paths w = place_in path_cmp paths (deepest_suffix (is_member path_cmp paths) w)
