-- Which statements are those of a valid base, as tests that go along the list once. `keys` gives the length of each relation's key.
use Rattle.std.specs.Prelude.{ℕ, Bool, true, not, ◌&&◌, ◌||◌, nat_le, List, [], ◌∷◌, length, cond}
use Rattle.std.specs.List.{list_all}
use Rattle.std.specs.declared.cmp.Ordering.{Ordering}
use Rattle.std.specs.Ordering.{nat_cmp, is_lt, ordering_then}
use Rattle.bdb_base.specs.Bases.{belongs, key_lengths, tuple_count, world_count}
use Rattle.bdb_base.specs.Clash.{key_of}
use Rattle.bdb_base.specs.Limits.{most_statements, most_tuples, most_worlds}
use Rattle.bdb_base.specs.Order.{path_cmp, row_cmp, tuple_cmp}
use Rattle.bdb_base.specs.Same.{same_sign}
use Rattle.bdb_base.specs.declared.kinds.Catalog.{Catalog}
use Rattle.bdb_base.specs.declared.kinds.Sign.TheVariants.{Plus}
use Rattle.bdb_base.specs.declared.kinds.Stmt.{Stmt}

-- by path, then tuple
abbrev pub place_cmp : Stmt → Stmt → Ordering
place_cmp a b = ordering_then (path_cmp a.path b.path) (tuple_cmp a.tuple b.tuple)

-- by path, then relation, then key
abbrev pub group_cmp : (ℕ → ℕ) → Stmt → Stmt → Ordering
group_cmp keys a b = ordering_then (path_cmp a.path b.path) (ordering_then (nat_cmp a.tuple.rel b.tuple.rel) (row_cmp (key_of keys a.tuple) (key_of keys b.tuple)))

abbrev pub is_plus : Stmt → Bool
is_plus x = same_sign x.sign Plus

-- an item is below the first one of a list, if there is one
abbrev pub below_next : {X : Type 0} → (X → X → Ordering) → X → List X → Bool
below_next R x [] = true
below_next R x (y ∷ ys) = is_lt (R x y)

-- each item is below the next one
abbrev pub climbs : {X : Type 0} → (X → X → Ordering) → List X → Bool
climbs R [] = true
climbs R (x ∷ xs) = below_next R x xs && climbs R xs

-- the group of a statement is below that of the first plus one of a list, if there is one
abbrev pub below_plus : (ℕ → ℕ) → Stmt → List Stmt → Bool
below_plus keys x [] = true
below_plus keys x (y ∷ ys) = cond (is_plus y) (is_lt (group_cmp keys x y)) (below_plus keys x ys)

-- the group of each plus statement is below that of the next one
abbrev pub plus_climb : (ℕ → ℕ) → List Stmt → Bool
plus_climb keys [] = true
plus_climb keys (x ∷ xs) = (not (is_plus x) || below_plus keys x xs) && plus_climb keys xs

-- the statements are in order, with no tuple twice at a path, and no two plus ones of a relation and key at a path
abbrev pub are_ordered_apart : (ℕ → ℕ) → List Stmt → Bool
are_ordered_apart keys xs = climbs place_cmp xs && plus_climb keys xs

-- the statements belong to a catalog, and no two clash at a path
abbrev pub are_consistent : Catalog → List Stmt → Bool
are_consistent c xs = list_all (belongs c) xs && are_ordered_apart (key_lengths c.rels) xs

-- the statements, their tuples and their worlds are not too many
abbrev pub are_few : List Stmt → Bool
are_few xs = nat_le (length xs) most_statements && (nat_le (tuple_count xs) most_tuples && nat_le (world_count xs) most_worlds)
