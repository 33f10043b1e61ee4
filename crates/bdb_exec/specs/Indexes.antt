-- Tuples by the values of some of their columns.
use Rattle.std.specs.Prelude.{◌≡◌, ℕ, Bool, false, cond, List, [], ◌∷◌, ◌++◌, Option, Some, None, IfSome, filter}
use Rattle.std.specs.List.{slice_get}
use Rattle.std.specs.Option.{option_and_then, option_map}
use Rattle.std.specs.declared.cmp.Ordering.{Ordering}
use Rattle.std.specs.Ordering.{is_eq, nat_cmp, ordering_then}
use Rattle.std.specs.BTreeMap.{BTreeMap, get}
use Rattle.bdb_base.specs.Order.{row_cmp}
use Rattle.bdb_base.specs.declared.kinds.Value.{Value}
use Rattle.bdb_base.specs.declared.tuple.Tuple.{Tuple}
use Rattle.bdb_keep.specs.Tables.{Tables}
use Rattle.bdb_plan.specs.Running.{plus_tuples}
use Rattle.bdb_exec.specs.declared.index.Index.{Index}
use Rattle.bdb_exec.specs.Seen.{sight_of}

-- the values of columns, where all are there
abbrev pub values_of : (ℕ → Option Value) → List ℕ → Option (List Value)
values_of value [] = Some []
values_of value (c ∷ cs) = option_and_then (λ v. option_map (λ vs. v ∷ vs) (values_of value cs)) (value c)

-- values are there, and they are these
abbrev pub is_key : List Value → Option (List Value) → Bool
is_key key None = false
is_key key (Some vs) = is_eq (row_cmp vs key)

-- a tuple has these values of columns
abbrev pub has_key : List ℕ → List Value → Tuple → Bool
has_key cols key t = is_key key (values_of (slice_get t.vals) cols)

-- the tuples that are there
abbrev pub group_of : Option (List Tuple) → List Tuple
group_of None = []
group_of (Some ts) = ts

-- by values stand exactly the tuples that have them of columns, in their order
abbrev pub GroupsBy : List ℕ → List Tuple → BTreeMap (List Value) (List Tuple) → Type 0
GroupsBy cols pool groups = (key : List Value) → group_of (get row_cmp groups key) ≡ filter (has_key cols key) pool

-- one more tuple stands by values
abbrev pub PutsAt : BTreeMap (List Value) (List Tuple) → BTreeMap (List Value) (List Tuple) → List Value → Tuple → Type 0
PutsAt m n key t = (q : List Value) → group_of (get row_cmp n q) ≡ cond (is_eq (row_cmp key q)) (group_of (get row_cmp m q) ++ (t ∷ [])) (group_of (get row_cmp m q))

-- nothing changes by other values
abbrev pub KeepsRest : BTreeMap (List Value) (List Tuple) → BTreeMap (List Value) (List Tuple) → List Value → Type 0
KeepsRest m n key = (q : List Value) → is_eq (row_cmp key q) ≡ false → get row_cmp n q ≡ get row_cmp m q

-- the tuples that a world has with plus, of a relation
abbrev pub place_pool : Tables → ℕ × ℕ → List Tuple
place_pool t place = plus_tuples ((sight_of t).rows place.0 place.1)

-- the order of worlds, relations and columns
abbrev pub index_cmp : (ℕ × ℕ) × ℕ → (ℕ × ℕ) × ℕ → Ordering
index_cmp a b = ordering_then (ordering_then (nat_cmp a.0.0 b.0.0) (nat_cmp a.0.1 b.0.1)) (nat_cmp a.1 b.1)

-- by values stand the tuples that a world has with plus, of a relation
abbrev pub RecallsIndexes : Tables → BTreeMap ((ℕ × ℕ) × ℕ) Index → Type 0
RecallsIndexes t m = (at : (ℕ × ℕ) × ℕ) → IfSome (get index_cmp m at) (λ index. GroupsBy index.cols (place_pool t at.0) index.groups)
