-- The states: the paths that the statements bring into being.
use Rattle.std.specs.Prelude.{◌≡◌, ℕ, Bool, true, not, List, [], ◌∷◌, ◌++◌, map, filter, Option, None, Some, cond}
use Rattle.std.specs.List.{list_any, flat_map}
use Rattle.bdb_base.specs.declared.kinds.Stmt.{Stmt}
use Rattle.bdb_base.specs.Order.{path_cmp}
use Rattle.bdb_base.specs.Segments.{is_prefix}
use Rattle.bdb_base.specs.SortedSet.{sorted_set}

-- a state is the empty path, or a prefix of the path of a statement
abbrev pub is_state : List Stmt → List ℕ → Bool
is_state stmts [] = true
is_state stmts (i ∷ w) = list_any (λ x. is_prefix (i ∷ w) x.path) stmts

-- the prefixes of a path, from the empty one to the path itself
abbrev pub prefixes : List ℕ → List (List ℕ)
prefixes [] = [] ∷ []
prefixes (i ∷ w) = [] ∷ map (λ p. i ∷ p) (prefixes w)

-- the empty path and all prefixes of the statements' paths, as often as they come
abbrev pub stated_prefixes : List Stmt → List (List ℕ)
stated_prefixes stmts = [] ∷ flat_map (λ x. prefixes x.path) stmts

-- the states in order, each once
abbrev pub states_of : List Stmt → List (List ℕ)
states_of stmts = sorted_set path_cmp (stated_prefixes stmts)

-- the prefixes of a path that are no states yet
abbrev pub new_states : List Stmt → List ℕ → List (List ℕ)
new_states stmts w = filter (λ p. not (is_state stmts p)) (prefixes w)

-- a set of paths, as a test, has the prefixes of its members
abbrev pub HasPrefixes : (List ℕ → Bool) → Type 0
HasPrefixes P = (p q : List ℕ) → P (p ++ q) ≡ true → P p ≡ true

-- the longest suffix of a path that is in a set; the empty path where no other is
abbrev pub deepest_suffix : (List ℕ → Bool) → List ℕ → List ℕ
deepest_suffix P [] = []
deepest_suffix P (i ∷ w) = cond (P (i ∷ w)) (i ∷ w) (deepest_suffix P w)

-- where the suffix link of a path leads: to the deepest suffix of its tail; the empty path has no link
abbrev pub suffix_link : (List ℕ → Bool) → List ℕ → Option (List ℕ)
suffix_link P [] = None
suffix_link P (i ∷ w) = Some (deepest_suffix P w)

-- where the edge of a path for a user leads
abbrev pub edge_target : (List ℕ → Bool) → List ℕ → ℕ → List ℕ
edge_target P w i = deepest_suffix P (w ++ i ∷ [])
