-- The finite structure that stands for the worlds of all paths: the states with their suffix links, the tuples of the
-- statements, the edges, and the rows of the states' worlds. A state or a tuple is named by its place in its list.
use Rattle.std.specs.Prelude.{◌≡◌, ℕ, ◌+◌, ◌-◌, ◌^◌, ◌<◌, nat_le, true, not, List, [], ◌∷◌, length, map, filter, Option, Some, None, cond}
use Rattle.std.specs.List.{flat_map}
use Rattle.std.specs.Option.{option_map}
use Rattle.bdb_base.specs.declared.kinds.Catalog.{Catalog}
use Rattle.bdb_base.specs.declared.kinds.Held.{Held}
use Rattle.bdb_base.specs.declared.kinds.Stmt.{Stmt}
use Rattle.bdb_base.specs.declared.tuple.Tuple.{Tuple}
use Rattle.bdb_base.specs.Bases.{Contents, key_lengths}
use Rattle.bdb_base.specs.Order.{path_cmp, tuple_cmp}
use Rattle.bdb_base.specs.Queries.{user_numbers}
use Rattle.bdb_base.specs.Segments.{is_suffix}
use Rattle.bdb_base.specs.SortedSet.{is_member, ascending}
use Rattle.bdb_base.specs.States.{edge_target, states_of, suffix_link}
use Rattle.bdb_base.specs.WorldRows.{tuples_of, world_of}
use Rattle.bdb_paths.specs.Places.{place_in}
use Rattle.bdb_canon.specs.declared.structure.Canon.{Canon}
use Rattle.bdb_canon.specs.declared.structure.CanonEdge.{CanonEdge}
use Rattle.bdb_canon.specs.declared.structure.CanonRow.{CanonRow}
use Rattle.bdb_canon.specs.declared.structure.CanonWorld.{CanonWorld}

-- the place to which the suffix link of a state leads; the empty path has no link
abbrev pub link_place : List (List ℕ) → List ℕ → Option ℕ
link_place states w = option_map (place_in path_cmp states) (suffix_link (is_member path_cmp states) w)

-- a state with its suffix link
abbrev pub world_entry : List (List ℕ) → List ℕ → CanonWorld
world_entry states w = record { path = w; suffix = link_place states w }

-- the edge of a state for a user, unless the user is the state's last
abbrev pub edges_at : List (List ℕ) → List ℕ → ℕ → List CanonEdge
edges_at states w i = cond (is_suffix (i ∷ []) w) []
    (record { from = place_in path_cmp states w; uid = i; to = place_in path_cmp states (edge_target (is_member path_cmp states) w i) } ∷ [])

-- the edges of a state, by user
abbrev pub edges_from : List ℕ → List (List ℕ) → List ℕ → List CanonEdge
edges_from users states w = flat_map (edges_at states w) users

-- a row of a state's world
abbrev pub row_entry : List (List ℕ) → List Tuple → List ℕ → Held → CanonRow
row_entry states tuples w h = record { world = place_in path_cmp states w; tuple = place_in tuple_cmp tuples h.tuple; sign = h.sign; explicit = h.explicit }

-- the rows of a state's world, by tuple
abbrev pub rows_from : (ℕ → ℕ) → List Stmt → List (List ℕ) → List Tuple → List ℕ → List CanonRow
rows_from keys stmts states tuples w = map (row_entry states tuples w) (world_of keys stmts w)

-- the structure over the live users, the states and the tuples
abbrev pub canon_over : (ℕ → ℕ) → List Stmt → List ℕ → List (List ℕ) → List Tuple → Canon
canon_over keys stmts users states tuples = record {
  worlds = map (world_entry states) states;
  tuples = tuples;
  edges = flat_map (edges_from users states) states;
  rows = flat_map (rows_from keys stmts states tuples) states;
}

-- the structure of a base
abbrev pub canon_of : Contents → Canon
canon_of b = canon_over (key_lengths b.catalog.rels) b.stmts (user_numbers b.catalog.users) (states_of b.stmts) (tuples_of b.stmts)

-- how many lines tell the structure: one for each live user, relation, tuple, world, edge and row
abbrev pub line_count : Catalog → Canon → ℕ
line_count catalog k = length (user_numbers catalog.users) + (length catalog.rels + (length k.tuples + (length k.worlds + (length k.edges + length k.rows))))

-- how many edges a state has
abbrev pub edge_count : List ℕ → List ℕ → ℕ
edge_count users w = length (filter (λ i. not (is_suffix (i ∷ []) w)) users)

-- how many rows a state's world has
abbrev pub row_count : (ℕ → ℕ) → List Stmt → List ℕ → ℕ
row_count keys stmts w = length (world_of keys stmts w)

-- what is left of a number without another; none where there is not so much
abbrev pub left_after : ℕ → ℕ → Option ℕ
left_after n m = cond (nat_le m n) (Some (n - m)) None

-- a list of states: in order, the empty path among them, and so few that a place is a u32
pub record AreStates (states : List (List ℕ)) : Type 0 where
  pub sorted : ascending path_cmp states ≡ true
  pub root : is_member path_cmp states [] ≡ true
  pub few : length states < 2 ^ 32

-- a list of tuples: in order, and so few that a place is a u32
pub record AreTuplesInOrder (tuples : List Tuple) : Type 0 where
  pub sorted : ascending tuple_cmp tuples ≡ true
  pub few : length tuples < 2 ^ 32
