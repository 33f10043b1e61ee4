-- What holds of the structure, in the subject's own words. Each law is the contract of a function of `laws`.
use Rattle.std.specs.Prelude.{◌≡◌, ℕ, Bool, true, ◌&&◌, nat_eq, nat_lt, List, length, Option, Some, None}
use Rattle.std.specs.List.{list_all, list_any, slice_get}
use Rattle.std.specs.Option.{option_and_then}
use Rattle.bdb_base.specs.declared.kinds.Sign.{Sign}
use Rattle.bdb_base.specs.declared.kinds.Stmt.{Stmt}
use Rattle.bdb_base.specs.declared.tuple.Tuple.{Tuple}
use Rattle.bdb_base.specs.Bases.{Contents, key_lengths}
use Rattle.bdb_base.specs.Order.{path_cmp, tuple_cmp}
use Rattle.bdb_base.specs.Same.{same_sign}
use Rattle.bdb_base.specs.SortedSet.{is_member}
use Rattle.bdb_base.specs.States.{edge_target, is_state, states_of, suffix_link}
use Rattle.bdb_base.specs.WorldRows.{tuples_of}
use Rattle.bdb_base.specs.Worlds.{stated}
use Rattle.bdb_canon.specs.declared.structure.Canon.{Canon}
use Rattle.bdb_paths.specs.Places.{place_in, target_place}
use Rattle.bdb_canon.specs.Canonical.{canon_of, link_place}

-- the suffix link of a state leads to the place of its tail's deepest suffix that is a state
abbrev pub LinksLeadToStates : Type 0
LinksLeadToStates = (stmts : List Stmt) (w : List ℕ) → option_and_then (slice_get (states_of stmts)) (link_place (states_of stmts) w) ≡ suffix_link (is_state stmts) w

-- the edge of a state for a user leads to the place of the deepest suffix, that is a state, of the path with the user at its end
abbrev pub EdgesLeadToStates : Type 0
EdgesLeadToStates = (stmts : List Stmt) (w : List ℕ) (i : ℕ)
    → slice_get (states_of stmts) (place_in path_cmp (states_of stmts) (edge_target (is_member path_cmp (states_of stmts)) w i)) ≡ Some (edge_target (is_state stmts) w i)

-- a place, if there is one, is below a length
abbrev pub is_below : ℕ → Option ℕ → Bool
is_below n None = true
is_below n (Some at) = nat_lt at n

-- all places of a structure are places of its worlds and tuples
pub record HasPlaces (k : Canon) : Type 0 where
  pub links : list_all (λ w. is_below (length k.worlds) w.suffix) k.worlds ≡ true
  pub edges : list_all (λ e. nat_lt e.from (length k.worlds) && nat_lt e.to (length k.worlds)) k.edges ≡ true
  pub rows : list_all (λ r. nat_lt r.world (length k.worlds) && nat_lt r.tuple (length k.tuples)) k.rows ≡ true

-- the places of a base's structure are in range
abbrev pub PlacesAreInRange : Type 0
PlacesAreInRange = (b : Contents) → HasPlaces (canon_of b)

-- the structure has a row for a state and a tuple, both by place, with a sign
abbrev pub has_row_for : Canon → ℕ → ℕ → Sign → Bool
has_row_for k world tuple s = list_any (λ r. nat_eq r.world world && (nat_eq r.tuple tuple && same_sign r.sign s)) k.rows

-- the finite structure stands for the worlds of all paths: the world of any path has a signed tuple exactly where there
-- is a row for the tuple at the state to which the path leads
abbrev pub RowsStandForPaths : Type 0
RowsStandForPaths = (b : Contents) (w : List ℕ) (t : Tuple) (s : Sign)
    → has_row_for (canon_of b) (target_place (states_of b.stmts) w) (place_in tuple_cmp (tuples_of b.stmts) t) s ≡ stated (key_lengths b.catalog.rels) b.stmts w t s
