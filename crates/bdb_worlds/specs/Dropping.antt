-- How a state goes.
use Rattle.std.specs.Prelude.{◌≡◌, ◌≢◌, ℕ, ◌+◌, ◌*◌, Bool, false, List, [], ◌∷◌, ◌++◌, length, None, Some, map}
use Rattle.bdb_base.specs.Causes.{Rises}
use Rattle.bdb_keep.specs.Tables.{Tables}
use Rattle.bdb_key.specs.Bytes.{num_bytes}
use Rattle.bdb_tables.specs.Codec.{HasAt}
use Rattle.bdb_tables.specs.InUse.{depth_codec, link_codec, linked_codec, edge_codec, led_codec}
use Rattle.bdb_tables.specs.Names.{Names, number_of, is_named, without_name}
use Rattle.bdb_tables.specs.Spans.{AreUnder}
use Rattle.bdb_tables.specs.States.{HoldsStates}
use Rattle.bdb_tables.specs.Writes.{with_change}
use Rattle.bdb_names.specs.Turned.{link_set, edge_set, links_led}

-- the edges of these worlds and users lead to `n` in place of `s`
abbrev pub pairs_led : Tables → ℕ → ℕ → List (ℕ × ℕ) → Tables
pairs_led t s n [] = t
pairs_led t s n (k ∷ ks) = pairs_led (edge_set t (Some s) (Some n) k) s n ks

-- a world without these edges, each with its user and the world to which it leads
abbrev pub edges_dropped : Tables → ℕ → List (ℕ × ℕ) → Tables
edges_dropped t n [] = t
edges_dropped t n (x ∷ xs) = edges_dropped (edge_set t (Some x.1) None (n, x.0)) n xs

-- without the depth and the suffix link of a world
abbrev pub state_dropped : Tables → ℕ → ℕ → Tables
state_dropped t n s = with_change depth_codec (link_set t (Some s) None n) (n, None)

-- the worlds and users whose edges led to a world, from the turned rows
abbrev pub pairs_of : List ((ℕ × ℕ × ℕ) × Unit {0}) → List (ℕ × ℕ)
pairs_of rows = map (λ r. (r.0.1, r.0.2)) rows

-- the worlds whose suffix links led to a world, from the turned rows
abbrev pub kids_of : List ((ℕ × ℕ) × Unit {0}) → List ℕ
kids_of rows = map (λ r. r.0.1) rows

-- the edges of a world, from its rows
abbrev pub edges_in_rows : List ((ℕ × ℕ) × ℕ) → List (ℕ × ℕ)
edges_in_rows rows = map (λ r. (r.0.1, r.1)) rows

-- The rows of a world: where its suffix link leads, what leads to it, and its own edges.
pub record AreWorldRows (t : Tables) (n s : ℕ) (edges : List ((ℕ × ℕ × ℕ) × Unit {0})) (links : List ((ℕ × ℕ) × Unit {0})) (own : List ((ℕ × ℕ) × ℕ)) : Type 0 where
  pub link : HasAt link_codec t n (Some s)
  pub led : AreUnder led_codec t (num_bytes n) edges
  pub linked : AreUnder linked_codec t (num_bytes n) links
  pub owned : AreUnder edge_codec t (num_bytes n) own

-- the tables without a state: all that led to it leads where its suffix link leads
abbrev pub without_state : Tables → ℕ → ℕ → List (ℕ × ℕ) → List ℕ → List (ℕ × ℕ) → Tables
without_state t n s edges links own = state_dropped (edges_dropped (links_led (pairs_led t n s edges) n s links) n own) n s

-- a state is taken away
pub record IsDroppedState (t u : Tables) (n : ℕ) : Type 0 where
  pub link : ℕ
  pub led_rows : List ((ℕ × ℕ × ℕ) × Unit {0})
  pub linked_rows : List ((ℕ × ℕ) × Unit {0})
  pub edge_rows : List ((ℕ × ℕ) × ℕ)
  pub rows : AreWorldRows t n link led_rows linked_rows edge_rows
  pub made : u ≡ without_state t n link (pairs_of led_rows) (kids_of linked_rows) (edges_in_rows edge_rows)

-- where a state beyond which no other goes is taken away by its rows, the tables hold the states without it
abbrev pub DropTakesState : Type 0
DropTakesState = (users : ℕ → Bool) (ns : Names) (t u : Tables) (n : ℕ) (p : List ℕ) → HoldsStates users ns t → IsDroppedState t u n → number_of ns p ≡ Some n
    → p ≢ [] → ((i : ℕ) → is_named ns (p ++ i ∷ []) ≡ false) → HoldsStates users (without_name ns n p) u

-- how many writes that takes: three for each edge and link that led to the state, two for each of its own edges, and three
abbrev pub dropped_writes : List ((ℕ × ℕ × ℕ) × Unit {0}) → List ((ℕ × ℕ) × Unit {0}) → List ((ℕ × ℕ) × ℕ) → ℕ
dropped_writes edges links own = 3 * length edges + (3 * length links + (2 * length own + 3))

-- a state is taken away, in so many writes
pub record IsDroppedWithin (t u : Tables) (n before now : ℕ) : Type 0 where
  pub state : IsDroppedState t u n
  pub count : Rises (dropped_writes state.led_rows state.linked_rows state.edge_rows) before now
