-- What calls tell of the structure of a stored base.
use Rattle.std.specs.Prelude.{◌≡◌, ℕ, ◌≤◌, ◌+◌, ◌*◌, Bool, true, length, List, [], map, filter, Option, is_some}
use Rattle.std.specs.List.{list_all, flat_map}
use Rattle.bdb_base.specs.Bases.{Contents, is_user, key_lengths, live_name}
use Rattle.bdb_base.specs.declared.kinds.Held.{Held}
use Rattle.bdb_base.specs.declared.kinds.UserSlot.{UserSlot}
use Rattle.bdb_base.specs.declared.tuple.Tuple.{Tuple}
use Rattle.bdb_base.specs.Order.{path_cmp, tuple_cmp}
use Rattle.bdb_base.specs.Queries.{user_numbers}
use Rattle.bdb_base.specs.States.{states_of}
use Rattle.bdb_base.specs.WorldRows.{tuples_of}
use Rattle.bdb_canon.specs.Canonical.{edges_at, edges_from, rows_from, world_entry}
use Rattle.bdb_canon.specs.declared.structure.Canon.{Canon}
use Rattle.bdb_canon.specs.declared.structure.CanonEdge.{CanonEdge}
use Rattle.bdb_canon.specs.declared.structure.CanonRow.{CanonRow}
use Rattle.bdb_canon.specs.declared.structure.CanonWorld.{CanonWorld}
use Rattle.bdb_keep.specs.Seen.{Seen}
use Rattle.bdb_keep.specs.Tables.{Tables}
use Rattle.bdb_paths.specs.Places.{place_in}
use Rattle.bdb_stored.specs.Items.{with_item}
use Rattle.bdb_catalog.specs.Bases.{StoresValid}
use Rattle.bdb_stored.specs.Worlds.{AreStatesInOrder, IsState}
use Rattle.bdb_names.specs.declared.named.NamedWorld.{NamedWorld}

-- a row is that of a live user
abbrev pub is_live : ℕ × UserSlot → Bool
is_live row = is_some (live_name row.1)

-- the numbers of the rows of live users
abbrev pub live_keys : List (ℕ × UserSlot) → List ℕ
live_keys rows = map (λ (e : ℕ × UserSlot). e.0) (filter is_live rows)

-- whichever valid base the tables store, there is no more than one read for each place of a user, and one
abbrev pub ReadsPlaces : Seen → Seen → Type 0
ReadsPlaces old new = (b : Contents) → StoresValid old.kept b → new.reads ≤ old.reads + (length b.catalog.users + 1)

-- the states of a base with their suffix links
abbrev pub worlds_with_links : Contents → List CanonWorld
worlds_with_links b = map (world_entry (states_of b.stmts)) (states_of b.stmts)

-- the edges of all states
abbrev pub edges_of : Contents → List CanonEdge
edges_of b = flat_map (edges_from (user_numbers b.catalog.users) (states_of b.stmts)) (states_of b.stmts)

-- the rows of all states' worlds
abbrev pub rows_of : Contents → List CanonRow
rows_of b = flat_map (rows_from (key_lengths b.catalog.rels) b.stmts (states_of b.stmts) (tuples_of b.stmts)) (states_of b.stmts)

-- whichever valid base the tables store, and the worlds are its states: this is the state with its suffix link
abbrev pub TellsLink : Tables → List NamedWorld → NamedWorld → CanonWorld → Type 0
TellsLink t worlds x found = (b : Contents) (v : StoresValid t b) → AreStatesInOrder t b v worlds → IsState t b v x → found ≡ world_entry (states_of b.stmts) x.path

-- a number is the place of the state of a path
abbrev pub IsPlaceOf : Contents → NamedWorld → ℕ → Type 0
IsPlaceOf b x from = from ≡ place_in path_cmp (states_of b.stmts) x.path

-- whichever valid base the tables store, and the worlds are its states: this is the edge of a state for a user, if it has one
abbrev pub TellsEdge : Tables → List NamedWorld → NamedWorld → ℕ → ℕ → Option CanonEdge → Type 0
TellsEdge t worlds x from uid found = (b : Contents) (v : StoresValid t b) → AreStatesInOrder t b v worlds → IsState t b v x → IsPlaceOf b x from → is_user b.catalog.users uid ≡ true
    → with_item found [] ≡ edges_at (states_of b.stmts) x.path uid

-- whichever valid base the tables store, and the worlds are its states: these are the edges of a state, by user
abbrev pub TellsEdges : Tables → List NamedWorld → NamedWorld → ℕ → List ℕ → List CanonEdge → Type 0
TellsEdges t worlds x from uids found = (b : Contents) (v : StoresValid t b) → AreStatesInOrder t b v worlds → IsState t b v x → IsPlaceOf b x from
    → list_all (is_user b.catalog.users) uids ≡ true → found ≡ edges_from uids (states_of b.stmts) x.path

-- a row of the world at a place, with the place of its tuple
abbrev pub row_placed : List Tuple → ℕ → Held → CanonRow
row_placed tuples world h = record { world = world; tuple = place_in tuple_cmp tuples h.tuple; sign = h.sign; explicit = h.explicit }

-- How many reads a base's structure takes at most, for so many places of users: one for each place and each tuple, and three
-- that end the tables of users, states and tuples; three for each state, for its depth, its link and the end of its rows; two for
-- each row; and three for each state and user, two that look for the state one user deeper, and one for the edge.
abbrev pub canon_reads : ℕ → Canon → ℕ
canon_reads users k = let worlds = length k.worlds in 3 * (worlds * users) + 3 * worlds + users + length k.tuples + 2 * length k.rows + 3

-- whichever valid base the tables store, reading its structure takes no more reads
abbrev pub ReadsAsCanon : Seen → Seen → Canon → Type 0
ReadsAsCanon old new k = (b : Contents) → StoresValid old.kept b → new.reads ≤ old.reads + canon_reads (length b.catalog.users) k
