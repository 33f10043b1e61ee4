-- The worlds of a stored base with their numbers, and what calls tell of them.
use Rattle.std.specs.Prelude.{◌≡◌, ℕ, true, nat_eq, List, map, Option, Some}
use Rattle.std.specs.List.{list_all, position_or_len}
use Rattle.std.specs.Option.{option_map, unwrap_or}
use Rattle.bdb_base.specs.Bases.{Contents, is_user}
use Rattle.bdb_base.specs.States.{states_of}
use Rattle.bdb_keep.specs.Tables.{Tables}
use Rattle.bdb_tables.specs.Names.{Names, path_of, number_of, is_named}
use Rattle.bdb_stored.specs.Tree.{child_of, children_of}
use Rattle.bdb_catalog.specs.Bases.{StoresValid}
use Rattle.bdb_names.specs.declared.named.NamedWorld.{NamedWorld}

-- the world of a path, with its number
abbrev pub named_world : Names → List ℕ → NamedWorld
named_world ns w = record { wid = unwrap_or (number_of ns w) 0; path = w }

-- the place of the world of a number in a list; the list's length where it is not there
abbrev pub place_of_number : List NamedWorld → ℕ → ℕ
place_of_number worlds wid = position_or_len (λ x. nat_eq x.wid wid) worlds

-- a world has the number and the path of a state of the base
abbrev pub IsState : (t : Tables) (b : Contents) → StoresValid t b → NamedWorld → Type 0
IsState t b v x = path_of v.stored.names x.wid ≡ Some x.path

-- worlds are the states of the base in order, with their numbers
abbrev pub AreStatesInOrder : (t : Tables) (b : Contents) → StoresValid t b → List NamedWorld → Type 0
AreStatesInOrder t b v worlds = worlds ≡ map (named_world v.stored.names) (states_of b.stmts)

-- whichever valid base the tables store, these are its states in order, with their numbers
abbrev pub TellsStates : Tables → List NamedWorld → Type 0
TellsStates t worlds = (b : Contents) (v : StoresValid t b) → AreStatesInOrder t b v worlds

-- whichever valid base the tables store, this is the state one user deeper than another, if there is one
abbrev pub TellsChild : Tables → NamedWorld → ℕ → Option NamedWorld → Type 0
TellsChild t x uid found = (b : Contents) (v : StoresValid t b) → IsState t b v x → is_user b.catalog.users uid ≡ true
    → found ≡ option_map (named_world v.stored.names) (child_of (is_named v.stored.names) x.path uid)

-- whichever valid base the tables store, these are the states one user deeper than another, by user
abbrev pub TellsChildren : Tables → NamedWorld → List ℕ → List NamedWorld → Type 0
TellsChildren t x uids found = (b : Contents) (v : StoresValid t b) → IsState t b v x → list_all (is_user b.catalog.users) uids ≡ true
    → found ≡ map (named_world v.stored.names) (children_of (is_named v.stored.names) uids x.path)
