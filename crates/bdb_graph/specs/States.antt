-- Whether tables hold the suffix links and edges of worlds.
use Rattle.std.specs.Prelude.{◌≡◌, ℕ, Bool, true, not, ◌&&◌, List, [], Option, Some, None, MatchOption, is_some, map}
use Rattle.std.specs.List.{list_all}
use Rattle.std.specs.Option.{option_and_then, option_map}
use Rattle.std.specs.Ordering.{nat_cmp}
use Rattle.std.specs.FinMap as tables
use Rattle.bdb_base.specs.Bases.{is_user}
use Rattle.bdb_base.specs.Order.{path_cmp}
use Rattle.bdb_base.specs.SortedSet.{ascending, is_member}
use Rattle.bdb_base.specs.States.{deepest_suffix, suffix_link}
use Rattle.bdb_base.specs.declared.kinds.UserSlot.{UserSlot}
use Rattle.bdb_keep.specs.Tables.{Tables}
use Rattle.bdb_tables.specs.Codec.{Codec, place}
use Rattle.bdb_tables.specs.InUse.{edge_codec, link_codec}
use Rattle.bdb_tables.specs.Names.{Names, AreNames, edge_of, is_named, leads_to, link_of, number_of}
use Rattle.bdb_tables.specs.Spans.{IsNextUnder, NoneUnder}
use Rattle.bdb_graph.specs.Naming.{names_of, path_in}
use Rattle.bdb_names.specs.declared.named.NamedWorld.{NamedWorld}

-- ---- worlds by number and by path

-- the number of a world
abbrev pub number_of_world : NamedWorld → ℕ
number_of_world x = x.wid

-- a number is that of a world
abbrev pub is_world : List NamedWorld → ℕ → Bool
is_world worlds n = is_member nat_cmp (map number_of_world worlds) n

-- these are the paths of worlds, in order
pub record ArePathsOf (worlds : List NamedWorld) (paths : List (List ℕ)) : Type 0 where
  pub sorted : ascending path_cmp paths ≡ true
  pub members : (w : List ℕ) → is_member path_cmp paths w ≡ is_named (names_of worlds) w

-- worlds that are names, in the order of their numbers, with their paths in order
pub record AreIndexed (worlds : List NamedWorld) (paths : List (List ℕ)) : Type 0 where
  pub names : AreNames (names_of worlds)
  pub sorted : ascending nat_cmp (map number_of_world worlds) ≡ true
  pub listed : ArePathsOf worlds paths

-- a world is one of these, and its number stands for its path alone
abbrev pub IsAmongWorlds : List NamedWorld → NamedWorld → Type 0
IsAmongWorlds worlds x = path_in worlds x.wid ≡ Some x.path

-- each path is one of users only
abbrev pub have_own_paths : (ℕ → Bool) → List NamedWorld → Bool
have_own_paths users worlds = list_all (λ (x : NamedWorld). list_all users x.path) worlds

-- ---- where links and edges lead

-- the number of the deepest suffix of a path that has a number
abbrev pub target_of : Names → List ℕ → Option ℕ
target_of ns w = number_of ns (deepest_suffix (is_named ns) w)

-- the number to which the suffix link of a path leads
abbrev pub link_from : Names → List ℕ → Option ℕ
link_from ns w = option_and_then (number_of ns) (suffix_link (is_named ns) w)

-- what is found is what there should be
abbrev pub is_right : Option ℕ → Option ℕ → Bool
is_right None right = not (is_some right)
is_right (Some n) right = leads_to right n

-- a key is that of an edge of a world for a live user
abbrev pub is_edge_key : List UserSlot → List NamedWorld → ℕ × ℕ → Bool
is_edge_key users worlds k = is_world worlds k.0 && is_user users k.1

-- ---- tables

module _ {Key Row : Type 0} where
  -- a table has at a key what a function gives
  abbrev pub GivesAt : Codec Key Row → Tables → (Key → Option Row) → Key → Type 0
  GivesAt c t f k = tables.get t (place c k) ≡ option_map c.row_bytes (f k)

  -- each key that has a row passes a test
  abbrev pub AllKeysPass : Codec Key Row → Tables → (Key → Bool) → Type 0
  AllKeysPass c t p = (k : Key) → c.IsKey k → is_some (tables.get t (place c k)) ≡ true → p k ≡ true

  -- the key of the row that comes next passes a test, or it does not
  pub record TellsKey (c : Codec Key Row) (t : Tables) (p : Key → Bool) (low behind : List ℕ) (b : Bool) : Type 0 where
    pub entry : Key × Row
    pub next : IsNextUnder c t [] low behind entry
    pub told : b ≡ p entry.0

  -- what the key of the row that comes next passes, if there is one
  abbrev pub HasNextKey : Codec Key Row → Tables → (Key → Bool) → List ℕ → List ℕ → Option Bool → Type 0
  HasNextKey c t p low behind found = MatchOption found (NoneUnder c t [] low) (TellsKey c t p low behind)

-- the suffix link of a world is right
abbrev pub HasLink : Tables → List NamedWorld → NamedWorld → Type 0
HasLink t worlds x = GivesAt link_codec t (link_of (names_of worlds)) x.wid

-- the edge of a world for a user is right
abbrev pub HasEdgeFor : Tables → (ℕ → Bool) → List NamedWorld → NamedWorld → ℕ → Type 0
HasEdgeFor t users worlds x i = GivesAt edge_codec t (edge_of users (names_of worlds)) (x.wid, i)

-- the edges of a world for all users are right
abbrev pub HasEdges : Tables → (ℕ → Bool) → List NamedWorld → NamedWorld → Type 0
HasEdges t users worlds x = (i : ℕ) → users i ≡ true → HasEdgeFor t users worlds x i
