-- The names of worlds, each from the world from which it comes.
use Rattle.std.specs.Prelude.{◌≡◌, ◌<◌, ◌^◌, ℕ, zero, suc, Bool, true, nat_eq, cond, List, [], ◌∷◌, Option, Some, None, map}
use Rattle.std.specs.List.{list_all}
use Rattle.std.specs.Option.{option_and_then}
use Rattle.std.specs.Ordering.{nat_cmp}
use Rattle.bdb_base.specs.Alternation.{alternates}
use Rattle.bdb_base.specs.Same.{same_path}
use Rattle.bdb_base.specs.SortedSet.{ascending}
use Rattle.bdb_keep.specs.Tables.{Tables}
use Rattle.bdb_tables.specs.InUse.{depth_codec}
use Rattle.bdb_tables.specs.Names.{Names, AreNames, path_of, depth_of}
use Rattle.bdb_tables.specs.Writes.{Gives}
use Rattle.bdb_tables.specs.States.{HoldsStates}
use Rattle.bdb_names.specs.declared.named.NamedWorld.{NamedWorld}
use Rattle.bdb_graph.specs.declared.ups.Up.{Up}

-- the number of a world
abbrev pub number_of_up : Up → ℕ
number_of_up x = x.wid

-- the world of a number among these
abbrev pub up_in : List Up → ℕ → Option Up
up_in [] n = None
up_in (x ∷ xs) n = cond (nat_eq n x.wid) (Some x) (up_in xs n)

-- the users on the way from world 0 to a world, put before others; none where so many steps don't lead there
abbrev pub climb : List Up → ℕ → ℕ → List ℕ → Option (List ℕ)
climb ups zero n back = cond (nat_eq n 0) (Some back) None
climb ups (suc d) n back = option_and_then (λ x. climb ups d x.from (x.uid ∷ back)) (up_in ups n)

-- a world comes from world 0 by way of a path
pub record IsClimbed (ups : List Up) (x : Up) : Type 0 where
  pub path : List ℕ
  pub climbed : climb ups x.depth x.wid [] ≡ Some path
  pub apart : alternates path ≡ true

-- a world's number, and its way from world 0
abbrev pub climbed_as : List Up → Up → ℕ × Option (List ℕ)
climbed_as ups x = (x.wid, climb ups x.depth x.wid [])

-- a world's number and its path
abbrev pub named_as : NamedWorld → ℕ × Option (List ℕ)
named_as x = (x.wid, Some x.path)

-- a world has the number of one of these, and its way from world 0 for a path
pub record IsNamedUp (ups : List Up) (x : Up) (world : NamedWorld) : Type 0 where
  pub same : named_as world ≡ climbed_as ups x
  pub apart : alternates world.path ≡ true

-- worlds have the numbers of some of these, and their ways from world 0 for paths
pub record AreNamedUps (ups xs : List Up) (worlds : List NamedWorld) : Type 0 where
  pub same : map named_as worlds ≡ map (climbed_as ups) xs
  pub apart : list_all (λ (x : NamedWorld). alternates x.path) worlds ≡ true

-- the path of a number among worlds
abbrev pub path_in : List NamedWorld → ℕ → Option (List ℕ)
path_in [] n = None
path_in (x ∷ xs) n = cond (nat_eq n x.wid) (Some x.path) (path_in xs n)

-- whichever states the tables hold, over whichever users, these are the paths of all numbers of four bytes; the worlds
-- are in order of their numbers
pub record TellNames (t : Tables) (worlds : List NamedWorld) : Type 0 where
  pub sorted : ascending nat_cmp (map (λ (x : NamedWorld). x.wid) worlds) ≡ true
  pub tell : (users : ℕ → Bool) (ns : Names) → HoldsStates users ns t → (n : ℕ) → n < 2 ^ 32 → path_of ns n ≡ path_in worlds n

-- the number of a path among worlds
abbrev pub number_in : List NamedWorld → List ℕ → Option ℕ
number_in [] w = None
number_in (x ∷ xs) w = cond (same_path w x.path) (Some x.wid) (number_in xs w)

-- worlds as names
abbrev pub names_of : List NamedWorld → Names
names_of worlds = record { path = path_in worlds; number = number_in worlds; used = map (λ (x : NamedWorld). x.wid) worlds }

-- worlds whose names are those of whichever states the tables hold, and whose depths are the tables'
pub record AreWorlds (t : Tables) (worlds : List NamedWorld) : Type 0 where
  pub told : TellNames t worlds
  pub names : AreNames (names_of worlds)
  pub depths : Gives depth_codec t (depth_of (names_of worlds))
