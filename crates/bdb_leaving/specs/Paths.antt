-- Worlds with their paths, as the edges that lead to them tell.
use Rattle.std.specs.Prelude.{◌≡◌, ℕ, Bool, List, [], length, map, sum_by, Some}
use Rattle.std.specs.List.{AllByRecursion}
use Rattle.std.specs.List.Sorted.{IsPermutation, IsSortedBy}
use Rattle.std.specs.Ordering.{is_lt}
use Rattle.std.specs.FinMap as tables
use Rattle.bdb_base.specs.Order.{path_cmp}
use Rattle.bdb_keep.specs.Tables.{Tables}
use Rattle.bdb_tables.specs.Codec.{place}
use Rattle.bdb_tables.specs.InUse.{IsTriple, led_codec}
use Rattle.bdb_tables.specs.States.{IsNamed}
use Rattle.bdb_names.specs.declared.named.NamedWorld.{NamedWorld}

-- the edge of a world for a user leads to a world
pub record IsLedBy (t : Tables) (wid from user : ℕ) : Type 0 where
  pub key : IsTriple (wid, from, user)
  pub row : tables.get t (place led_codec (wid, from, user)) ≡ Some []

-- some edge leads to a world
pub record IsLed (t : Tables) (wid : ℕ) : Type 0 where
  pub from : ℕ
  pub user : ℕ
  pub by : IsLedBy t wid from user

-- a number is that of a world, whose path has this length
pub record IsDeep (t : Tables) (row : ℕ × ℕ) : Type 0 where
  pub path : List ℕ
  pub named : IsNamed t row.0 path
  pub long : length path ≡ row.1

-- a world has the number and the path that the tables name so
abbrev pub HasPath : Tables → NamedWorld → Type 0
HasPath t x = IsNamed t x.wid x.path

-- these are worlds of these rows' numbers, with their paths
pub record HavePaths (t : Tables) (rows : List (ℕ × ℕ)) (worlds : List NamedWorld) : Type 0 where
  pub numbers : map (λ x. x.wid) worlds ≡ map (λ row. row.0) rows
  pub named : AllByRecursion (HasPath t) worlds

-- the lengths of the paths of worlds, together
abbrev pub path_lengths : List NamedWorld → ℕ
path_lengths worlds = sum_by (λ x. length x.path) worlds

-- a world's path comes before that of another
abbrev pub world_is_before : NamedWorld → NamedWorld → Bool
world_is_before x y = is_lt (path_cmp x.path y.path)

-- these are the worlds, and no path comes before the one in front of it
pub record AreInOrder (worlds ordered : List NamedWorld) : Type 0 where
  pub moved : IsPermutation worlds ordered
  pub sorted : IsSortedBy world_is_before ordered
