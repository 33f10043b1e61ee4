-- What a change of tables tells of the places where they differ: how many writes it made, how many rows came and how many went.
use Rattle.std.specs.Prelude.{◌≡◌, ℕ, Bool, not, List, length, filter, is_some}
use Rattle.std.specs.FinMap as tables
use Rattle.bdb_base.specs.Causes.{Rises}
use Rattle.bdb_keep.specs.Seen.{Seen}
use Rattle.bdb_keep.specs.Tables.{Tables}
use Rattle.bdb_tables.specs.Differences.{AreDifferences}
use Rattle.bdb_val.specs.Steps.{counted}

-- tables have no row at a place
abbrev pub has_none : Tables → List ℕ → Bool
has_none t p = not (is_some (tables.get t p))

-- As many writes were made as there are places; so many of these had no row before, and so many have none afterwards.
pub record TellsPlaces (old new : Seen) (put taken : ℕ) (ps : List (List ℕ)) : Type 0 where
  pub writes : Rises (length ps) old.writes new.writes
  pub came : put ≡ counted (length (filter (has_none old.kept) ps))
  pub went : taken ≡ counted (length (filter (has_none new.kept) ps))

-- this is told of the places where the tables differ, in whichever order they are listed
abbrev pub TellsDifferences : Seen → Seen → ℕ → ℕ → Type 0
TellsDifferences old new put taken = (ps : List (List ℕ)) → AreDifferences (tables.get old.kept) (tables.get new.kept) ps → TellsPlaces old new put taken ps
