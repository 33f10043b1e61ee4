-- How many writes are made for the places at which rows differ.
use Rattle.std.specs.Prelude.{ℕ, ◌+◌, ◌-◌, ◌*◌, ◌^◌, ◌<◌, ◌≤◌, List, length}
use Rattle.std.specs.FinMap as tables
use Rattle.bdb_keep.specs.Seen.{Seen}
use Rattle.bdb_tables.specs.Differences.{AreDifferences}

-- a count ends no more than n above where it was, unless it stands at the end of its type
abbrev pub EndsWithin : ℕ → ℕ → ℕ → Type 0
EndsWithin n before now = now < 2 ^ 64 - 1 → now ≤ before + n

-- for each place at which the rows before and after differ, no more than so many writes are made
abbrev pub WritesWithin : ℕ → Seen → Seen → Type 0
WritesWithin times old new = (ps : List (List ℕ)) → AreDifferences (tables.get old.kept) (tables.get new.kept) ps → EndsWithin (times * length ps) old.writes new.writes
