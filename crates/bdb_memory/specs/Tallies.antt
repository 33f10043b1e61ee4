-- How many rows of a table are marked, counted row by row, and a tally of that by the numbers in the keys.
use Rattle.std.specs.Prelude.{◌≡◌, ℕ, ◌+◌, ◌<◌, Bool, false, cond, ◌&&◌, nat_eq, List, [], ◌∷◌, Option, Some, None, drop, slice_index_or}
use Rattle.std.specs.FinMap as map
use Rattle.bdb_keep.specs.Tables.{Tables}
use Rattle.bdb_memory.specs.Entries.{Entries, IsSetAt, place_at, row_of, rows_of}
use Rattle.bdb_memory.specs.Blocks.{joined, AreSorted}
use Rattle.bdb_keep.specs.Spans.{Listed}
use Rattle.bdb_keep.specs.Marked.{is_marked, has_word}
use Rattle.bdb_keep.specs.declared.keeper.KeyEnd.{KeyEnd}
use Rattle.bdb_keep.specs.declared.keeper.KeyEnd.TheVariants.{First, Last}
use Rattle.bdb_memory.specs.declared.tally.Tally.{Tally}

-- the table whose marked rows are counted as they come and go
abbrev pub tallied_table : ℕ
tallied_table = 11

-- they are counted so at the numbers below this one
abbrev pub tally_bound : ℕ
tally_bound = 1048576

-- a place is in a table
abbrev pub is_in : ℕ → List ℕ → Bool
is_in tab [] = false
is_in tab (first ∷ key) = nat_eq first tab

-- there is a row, in this table, and it is marked
abbrev pub is_marked_in : ℕ → List ℕ → Option (List ℕ) → Bool
is_marked_in tab place None = false
is_marked_in tab place (Some row) = is_in tab place && is_marked row

-- the same, and its key has a number
abbrev pub counts_at : ℕ → KeyEnd → ℕ → List ℕ → Option (List ℕ) → Bool
counts_at tab end number place row = is_marked_in tab place row && has_word end number (drop 1 place)

-- one for each of these, and nothing for others
abbrev pub one_at : ℕ → KeyEnd → ℕ → List ℕ → Option (List ℕ) → ℕ
one_at tab end number place row = cond (counts_at tab end number place row) 1 0

-- how many of these there are among entries
abbrev pub count_among : ℕ → KeyEnd → ℕ → Entries → ℕ
count_among tab end number [] = 0
count_among tab end number (e ∷ es) = one_at tab end number e.0 e.1 + count_among tab end number es

-- among places with their rows
abbrev pub count_listed : ℕ → KeyEnd → ℕ → Listed → ℕ
count_listed tab end number [] = 0
count_listed tab end number (r ∷ rows) = one_at tab end number r.0 (Some r.1) + count_listed tab end number rows

-- in tables
abbrev pub count_in : ℕ → KeyEnd → ℕ → Tables → ℕ
count_in tab end number t = count_listed tab end number (map.entries t)

-- a number that was found, or none, is this one
abbrev pub is_number : Option ℕ → ℕ → Bool
is_number None number = false
is_number (Some found) number = nat_eq number found

-- the counts at all numbers below the bound are right, with 0 where the list has no more
abbrev pub AreCounts : KeyEnd → List ℕ → Tables → Type 0
AreCounts end counts t = (number : ℕ) → number < tally_bound → slice_index_or counts number 0 ≡ count_in tallied_table end number t

-- what a tally counts is right, unless it is stale
pub record IsTally (tally : Tally) (t : Tables) : Type 0 where
  pub first : tally.is_stale ≡ false → AreCounts First tally.first.items t
  pub last : tally.is_stale ≡ false → AreCounts Last tally.last.items t

-- A tally that is right of some entries is followed by one that is right where another row, or none, stands at a place: `was` tells
-- whether the row before was marked and in the table, and `is` the same of the row after.
abbrev pub TallyFollows : Tally → Tally → List ℕ → Bool → Bool → Type 0
TallyFollows old new place was is = (es fs : Entries) (to : Option (Option (List ℕ))) → IsSetAt es fs place to
    → was ≡ is_marked_in tallied_table place (row_of (place_at es place)) → is ≡ is_marked_in tallied_table place (row_of to)
    → IsTally old (rows_of es) → IsTally new (rows_of fs)

-- rows on shelves: in order, and with a tally that is right of them
pub record AreTallied (shelves : List Entries) (tally : Tally) : Type 0 where
  pub sorted : AreSorted shelves
  pub tallied : IsTally tally (rows_of (joined shelves))

-- one more is counted at a number, and at each other one as many as before
abbrev pub HasRisen : Option ℕ → List ℕ → List ℕ → Type 0
HasRisen found old new = (number : ℕ) → number < tally_bound → slice_index_or new number 0 ≡ cond (is_number found number) 1 0 + slice_index_or old number 0

-- one less
abbrev pub HasFallen : Option ℕ → List ℕ → List ℕ → Type 0
HasFallen found old new = (number : ℕ) → number < tally_bound → cond (is_number found number) 1 0 + slice_index_or new number 0 ≡ slice_index_or old number 0

-- two lists have the same at each place, or 0 where they have no more
abbrev pub AreAlike : List ℕ → List ℕ → Type 0
AreAlike old new = (number : ℕ) → slice_index_or new number 0 ≡ slice_index_or old number 0
