-- How many writes are made for the places at which rows differ, as a statement is added or taken away.
--
-- Why they are no more than (d + 2) * c + 8 for c places and a path of d users: let r of the places be rows of worlds, and s all
-- others. Where a statement is added,
-- * states, their links and their edges are written no more than (d + 2) * s times;
-- * each row that new worlds inherit is written once, r + 1 at most;
-- * a tuple that had no number gets two rows, and the statement's own row is written once;
-- * settling its group makes one write for each row that is another by it, r + 2 at most.
-- That makes (d + 2) * s + 2 * r + 6. The one more is for a row that comes with a new world and goes again, so that it is no place
-- that differs. Of the worlds that are settled only that of the statement's own path may be new, as all others are longer.
-- There settling takes those rows away that the statement contradicts: where it is plus, a row of another tuple of its
-- relation and key, which is plus too. A world has no more than one such row. Settling may change the statement's own row
-- besides, which was written before it.
-- Where a statement is taken away, the same comes in turn: its row goes and its group is settled, worlds go with their rows, and
-- its tuple's number goes.
use Rattle.std.specs.Prelude.{ℕ, ◌+◌, ◌*◌, Bool, not, ◌||◌, nat_eq, cond, List, length, Option, None}
use Rattle.std.specs.FinMap as tables
use Rattle.bdb_keep.specs.Seen.{Seen}
use Rattle.bdb_keep.specs.Tables.{Tables}
use Rattle.bdb_tables.specs.Differences.{AreDifferences}
use Rattle.bdb_val.specs.Others.{is_in}
use Rattle.bdb_worlds.specs.Bounds.{EndsWithin}
use Rattle.bdb_update.specs.Joining.{is_of_tuples}
use Rattle.bdb_update.specs.Tallies.{vals_at}

-- ---- all together

-- for each place at which the rows before and after differ no more than so many writes are made, and some more in all
abbrev pub WritesWithinMore : ℕ → ℕ → Seen → Seen → Type 0
WritesWithinMore times more old new = (ps : List (List ℕ)) → AreDifferences (tables.get old.kept) (tables.get new.kept) ps → EndsWithin (times * length ps + more) old.writes new.writes

-- ---- step by step

-- what tables have at the places that pass a test
abbrev pub part_at : (List ℕ → Bool) → Tables → List ℕ → Option (List ℕ)
part_at test t q = cond (test q) (tables.get t q) None

-- a place is neither of a tuple nor of a row of a world
abbrev pub is_of_states : List ℕ → Bool
is_of_states q = not (is_in (λ n. is_of_tuples n || nat_eq n 11) q)

-- for each such place at which the rows differ no more than so many writes are made, and some more in all
abbrev pub StateWrites : ℕ → ℕ → Seen → Seen → Type 0
StateWrites times more old new = (ps : List (List ℕ)) → AreDifferences (part_at is_of_states old.kept) (part_at is_of_states new.kept) ps → EndsWithin (times * length ps + more) old.writes new.writes

-- no more writes are made than rows of worlds differ, and some more
abbrev pub RowWrites : ℕ → Seen → Seen → Type 0
RowWrites more old new = (ps : List (List ℕ)) → AreDifferences (vals_at old.kept) (vals_at new.kept) ps → EndsWithin (length ps + more) old.writes new.writes
