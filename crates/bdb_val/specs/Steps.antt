-- What settles the rows of one world: what was read, and what was written.
use Rattle.std.specs.Prelude.{◌≡◌, ℕ, ◌-◌, ◌^◌, min, Bool, true, false, not, ◌&&◌, List, [], length, filter, Option, Some, None, is_some, MatchOption, Result, map}
use Rattle.std.specs.List.{list_any}
use Rattle.std.specs.FinMap as tables
use Rattle.bdb_base.specs.Causes.{Rises}
use Rattle.bdb_base.specs.Same.{same_sign}
use Rattle.bdb_base.specs.declared.kinds.Sign.{Sign}
use Rattle.bdb_base.specs.declared.tuple.Tuple.{Tuple}
use Rattle.bdb_keep.specs.Seen.{Seen, NeverFall, Steps}
use Rattle.bdb_keep.specs.Tables.{Tables}
use Rattle.bdb_key.specs.Grammar.{IsNum}
use Rattle.bdb_tables.specs.InUse.{ValKey, link_codec, val_codec}
use Rattle.bdb_tables.specs.Codec.{HasAt}
use Rattle.bdb_tables.specs.Marks.{Mark, sign_of}
use Rattle.bdb_tables.specs.Writes.{with_changes}
use Rattle.bdb_tables.specs.Differences.{AreDifferences}
use Rattle.bdb_val.specs.Reads.{AreReadUnder, HasRows, IsSpan}
use Rattle.bdb_val.specs.Settling.{mark_in, settling, keyed}
use Rattle.bdb_val.specs.declared.stored.StoredRow.{StoredRow}
use Rattle.bdb_val.specs.declared.stored.SettledWorld.{SettledWorld}

-- in each world a beginning of keys is that of the tuples that pass a test
abbrev pub AreBeginnings : (ℕ → ℕ) → (Tuple → Bool) → (ℕ → List ℕ) → Type 0
AreBeginnings keys test prefix = (wid : ℕ) → IsNum wid → IsSpan keys wid test (prefix wid)

-- the changes of rows that settle a world whose rows are `own`, over those of the world to which it is linked
abbrev pub rows_made : (ℕ → ℕ) → ℕ → List StoredRow → List StoredRow → List (ValKey × Option Mark)
rows_made keys wid own from = map (keyed keys wid) (settling keys own own from)

-- Rows of a world are settled: they, and those of the world to which it is linked, were read, and the changes are written.
pub record IsSettling (keys : ℕ → ℕ) (t u : Tables) (wid : ℕ) (link : Option ℕ) (prefix : ℕ → List ℕ) : Type 0 where
  pub own : List StoredRow
  pub from : List StoredRow
  pub own_read : AreReadUnder t (prefix wid) own
  pub from_read : MatchOption link (from ≡ []) (λ m. AreReadUnder t (prefix m) from)
  pub written : u ≡ with_changes val_codec t (rows_made keys wid own from)

-- two signs are one, or there is none of either
abbrev pub same_signs : Option Sign → Option Sign → Bool
same_signs None None = true
same_signs None (Some t) = false
same_signs (Some s) None = false
same_signs (Some s) (Some t) = same_sign s t

-- a row has another sign than it had, or a first or no sign
abbrev pub turns_from : Option Mark → Option Mark → Bool
turns_from before next = not (same_signs (sign_of before) (sign_of next))

-- a row comes where there was none
abbrev pub comes : Option Mark → Option Mark → Bool
comes before next = not (is_some before) && is_some next

-- a row goes
abbrev pub goes : Option Mark → Option Mark → Bool
goes before next = is_some before && not (is_some next)

-- a change of rows, whose marks are looked up by number, gives a tuple another sign, or a first or no sign
abbrev pub turns : (ℕ → Option Mark) → ValKey × Option Mark → Bool
turns mark x = turns_from (mark x.0.3) x.1

-- a change puts a row where there was none
abbrev pub is_new : (ℕ → Option Mark) → ValKey × Option Mark → Bool
is_new mark x = comes (mark x.0.3) x.1

-- a change takes a row away
abbrev pub is_gone : (ℕ → Option Mark) → ValKey × Option Mark → Bool
is_gone mark x = goes (mark x.0.3) x.1

-- a count that stays at the end of its type
abbrev pub counted : ℕ → ℕ
counted n = min n (2 ^ 64 - 1)

-- What a settling tells of its changes: whether one gives a tuple another sign, how many put a row where there was none, and
-- how many take one away.
pub record Tells (mark : ℕ → Option Mark) (made : List (ValKey × Option Mark)) (s : SettledWorld) : Type 0 where
  pub turned : s.turned ≡ list_any (turns mark) made
  pub put : s.put ≡ length (filter (is_new mark) made)
  pub taken : s.taken ≡ length (filter (is_gone mark) made)

-- How a call ends that reads and writes: no count falls, and it tells a fault only where the count of faults rose.
pub record IsChanging {T E : Type 0} (old new : Seen) (result : Result T E) (fault : E) : Type 0 where
  pub counts : NeverFall old new
  pub steps : Steps old new result fault

-- The rows of a world under a beginning are settled: its link was read, and one write was made for each change.
pub record IsStep (keys : ℕ → ℕ) (old new : Seen) (wid : ℕ) (prefix : ℕ → List ℕ) (s : SettledWorld) : Type 0 where
  pub link : Option ℕ
  pub linked : HasAt link_codec old.kept wid link
  pub settling : IsSettling keys old.kept new.kept wid link prefix
  pub tells : Tells (mark_in settling.own) (rows_made keys wid settling.own settling.from) s
  pub writes : Rises (length (rows_made keys wid settling.own settling.from)) old.writes new.writes

-- whichever rows the tables have, as many writes were made as there are places at which they differ
abbrev pub WritesDifferences : (ℕ → ℕ) → Seen → Seen → Type 0
WritesDifferences keys old new = (tuple : ℕ → Option Tuple) (f : ValKey → Option Mark) → HasRows keys tuple f old.kept
    → (ps : List (List ℕ)) → AreDifferences (tables.get old.kept) (tables.get new.kept) ps → Rises (length ps) old.writes new.writes
