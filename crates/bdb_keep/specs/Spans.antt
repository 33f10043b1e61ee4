-- Rows that are read or written at once: those of a table whose keys begin with some bytes, and those of a list.
use Rattle.std.specs.Prelude.{◌≡◌, ℕ, zero, suc, ◌+◌, ◌≤◌, true}
use Rattle.std.specs.Prelude.{List, [], ◌∷◌, ◌++◌, take, drop}
use Rattle.std.specs.List.{AllByRecursion, slice_range}
use Rattle.std.specs.declared.cmp.Ordering.{Ordering}
use Rattle.std.specs.FinMap as map
use Rattle.std.specs.FinMap.{find}
use Rattle.bdb_base.specs.Segments.{is_prefix}
use Rattle.bdb_base.specs.SortedSet.{ascending}
use Rattle.bdb_keep.specs.Tables.{Tables, bytes_cmp}
use Rattle.bdb_keep.specs.declared.span.Cut.{Cut}

-- keys, each with its row
abbrev pub Listed : Type 0
Listed = List (List ℕ × List ℕ)

-- rows by their keys
abbrev pub listed_cmp : List ℕ × List ℕ → List ℕ × List ℕ → Ordering
listed_cmp a b = bytes_cmp a.0 b.0

-- These are the rows of a table whose keys begin so, in order: what the table has at such a key is what they have there.
pub record AreRowsUnder (t : Tables) (tab : ℕ) (prefix : List ℕ) (rows : Listed) : Type 0 where
  pub each : AllByRecursion (λ r. is_prefix prefix r.0 ≡ true) rows
  pub sorted : ascending listed_cmp rows ≡ true
  pub found : (q : List ℕ) → is_prefix prefix q ≡ true → map.get t (tab ∷ q) ≡ find bytes_cmp q rows

-- the key and the row of a cut
abbrev pub entry_in : List ℕ → Cut → List ℕ × List ℕ
entry_in bytes c = (slice_range bytes c.start c.middle, slice_range bytes c.middle c.end)

-- those of all cuts
abbrev pub listed : List ℕ → List Cut → Listed
listed bytes [] = []
listed bytes (c ∷ cs) = entry_in bytes c ∷ listed bytes cs

-- a cut lies within so many bytes
pub record IsWithin (n : ℕ) (c : Cut) : Type 0 where
  pub key : c.start ≤ c.middle
  pub row : c.middle ≤ c.end
  pub bytes : c.end ≤ n

-- cuts lie one behind the other, from a place on, within so many bytes
abbrev pub AreCuts : ℕ → ℕ → List Cut → Type 0
AreCuts at n [] = Unit {0}
AreCuts at n (c ∷ cs) = (at ≤ c.start) × IsWithin n c × AreCuts c.end n cs

-- bytes with four others in the place of those that begin at an index
abbrev pub with_four : ℕ → List ℕ → List ℕ → List ℕ
with_four at four bytes = take at bytes ++ (four ++ drop (at + 4) bytes)

-- rows, of which the one at an index has other bytes in the place of the first four of its key, and another row
abbrev pub with_ends : List ℕ → List ℕ → Listed → ℕ → Listed
with_ends front row [] i = []
with_ends front row (r ∷ rows) zero = (front ++ drop 4 r.0, row) ∷ rows
with_ends front row (r ∷ rows) (suc i) = r ∷ with_ends front row rows i

-- a table with these rows put, one after the other
abbrev pub with_rows : ℕ → Tables → Listed → Tables
with_rows tab t [] = t
with_rows tab t (r ∷ rows) = with_rows tab (map.insert t (tab ∷ r.0) r.1) rows

-- a table without the rows at these keys
abbrev pub without_rows : ℕ → Tables → Listed → Tables
without_rows tab t [] = t
without_rows tab t (r ∷ rows) = without_rows tab (map.remove t (tab ∷ r.0)) rows
