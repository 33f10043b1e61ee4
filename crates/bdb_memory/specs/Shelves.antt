-- Entries on shelves: what changes where one place does, and which row comes first.
use Rattle.std.specs.Prelude.{◌≡◌, ℕ, ◌⊎◌, Bool, IsTrue, true, false, is_some, List, [], ◌∷◌, ◌++◌, Option, None, Some}
use Rattle.std.specs.declared.cmp.Ordering.TheVariants.{Less}
use Rattle.std.specs.Ordering.{is_le}
use Rattle.bdb_keep.specs.Tables.{bytes_cmp}
use Rattle.bdb_memory.specs.Entries.{Entries, AreBelow, AreAbove}
use Rattle.bdb_memory.specs.Blocks.{HasEntry, starts_within}

-- what stands at a place as entries: one, or none where there is no such place
abbrev pub at_place : List ℕ → Option (Option (List ℕ)) → Entries
at_place q None = []
at_place q (Some row) = (q, row) ∷ []

-- some entries are the others but at one place, where they have this in place of that
pub record IsChangedAt (es fs : Entries) (q : List ℕ) (from to : Option (Option (List ℕ))) : Type 0 where
  pub front : Entries
  pub back : Entries
  pub was : es ≡ front ++ (at_place q from ++ back)
  pub is : fs ≡ front ++ (at_place q to ++ back)
  pub below : AreBelow q front
  pub above : AreAbove q back

-- no entry has a row at a place or above it
abbrev pub NoRowFrom : List ℕ → Entries → Type 0
NoRowFrom q [] = Unit {0}
NoRowFrom q (e ∷ es) = ((bytes_cmp e.0 q ≡ Less) ⊎ (e.1 ≡ None)) × NoRowFrom q es

-- an entry is the first one that has a row and isn't below a place
pub record IsFirstRow (es : Entries) (q : List ℕ) (e : List ℕ × Option (List ℕ)) : Type 0 where
  pub front : Entries
  pub back : Entries
  pub parts : es ≡ front ++ e ∷ back
  pub passed : NoRowFrom q front
  pub reached : IsTrue (is_le (bytes_cmp q e.0))
  pub row : is_some e.1 ≡ true

-- some entries were cut in two, and each part has one
pub record IsCutInTwo (es front back : Entries) : Type 0 where
  pub parts : es ≡ front ++ back
  pub front_full : HasEntry front
  pub back_full : HasEntry back

-- an entry isn't below a place
abbrev pub ReachesPlace : List ℕ → Entries → Type 0
ReachesPlace q [] = ⊥
ReachesPlace q (e ∷ es) = IsTrue (is_le (bytes_cmp q e.0)) ⊎ ReachesPlace q es

-- a place belongs among some entries: the first one isn't above it, and one of them isn't below it, or they are the last ones
pub record BelongsAmong (es : Entries) (q : List ℕ) (last : Bool) : Type 0 where
  pub starts : starts_within q es ≡ true
  pub ends : last ≡ false → ReachesPlace q es
