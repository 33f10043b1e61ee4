-- What a walk keeps to use it again at the next world: the bytes with which a group's keys begin, and the rows that are handed down.
use Rattle.std.specs.Prelude.{◌≡◌, ◌⊎◌, ℕ, Bool, false, nat_eq, List, [], ◌∷◌, slice_index_or, Option, Some, None, MatchOption, cond, map}
use Rattle.std.specs.List.{AllByRecursion}
use Rattle.bdb_base.specs.declared.kinds.Value.{Value}
use Rattle.bdb_keep.specs.Tables.{Tables}
use Rattle.bdb_key.specs.Grammar.{IsNum}
use Rattle.bdb_tables.specs.GroupMarks.{BeginsGroup, group_bytes, in_group}
use Rattle.bdb_tables.specs.InUse.{val_codec}
use Rattle.bdb_tables.specs.Marks.{Mark}
use Rattle.bdb_tables.specs.Spans.{AreUnder}

-- bytes are none yet, or those with which the keys of a group begin in some world
abbrev pub MayBegin : List ℕ → ℕ → List Value → Type 0
MayBegin prefix rel vs = (prefix ≡ []) ⊎ ((wid : ℕ) × BeginsGroup prefix wid rel vs)

-- these are the rows of a group of a world, by the numbers of their tuples
pub record AreRoomRows (t : Tables) (rel : ℕ) (vs : List Value) (rows : List (ℕ × Mark)) (wid : ℕ) : Type 0 where
  pub world : IsNum wid
  pub under : AreUnder val_codec t (group_bytes wid rel vs) (map (in_group wid rel vs) rows)

-- rows that are kept are those of the world that they are from, if any
abbrev pub AreHanded : Tables → ℕ → List Value → Option ℕ → List (ℕ × Mark) → Type 0
AreHanded t rel vs from rows = MatchOption from (Unit {0}) (AreRoomRows t rel vs rows)

-- a row that is kept by a world's number is the only one of the group in that world
abbrev pub AreSingle : Tables → ℕ → List Value → List (Option (ℕ × Mark)) → Type 0
AreSingle t rel vs singles = (wid : ℕ) (row : ℕ × Mark) → slice_index_or singles wid None ≡ Some row → AreRoomRows t rel vs (row ∷ []) wid

-- none is kept
abbrev pub HaveNone : List (Option (ℕ × Mark)) → Type 0
HaveNone singles = AllByRecursion (λ single. single ≡ None) singles

-- what a walk keeps is of a group of the tables
pub record IsRoomFor (t : Tables) (rel : ℕ) (vs : List Value) (prefix : List ℕ) (from : Option ℕ) (rows : List (ℕ × Mark))
    (singles : List (Option (ℕ × Mark))) : Type 0 where
  pub begins : MayBegin prefix rel vs
  pub handed : AreHanded t rel vs from rows
  pub singles_are : AreSingle t rel vs singles

-- changes give a world that has no rows one
abbrev pub GiveOne : List (ℕ × Mark) → List (ℕ × Option Mark) → ℕ × Mark → Type 0
GiveOne own changes row = (own ≡ []) × (changes ≡ (row.0, Some row.1) ∷ [])

-- the row that is kept by a world's number is the one that changes give it, if there is one; those of other worlds stay
pub record IsNoted (wid : ℕ) (own : List (ℕ × Mark)) (changes : List (ℕ × Option Mark)) (old new : List (Option (ℕ × Mark))) : Type 0 where
  pub others : (m : ℕ) → (wid ≡ m → ⊥) → slice_index_or new m None ≡ slice_index_or old m None
  pub given : (row : ℕ × Mark) → slice_index_or new wid None ≡ Some row → GiveOne own changes row

-- rows that are kept are those of a world
abbrev pub is_from : ℕ → Option ℕ → Bool
is_from wid None = false
is_from wid (Some m) = nat_eq m wid

-- the world that rows are from, unless it is one whose rows change
abbrev pub unless_from : ℕ → Option ℕ → Option ℕ
unless_from wid from = cond (is_from wid from) None from
