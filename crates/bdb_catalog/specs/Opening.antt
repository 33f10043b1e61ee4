-- For which base tables stand, and what is read of them when they are opened.
use Rattle.std.specs.Prelude.{◌≡◌, ◌⊎◌, Some}
use Rattle.std.specs.FinMap as tables
use Rattle.bdb_base.specs.Bases.{Contents, empty_contents}
use Rattle.bdb_former.specs.Respelled.{respelled}
use Rattle.bdb_keep.specs.Tables.{Tables}
use Rattle.bdb_tables.specs.InUse.{meta_codec}
use Rattle.bdb_tables.specs.Writes.{Gives}
use Rattle.bdb_catalog.specs.Bases.{StoresValid}

-- tables of the format before this one store a valid base: the one row of the format is 2, and with their rows spelled as this
-- format spells them they store it
pub record StoredFormerly (t : Tables) (b : Contents) : Type 0 where
  pub format : Gives meta_codec t (λ _. Some 2)
  pub stored : StoresValid (respelled t) b

-- tables store a valid base, in this format or in the one before it, or have no row and stand for the empty one
abbrev pub StandFor : Tables → Contents → Type 0
StandFor t b = StoresValid t b ⊎ (((t ≡ tables.empty) × (b ≡ empty_contents)) ⊎ StoredFormerly t b)

-- there is such a base
pub record StandForSome (t : Tables) : Type 0 where
  pub base : Contents
  pub stand : StandFor t base

-- where the tables store a valid base, this is a part of it
abbrev pub IsPartOf : {X : Type 0} → (Contents → X) → Tables → X → Type 0
IsPartOf part t x = (b : Contents) → StoresValid t b → x ≡ part b
