-- What opening tables does.
use Rattle.std.specs.Prelude.{ℕ, Bool, false, ◌||◌, List, Option, None, Some, nat_eq, if◌then◌else◌}
use Rattle.std.specs.FinMap as tables
use Rattle.bdb_base.specs.Bases.{Contents}
use Rattle.bdb_base.specs.Same.{same_text}
use Rattle.bdb_catalog.specs.Bases.{StoresValid}
use Rattle.bdb_catalog.specs.Opening.{StandFor}
use Rattle.bdb_keep.specs.Tables.{Tables}
use Rattle.bdb_key.specs.Bytes.{num_bytes}
use Rattle.bdb_tables.specs.Codec.{place}
use Rattle.bdb_tables.specs.InUse.{meta_codec}
use Rattle.bdb_undo.specs.Timelines.{started}
use Rattle.bdb_session.specs.Known.{Known, Remembers}

-- a row of the format is that of the format before this one
abbrev pub is_former : Option (List ℕ) → Bool
is_former None = false
is_former (Some row) = same_text row (num_bytes 2)

-- how often opening tables commits: once where they have no row, or are of the format before this one
abbrev pub opening : Tables → ℕ
opening t = if nat_eq (tables.len t) 0 || is_former (tables.get t (place meta_codec tt)) then 1 else 0

-- a session over new tables agrees with them on the base for which the old ones stand, whichever it is, and knows of no other base
abbrev pub Opens : Tables → Tables → Known → Type 0
Opens t u k = (b : Contents) → StandFor t b → Remembers u k (started b)

-- a session agrees with tables on the base that they store, whichever valid one it is, and knows of no other base
abbrev pub KnowsStored : Tables → Known → Type 0
KnowsStored t k = (b : Contents) → StoresValid t b → Remembers t k (started b)
