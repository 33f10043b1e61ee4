-- The relations that tables have, and the lengths of their keys.
use Rattle.std.specs.Prelude.{◌≡◌, ℕ, List}
use Rattle.std.specs.List.{slice_get}
use Rattle.bdb_base.specs.Bases.{Contents, key_lengths}
use Rattle.bdb_base.specs.declared.kinds.RelDef.{RelDef}
use Rattle.bdb_keep.specs.Tables.{Tables}
use Rattle.bdb_tables.specs.InUse.{rel_codec}
use Rattle.bdb_tables.specs.Writes.{Gives}

-- the length of the key of each relation of a base
abbrev pub keys_of : Contents → ℕ → ℕ
keys_of b = key_lengths b.catalog.rels

-- these are the relations, whichever relations tables have
abbrev pub AreRelations : Tables → List RelDef → Type 0
AreRelations t rels = (all : List RelDef) → Gives rel_codec t (slice_get all) → rels ≡ all
