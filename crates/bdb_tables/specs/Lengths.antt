-- How long the keys of relations are, as their rows have it.
use Rattle.std.specs.Prelude.{◌≡◌, ℕ, List, Option}
use Rattle.std.specs.List.{slice_get}
use Rattle.bdb_base.specs.Bases.{key_at, key_lengths}
use Rattle.bdb_base.specs.declared.kinds.RelDef.{RelDef}
use Rattle.bdb_keep.specs.Tables.{Tables}
use Rattle.bdb_tables.specs.Codec.{HasAt}
use Rattle.bdb_tables.specs.InUse.{rel_codec}
use Rattle.bdb_tables.specs.Writes.{Gives}

-- the key of a relation has this length, whichever relations tables have
abbrev pub IsKeyLength : Tables → ℕ → ℕ → Type 0
IsKeyLength t rel n = (rels : List RelDef) → Gives rel_codec t (slice_get rels) → n ≡ key_lengths rels rel

-- all keys have the lengths that these relations give them, whichever relations tables have
abbrev pub HaveKeyLengths : Tables → List RelDef → Type 0
HaveKeyLengths t rels = (all : List RelDef) → Gives rel_codec t (slice_get all) → key_lengths rels ≡ key_lengths all

-- what stands at the number of a relation, a row or none, has a key of this length
pub record HasKeyAt (t : Tables) (rel n : ℕ) : Type 0 where
  pub definition : Option RelDef
  pub stands : HasAt rel_codec t rel definition
  pub is : n ≡ key_at definition
