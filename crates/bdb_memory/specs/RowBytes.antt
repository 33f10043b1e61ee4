-- The bytes of a row.
use Rattle.std.specs.Prelude.{ℕ, List, []}
use Rattle.bdb_memory.specs.declared.row.Bytes.{Bytes}
use Rattle.bdb_memory.specs.declared.row.Bytes.TheVariants.{Empty, Four, Long}

-- the bytes themselves
abbrev pub row_bytes : Bytes → List ℕ
row_bytes Empty = []
row_bytes (Four bytes) = bytes
row_bytes (Long long) = long.value.bytes.items
