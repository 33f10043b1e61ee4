-- Keys and rows have one spelling, and keys come in the order of their parts.
use Rattle.std.specs.Prelude.{◌≡◌, ℕ, List}
use Rattle.std.specs.Ordering.{nat_cmp}
use Rattle.std.specs.Cmp.Lexicographic.{slice_cmp}
use Rattle.bdb_key.specs.declared.part.Part.{Part}
use Rattle.bdb_key.specs.declared.part.Slot.{Slot}
use Rattle.bdb_key.specs.declared.row.TabRow.{TabRow}
use Rattle.bdb_key.specs.Bytes.{key_bytes}
use Rattle.bdb_key.specs.Grammar.{IsKey}
use Rattle.bdb_key.specs.Order.{key_cmp}
use Rattle.bdb_key.specs.Rows.{IsRow, row_bytes}

-- no two keys of one shape are written alike
abbrev pub KeysHaveOneSpelling : Type 0
KeysHaveOneSpelling = (shape : List Slot) (a b : List Part) → IsKey shape a → IsKey shape b → key_bytes a ≡ key_bytes b → a ≡ b

-- no two rows of one table are written alike
abbrev pub RowsHaveOneSpelling : Type 0
RowsHaveOneSpelling = (tab : ℕ) (a b : TabRow) → IsRow tab a → IsRow tab b → row_bytes a ≡ row_bytes b → a ≡ b

-- the bytes of keys of one shape come in the order of their parts
abbrev pub KeysKeepOrder : Type 0
KeysKeepOrder = (shape : List Slot) (a b : List Part) → IsKey shape a → IsKey shape b → slice_cmp nat_cmp (key_bytes a) (key_bytes b) ≡ key_cmp a b
