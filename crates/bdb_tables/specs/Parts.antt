-- Keys of a form as parts of a shape, and rows of a form as rows of a table: what their laws rest on.
use Rattle.std.specs.Prelude.{◌≡◌, ℕ, List}
use Rattle.bdb_key.specs.declared.part.Part.{Part}
use Rattle.bdb_key.specs.declared.part.Slot.{Slot}
use Rattle.bdb_key.specs.declared.row.TabRow.{TabRow}
use Rattle.bdb_key.specs.Bytes.{key_bytes}
use Rattle.bdb_key.specs.Grammar.{IsKey}
use Rattle.bdb_key.specs.Order.{key_cmp}
use Rattle.bdb_key.specs.Rows.{IsRow, row_bytes}
use Rattle.bdb_tables.specs.Codec.{Keys, Rows}

-- keys are lists of parts of one shape: with their bytes, in their order, and each list is one key
pub record ArePartsOf {Key : Type 0} (shape : List Slot) (keys : Keys Key) (parts_of : Key → List Part) : Type 0 where
  pub fits : (a : Key) → keys.Is a → IsKey shape (parts_of a)
  pub bytes : (a : Key) → key_bytes (parts_of a) ≡ keys.bytes a
  pub order : (a b : Key) → key_cmp (parts_of a) (parts_of b) ≡ keys.cmp a b
  pub one : (a b : Key) → parts_of a ≡ parts_of b → a ≡ b

-- rows are those of a table: with their bytes, and each of these is one row
pub record AreRowsOf {Row : Type 0} (table : ℕ) (rows : Rows Row) (row_of : Row → TabRow) : Type 0 where
  pub fits : (a : Row) → rows.Is a → IsRow table (row_of a)
  pub bytes : (a : Row) → row_bytes (row_of a) ≡ rows.bytes a
  pub one : (a b : Row) → row_of a ≡ row_of b → a ≡ b
