-- How rows are spelled, and which rows are in the grammar of a table.
use Rattle.std.specs.Prelude.{◌≡◌, ℕ, pos, ◌<◌, ◌≤◌, nat_eq, ◌||◌, Bool, true, false, List, [], ◌++◌, length}
use Rattle.std.specs.List.{flat_map, AllByRecursion}
use Rattle.bdb_base.specs.declared.tuple.Tuple.{Tuple}
use Rattle.bdb_base.specs.declared.kinds.Kind.{Kind}
use Rattle.bdb_base.specs.declared.kinds.Kind.TheVariants as kinds
use Rattle.bdb_base.specs.declared.kinds.Sign.{Sign}
use Rattle.bdb_base.specs.declared.kinds.Sign.TheVariants as signs
use Rattle.bdb_base.specs.declared.kinds.ColDef.{ColDef}
use Rattle.bdb_base.specs.declared.kinds.RelDef.{RelDef}
use Rattle.bdb_base.specs.declared.kinds.UserSlot.{UserSlot}
use Rattle.bdb_base.specs.declared.kinds.UserSlot.TheVariants.{Live, Gone}
use Rattle.bdb_key.specs.Bytes.{num_bytes, int_bytes, text_bytes, values_bytes}
use Rattle.bdb_key.specs.Grammar.{IsNum, IsPlain, ArePlain, HasPlainText}
use Rattle.bdb_key.specs.declared.row.TabRow.{TabRow}
use Rattle.bdb_key.specs.declared.row.TabRow.TheVariants as rows

-- the integer of a kind
abbrev pub kind_bytes : Kind → List ℕ
kind_bytes kinds.Int = int_bytes (pos 0)
kind_bytes kinds.Text = int_bytes (pos 1)

-- every kind has a spelling
abbrev pub IsAnyKind : Kind → Type 0
IsAnyKind kind = Unit {0}

-- a column: its name and its kind
abbrev pub col_bytes : ColDef → List ℕ
col_bytes col = text_bytes col.name ++ kind_bytes col.kind

-- columns, one after the other
abbrev pub cols_bytes : List ColDef → List ℕ
cols_bytes cols = flat_map col_bytes cols

-- the length of a key, as an integer
abbrev pub length_bytes : ℕ → List ℕ
length_bytes n = int_bytes (pos n)

-- a relation: its name, then the length of its key, then its columns
abbrev pub rel_bytes : RelDef → List ℕ
rel_bytes def = text_bytes def.name ++ length_bytes def.key ++ cols_bytes def.cols

-- a place of the list of users: the name of a live one, no bytes for one who is gone
abbrev pub slot_bytes : UserSlot → List ℕ
slot_bytes (Live name) = text_bytes name
slot_bytes Gone = []

-- a tuple: its relation, then its values
abbrev pub tuple_bytes : Tuple → List ℕ
tuple_bytes t = num_bytes t.rel ++ values_bytes t.vals

-- the number of a sign
abbrev pub sign_number : Sign → ℕ
sign_number signs.Plus = 0
sign_number signs.Minus = 1

-- a sign as a row
abbrev pub sign_bytes : Sign → List ℕ
sign_bytes sign = num_bytes (sign_number sign)

-- every sign has a spelling
abbrev pub IsAnySign : Sign → Type 0
IsAnySign sign = Unit {0}

-- the number of a sign and a mark: 0 plus inherited, 1 plus explicit, 2 minus inherited, 3 minus explicit
abbrev pub mark_number : Sign → Bool → ℕ
mark_number signs.Plus false = 0
mark_number signs.Plus true = 1
mark_number signs.Minus false = 2
mark_number signs.Minus true = 3

-- a sign and a mark as a row
abbrev pub mark_bytes : Sign × Bool → List ℕ
mark_bytes mark = num_bytes (mark_number mark.0 mark.1)

-- every sign and mark has a spelling
abbrev pub IsAnyMark : Sign × Bool → Type 0
IsAnyMark mark = Unit {0}

-- a row
abbrev pub row_bytes : TabRow → List ℕ
row_bytes (rows.Meta format) = num_bytes format
row_bytes (rows.User slot) = slot_bytes slot
row_bytes (rows.Rel def) = rel_bytes def
row_bytes (rows.Tuple t) = tuple_bytes t
row_bytes (rows.Tid tid) = num_bytes tid
row_bytes (rows.Depth depth) = num_bytes depth
row_bytes (rows.Link wid) = num_bytes wid
row_bytes rows.Empty = []
row_bytes (rows.Val sign explicit) = num_bytes (mark_number sign explicit)
row_bytes (rows.Plain sign) = sign_bytes sign

-- a live user with a plain name, or one who is gone
abbrev pub IsUserRow : UserSlot → Type 0
IsUserRow (Live name) = IsPlain name
IsUserRow Gone = Unit {0}

-- a column with a plain name
abbrev pub IsCol : ColDef → Type 0
IsCol col = IsPlain col.name

-- a relation whose names are plain, with a column, and whose key is of some of its columns
pub record IsRelRow (def : RelDef) : Type 0 where
  pub name : IsPlain def.name
  pub some : 0 < length def.cols
  pub key : (1 ≤ def.key) × (def.key ≤ length def.cols)
  pub short : IsNum def.key
  pub names : AllByRecursion IsCol def.cols

-- a tuple of plain values, with a value
pub record IsTupleRow (t : Tuple) : Type 0 where
  pub rel : IsNum t.rel
  pub some : 0 < length t.vals
  pub plain : ArePlain t.vals

-- a row is one of a table, by the table's number
abbrev pub is_of : ℕ → TabRow → Bool
is_of tab (rows.Meta format) = nat_eq tab 1
is_of tab (rows.User slot) = nat_eq tab 2
is_of tab (rows.Rel def) = nat_eq tab 3
is_of tab (rows.Tuple t) = nat_eq tab 4
is_of tab (rows.Tid tid) = nat_eq tab 5
is_of tab (rows.Depth depth) = nat_eq tab 6
is_of tab (rows.Link wid) = nat_eq tab 7 || nat_eq tab 9
is_of tab rows.Empty = nat_eq tab 8 || nat_eq tab 10
is_of tab (rows.Val sign explicit) = nat_eq tab 11
is_of tab (rows.Plain sign) = nat_eq tab 12

-- a row's numbers, texts and lists are in the grammar
abbrev pub FitsRow : TabRow → Type 0
FitsRow (rows.Meta format) = IsNum format
FitsRow (rows.User slot) = IsUserRow slot
FitsRow (rows.Rel def) = IsRelRow def
FitsRow (rows.Tuple t) = IsTupleRow t
FitsRow (rows.Tid tid) = IsNum tid
FitsRow (rows.Depth depth) = IsNum depth
FitsRow (rows.Link wid) = IsNum wid
FitsRow rows.Empty = Unit {0}
FitsRow (rows.Val sign explicit) = Unit {0}
FitsRow (rows.Plain sign) = Unit {0}

-- a row of a table
pub record IsRow (tab : ℕ) (row : TabRow) : Type 0 where
  pub of : is_of tab row ≡ true
  pub fits : FitsRow row

-- a tuple with a value and plain texts, without the sizes of its numbers
pub record MayBeTuple (t : Tuple) : Type 0 where
  pub some : 0 < length t.vals
  pub texts : AllByRecursion HasPlainText t.vals
