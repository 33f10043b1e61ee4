-- What respelled tables have, and what the rows of the format before this one become. Each law is the contract of a function
-- of `laws`.
use Rattle.std.specs.Prelude.{◌≡◌, ℕ, List, [], ◌∷◌, ◌++◌, Some}
use Rattle.std.specs.FinMap as tables
use Rattle.std.specs.Option.{option_map}
use Rattle.bdb_base.specs.declared.kinds.ColDef.{ColDef}
use Rattle.bdb_base.specs.declared.kinds.RelDef.{RelDef}
use Rattle.bdb_base.specs.declared.kinds.UserSlot.{UserSlot}
use Rattle.bdb_base.specs.declared.kinds.UserSlot.TheVariants.{Live}
use Rattle.bdb_base.specs.declared.kinds.Value.{Value}
use Rattle.bdb_keep.specs.Tables.{Tables}
use Rattle.bdb_key.specs.Bytes.{num_bytes, text_bytes, value_bytes, vals_bytes}
use Rattle.bdb_key.specs.Grammar.{IsPlain}
use Rattle.bdb_key.specs.Rows.{IsRelRow, cols_bytes, rel_bytes, slot_bytes}
use Rattle.bdb_former.specs.Respelled.{IsRespelled, respelled, respelled_at, respelled_key, respelled_place, respelled_row}

-- each row stands, respelled, at its place, respelled
abbrev pub RowsAreRespelled : Type 0
RowsAreRespelled = (t : Tables) (p : List ℕ) → tables.get (respelled t) (respelled_place p) ≡ option_map (respelled_at p) (tables.get t p)

-- there is no other row
abbrev pub NoOtherRowIsThere : Type 0
NoOtherRowIsThere = (t : Tables) (q row : List ℕ) → tables.get (respelled t) q ≡ Some row → IsRespelled t q row

-- places that differ still do
abbrev pub PlacesStayApart : Type 0
PlacesStayApart = (p q : List ℕ) → respelled_place p ≡ respelled_place q → p ≡ q

-- the format becomes this one
abbrev pub FormatsBecomeThis : Type 0
FormatsBecomeThis = respelled_row 1 (num_bytes 2) ≡ num_bytes 3

-- a user's row was his name, and stays so
abbrev pub NamesStay : Type 0
NamesStay = (name : List ℕ) → respelled_row 2 (text_bytes name) ≡ slot_bytes (Live name)

-- a row that becomes a user's was a name: no user was gone
abbrev pub NoUserWasGone : Type 0
NoUserWasGone = (row : List ℕ) (slot : UserSlot) → respelled_row 2 row ≡ slot_bytes slot → (name : List ℕ) × ((slot ≡ Live name) × (row ≡ text_bytes name))

-- a relation's row was its name and its columns, and becomes that of a relation whose key has one column
abbrev pub RelationsGetALength : Type 0
RelationsGetALength = (name : List ℕ) (cols : List ColDef) → IsPlain name
    → respelled_row 3 (text_bytes name ++ cols_bytes cols) ≡ rel_bytes (record { name = name; cols = cols; key = 1 })

-- a row that becomes a relation's was its name and its columns, and the key of the relation has one column
abbrev pub RelationsHadNoLength : Type 0
RelationsHadNoLength = (row : List ℕ) (def : RelDef) → IsRelRow def → respelled_row 3 row ≡ rel_bytes def → (def.key ≡ 1) × (row ≡ text_bytes def.name ++ cols_bytes def.cols)

-- a key of table 11 was a world, a relation, a value and a tuple, and its value becomes a list of one
abbrev pub KeysGetACount : Type 0
KeysGetACount = (wid rel : ℕ) (value : Value) (tid : ℕ)
    → respelled_key 11 (num_bytes wid ++ num_bytes rel ++ value_bytes value ++ num_bytes tid) ≡ num_bytes wid ++ num_bytes rel ++ vals_bytes (value ∷ []) ++ num_bytes tid
