-- Texts of values, as replies and printed commands write them.
use Rattle.std.specs.Prelude.{ℕ, ◌==◌, List, [], ◌∷◌, ◌++◌, if◌then◌else◌, codes, Option, Some, None, ℤ, unwrap_or}
use Rattle.std.specs.List.{flat_map}
use Rattle.std.specs.Fmt.{signed_decimal}
use Rattle.bdb_base.specs.declared.kinds.Cmp.{Cmp}
use Rattle.bdb_base.specs.declared.kinds.Cmp.TheVariants as cmp
use Rattle.bdb_base.specs.declared.kinds.ColDef.{ColDef}
use Rattle.bdb_base.specs.declared.kinds.Kind.{Kind}
use Rattle.bdb_base.specs.declared.kinds.Kind.TheVariants as kind
use Rattle.bdb_base.specs.declared.kinds.Value.{Value}
use Rattle.bdb_base.specs.declared.kinds.Value.TheVariants.{Int, Text}
use Rattle.bdb_base.specs.declared.kinds.Catalog.{Catalog}
use Rattle.bdb_base.specs.Queries.{user_name}

-- an integer: its decimal digits, with a dash in front where it is negative
abbrev pub int_text : ℤ → List ℕ
int_text n = signed_decimal n

-- a byte of a quoted text: a quote stands twice
abbrev pub quoted_byte : ℕ → List ℕ
quoted_byte c = if c == 39 then 39 ∷ 39 ∷ [] else c ∷ []

-- a text in quotes, each quote in it doubled
abbrev pub quoted : List ℕ → List ℕ
quoted text = 39 ∷ [] ++ flat_map quoted_byte text ++ 39 ∷ []

-- an integer, or a quoted text
abbrev pub value_text : Value → List ℕ
value_text (Int n) = int_text n
value_text (Text text) = quoted text

-- texts with a separator between each two
abbrev pub separated : List ℕ → List (List ℕ) → List ℕ
separated between [] = []
separated between (first ∷ rest) = first ++ flat_map (λ text. between ++ text) rest

-- texts with a comma and a space between each two
abbrev pub joined : List (List ℕ) → List ℕ
joined = separated (codes ", ")

-- a column behind the alias of its item, with a dot between them
abbrev pub dotted : List ℕ → List ℕ → List ℕ
dotted alias col = alias ++ codes "." ++ col

abbrev pub kind_text : Kind → List ℕ
kind_text kind.Int = codes "int"
kind_text kind.Text = codes "text"

-- a column of a relation: its name and its kind
abbrev pub column_text : ColDef → List ℕ
column_text col = col.name ++ codes " " ++ kind_text col.kind

abbrev pub cmp_text : Cmp → List ℕ
cmp_text cmp.Eq = codes "="
cmp_text cmp.Ne = codes "<>"
cmp_text cmp.Lt = codes "<"
cmp_text cmp.Le = codes "<="
cmp_text cmp.Gt = codes ">"
cmp_text cmp.Ge = codes ">="

-- a line: its text, and a line feed
abbrev pub line : List ℕ → List ℕ
line text = text ++ 10 ∷ []

-- a column's name, behind its alias where it has one
abbrev pub named_column : Option (List ℕ) → List ℕ → List ℕ
named_column None col = col
named_column (Some alias) col = dotted alias col

-- the name of a live user, by his number; empty where there is none
abbrev pub user_text : Catalog → ℕ → List ℕ
user_text catalog uid = unwrap_or (user_name catalog.users uid) []
