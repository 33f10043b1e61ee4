-- Names of columns, one for all that chains of equalities join, as a list of renamings.
use Rattle.std.specs.Prelude.{◌≡◌, ℕ, ◌^◌, Bool, ◌&&◌, nat_lt, List, [], ◌∷◌, Option, cond, find, length}
use Rattle.std.specs.Option.{option_map}
use Rattle.bdb_base.specs.declared.kinds.Cond.{Cond}
use Rattle.bdb_base.specs.declared.kinds.Item.{Item}
use Rattle.bdb_base.specs.declared.kinds.Operand.{Operand}
use Rattle.bdb_base.specs.declared.kinds.Operand.TheVariants.{Col}
use Rattle.bdb_base.specs.declared.kinds.Ref.{Ref}
use Rattle.bdb_base.specs.declared.kinds.RelDef.{RelDef}
use Rattle.bdb_base.specs.Safety.{is_given, is_equality, is_literal, item_kinds, same_column, first_there}
use Rattle.std.specs.Prelude.{Some}
use Rattle.bdb_plan.specs.Sources.{renamed, stands_for, columns_from}

-- a column by its name, once each renaming is carried out
abbrev pub named : List (Ref × Ref) → Ref → Ref
named [] r = r
named (x ∷ xs) r = named xs (renamed x.0 x.1 r)

-- each column has the name of the one that stands for it
abbrev pub NameColumns : List Cond → List (Ref × Ref) → Type 0
NameColumns conds names = (r : Ref) → named names r ≡ stands_for conds r

-- with one more comparison in front
abbrev pub TakesIn : Cond → List (Ref × Ref) → List (Ref × Ref) → Type 0
TakesIn c old new = (cs : List Cond) → NameColumns cs old → NameColumns (c ∷ cs) new

-- a column has a name
abbrev pub has_name : List (Ref × Ref) → Ref → Ref → Bool
has_name names name r = same_column name (named names r)

-- a comparison equals a column of a name with a literal
abbrev pub pins_name : List (Ref × Ref) → Ref → Cond → Bool
pins_name names name c = is_equality c.cmp && (is_literal c.right && has_name names name c.left)

-- where the value of a column comes from, by names
abbrev pub source_by_names : List Cond → List (Ref × Ref) → List Ref → Ref → Option Operand
source_by_names conds names given r = first_there (option_map (λ c. c.right) (find (pins_name names (named names r)) conds)) (option_map Col (find (has_name names (named names r)) given))

-- a relation has fewer than 2^32 columns, so that each has a number
abbrev pub can_number_columns : RelDef → Bool
can_number_columns def = nat_lt (length def.cols) (2 ^ 32)

-- the columns of a `Users` item or plus item
abbrev pub item_columns : List RelDef → ℕ → Item → List Ref
item_columns rels at item = cond (is_given (Some item)) (columns_from at 0 (item_kinds rels item)) []
