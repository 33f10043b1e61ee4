-- Which columns chains of equalities join, and where the value of a column comes from.
use Rattle.std.specs.Prelude.{ℕ, ◌+◌, Bool, true, ◌&&◌, List, [], ◌∷◌, ◌++◌, Option, Some, cond, find}
use Rattle.std.specs.Option.{option_map}
use Rattle.bdb_base.specs.declared.kinds.Cond.{Cond}
use Rattle.bdb_base.specs.declared.kinds.Item.{Item}
use Rattle.bdb_base.specs.declared.kinds.Kind.{Kind}
use Rattle.bdb_base.specs.declared.kinds.Operand.{Operand}
use Rattle.bdb_base.specs.declared.kinds.Operand.TheVariants.{Col}
use Rattle.bdb_base.specs.declared.kinds.Query.{Query}
use Rattle.bdb_base.specs.declared.kinds.Ref.{Ref}
use Rattle.bdb_base.specs.declared.kinds.RelDef.{RelDef}
use Rattle.bdb_base.specs.Safety.{is_given, is_equality, is_literal, item_kinds, same_column, first_there}

-- a column by its name, once one name gives way to another
abbrev pub renamed : Ref → Ref → Ref → Ref
renamed old new r = cond (same_column r old) new r

-- the name of a column, once an equality of two columns lets the name of its left side give way to that of its right side
abbrev pub renamed_by : Bool → Operand → (Ref → Ref) → Ref → Ref → Ref
renamed_by true (Col y) name left r = renamed (name left) (name y) (name r)
renamed_by _ _ name left r = name r

-- the column that stands for all that chains of `=` join to a column
abbrev pub stands_for : List Cond → Ref → Ref
stands_for [] r = r
stands_for (c ∷ cs) r = renamed_by (is_equality c.cmp) c.right (stands_for cs) c.left r

-- chains of `=` join two columns: one column stands for both
abbrev pub joined : List Cond → Ref → Ref → Bool
joined conds r s = same_column (stands_for conds r) (stands_for conds s)

-- an equality with a literal, whose column chains of `=` join to a column
abbrev pub pins_chain : List Cond → Ref → Cond → Bool
pins_chain conds r c = is_equality c.cmp && (is_literal c.right && joined conds r c.left)

-- the columns of an item, from one column on
abbrev pub columns_from : ℕ → ℕ → List Kind → List Ref
columns_from item col [] = []
columns_from item col (k ∷ ks) = record { item = item; col = col } ∷ columns_from item (col + 1) ks

-- the columns of the `Users` items and plus items, from a place on
abbrev pub given_columns : List RelDef → ℕ → List Item → List Ref
given_columns rels at [] = []
given_columns rels at (item ∷ items) = cond (is_given (Some item)) (columns_from at 0 (item_kinds rels item)) [] ++ given_columns rels (at + 1) items

-- Where the value of a column comes from: the first literal that chains of `=` join to it, else the first column of a
-- `Users` item or plus item.
abbrev pub source_of : List RelDef → Query → Ref → Option Operand
source_of rels q r = first_there (option_map (λ c. c.right) (find (pins_chain q.conds r) q.conds))
    (option_map Col (find (joined q.conds r) (given_columns rels 0 q.items)))
