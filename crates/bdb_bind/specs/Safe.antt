-- The columns of a query that are bound, computed; and the first of its minus items that isn't.
use Rattle.std.specs.Prelude.{◌≡◌, ◌↔◌, ℕ, ◌+◌, Bool, true, ◌||◌, List, [], ◌∷◌, ◌++◌, Option, None, Some, if◌then◌else◌}
use Rattle.std.specs.Option.{option_or, is_none}
use Rattle.std.specs.List.{list_any, slice_get}
use Rattle.bdb_base.specs.declared.kinds.ColDef.{ColDef}
use Rattle.bdb_base.specs.declared.kinds.Cond.{Cond}
use Rattle.bdb_base.specs.declared.kinds.Item.{Item}
use Rattle.bdb_base.specs.declared.kinds.Item.TheVariants.{Rel}
use Rattle.bdb_base.specs.declared.kinds.Operand.{Operand}
use Rattle.bdb_base.specs.declared.kinds.Operand.TheVariants.{Col, Lit}
use Rattle.bdb_base.specs.declared.kinds.Query.{Query}
use Rattle.bdb_base.specs.declared.kinds.Ref.{Ref}
use Rattle.bdb_base.specs.declared.kinds.RelDef.{RelDef}
use Rattle.bdb_base.specs.declared.kinds.Sign.TheVariants.{Minus}
use Rattle.bdb_base.specs.Queries.{option_list, columns_at}
use Rattle.bdb_base.specs.Safety.{is_given, same_column, is_equality, IsBound, IsSafe}

-- a column is known: it is of a `Users` item or a plus item, or among these
abbrev pub is_known : List Item → List Ref → Ref → Bool
is_known items known r = is_given (slice_get items r.item) || list_any (same_column r) known

-- a comparison's right side is known: literals are
abbrev pub is_known_side : List Item → List Ref → Operand → Bool
is_known_side items known (Col r) = is_known items known r
is_known_side items known (Lit v) = true

-- the column of a right side that isn't known
abbrev pub unknown_side : List Item → List Ref → Operand → Option Ref
unknown_side items known (Col r) = if is_known items known r then None else Some r
unknown_side items known (Lit v) = None

-- the column of a side that isn't known, where the other side is
abbrev pub unknown_of_two : List Item → List Ref → Cond → Option Ref
unknown_of_two items known c = if is_known items known c.left then unknown_side items known c.right
    else (if is_known_side items known c.right then Some c.left else None)

-- the column that an equality makes known
abbrev pub made_known : List Item → List Ref → Cond → Option Ref
made_known items known c = if is_equality c.cmp then unknown_of_two items known c else None

-- the first column that a comparison makes known
abbrev pub next_known : List Item → List Ref → List Cond → Option Ref
next_known items known [] = None
next_known items known (c ∷ cs) = option_or (made_known items known c) (next_known items known cs)

-- what is known after one step for each comparison of a list
abbrev pub known_after : List Item → List Cond → List Ref → List Cond → List Ref
known_after items conds known [] = known
known_after items conds known (step ∷ steps) = known_after items conds (known ++ option_list (next_known items known conds)) steps

-- the columns that comparisons make known, until none makes another one known
abbrev pub bound_columns : List Item → List Cond → List Ref
bound_columns items conds = known_after items conds [] conds

-- a column is bound
abbrev pub is_bound : Query → Ref → Bool
is_bound q r = is_known q.items (bound_columns q.items q.conds) r

-- the first column of an item, from one number on, that isn't known
abbrev pub unbound_from : List Item → List Ref → ℕ → ℕ → List ColDef → Option (ℕ × ℕ)
unbound_from items known item col [] = None
unbound_from items known item col (c ∷ cs) = if is_known items known (record { item = item; col = col }) then unbound_from items known item (col + 1) cs
    else Some (item, col)

-- the first column of a minus item that isn't known
abbrev pub unbound_of : List RelDef → List Item → List Ref → ℕ → Item → Option (ℕ × ℕ)
unbound_of rels items known at (Rel alias rel Minus path) = unbound_from items known at 0 (columns_at rels rel)
unbound_of rels items known at _ = None

-- the first column of the minus items of a list that isn't known
abbrev pub unbound_among : List RelDef → List Item → List Ref → ℕ → List Item → Option (ℕ × ℕ)
unbound_among rels items known at [] = None
unbound_among rels items known at (i ∷ is) = option_or (unbound_of rels items known at i) (unbound_among rels items known (at + 1) is)

-- the item and column of the first column of a minus item that isn't bound
unfoldable pub first_unbound : List RelDef → Query → Option (ℕ × ℕ)
first_unbound rels q = unbound_among rels q.items (bound_columns q.items q.conds) 0 q.items

-- each column of the minus items is bound
abbrev pub is_safe : List RelDef → Query → Bool
is_safe rels q = is_none (first_unbound rels q)

-- the test of bound columns tells exactly the bound ones
abbrev pub TestTellsBound : Type 0
TestTellsBound = (q : Query) (r : Ref) → ((is_bound q r ≡ true) ↔ IsBound q r)

-- the test of safety tells exactly the safe queries
abbrev pub TestTellsSafe : Type 0
TestTellsSafe = (rels : List RelDef) (q : Query) → ((is_safe rels q ≡ true) ↔ IsSafe rels q)
