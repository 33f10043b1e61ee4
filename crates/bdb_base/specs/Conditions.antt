-- Tests of a tuple's columns, and changes of them.
use Rattle.std.specs.Prelude.{Bool, false, nat_eq, List, [], ◌∷◌, Option, Some, None, cond, slice_set}
use Rattle.std.specs.declared.cmp.Ordering.{Ordering}
use Rattle.std.specs.List.{list_all, slice_get}
use Rattle.std.specs.Ordering.{is_eq, is_ne, is_lt, is_le, is_gt, is_ge}
use Rattle.bdb_base.specs.declared.kinds.Cmp.{Cmp}
use Rattle.bdb_base.specs.declared.kinds.Cmp.TheVariants.{Eq, Ne, Lt, Le, Gt, Ge}
use Rattle.bdb_base.specs.declared.kinds.Cond.{Cond}
use Rattle.bdb_base.specs.declared.kinds.Operand.{Operand}
use Rattle.bdb_base.specs.declared.kinds.Operand.TheVariants.{Col, Lit}
use Rattle.bdb_base.specs.declared.kinds.Ref.{Ref}
use Rattle.bdb_base.specs.declared.kinds.SetCol.{SetCol}
use Rattle.bdb_base.specs.declared.kinds.Value.{Value}
use Rattle.bdb_base.specs.declared.tuple.Tuple.{Tuple}
use Rattle.bdb_base.specs.Order.{value_cmp}

-- a comparison's sign holds of an order
abbrev pub compares : Cmp → Ordering → Bool
compares Eq o = is_eq o
compares Ne o = is_ne o
compares Lt o = is_lt o
compares Le o = is_le o
compares Gt o = is_gt o
compares Ge o = is_ge o

-- the value of a column, where item 0 is the tuple
abbrev pub value_at : Tuple → Ref → Option Value
value_at t r = cond (nat_eq r.item 0) (slice_get t.vals r.col) None

-- the value of a comparison's right side
abbrev pub operand_at : Tuple → Operand → Option Value
operand_at t (Col r) = value_at t r
operand_at t (Lit v) = Some v

-- both values are there, and compare so
abbrev pub compare_so : Cmp → Option Value → Option Value → Bool
compare_so cmp (Some a) (Some b) = compares cmp (value_cmp a b)
compare_so cmp _ _ = false

-- one comparison holds of a tuple
abbrev pub meets_one : Tuple → Cond → Bool
meets_one t c = compare_so c.cmp (value_at t c.left) (operand_at t c.right)

-- all comparisons hold of a tuple; one that names a column which the tuple lacks does not
abbrev pub meets : List Cond → Tuple → Bool
meets conds t = list_all (meets_one t) conds

-- the tuple with one column set; with none, where it lacks the column
abbrev pub with_column : Tuple → SetCol → Tuple
with_column t x = record t { vals = slice_set t.vals x.col x.to }

-- the tuple with all columns set, from left to right, so that a later set of the same column wins
abbrev pub changed : List SetCol → Tuple → Tuple
changed [] t = t
changed (x ∷ xs) t = changed xs (with_column t x)
