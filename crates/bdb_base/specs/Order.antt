-- The orders: integers by number, texts by their bytes, an integer before a text; lists item by item, a proper prefix
-- first; tuples by relation number, then values; paths by length, then user by user; statements by path, tuple and
-- sign, plus first.
use Rattle.std.specs.Prelude.{ℕ, List, length}
use Rattle.std.specs.declared.cmp.Ordering.{Ordering}
use Rattle.std.specs.declared.cmp.Ordering.TheVariants.{Less, Equal, Greater}
use Rattle.std.specs.Ordering.{nat_cmp, int_cmp, ordering_then}
use Rattle.std.specs.Cmp.Lexicographic.{slice_cmp}
use Rattle.bdb_base.specs.declared.kinds.Value.{Value}
use Rattle.bdb_base.specs.declared.kinds.Value.TheVariants.{Int, Text}
use Rattle.bdb_base.specs.declared.kinds.Sign.{Sign}
use Rattle.bdb_base.specs.declared.kinds.Sign.TheVariants.{Plus, Minus}
use Rattle.bdb_base.specs.declared.kinds.Stmt.{Stmt}
use Rattle.bdb_base.specs.declared.tuple.Tuple.{Tuple}

-- integers by number, texts by their bytes, an integer before a text
abbrev pub value_cmp : Value → Value → Ordering
value_cmp (Int m) (Int n) = int_cmp m n
value_cmp (Int m) (Text b) = Less
value_cmp (Text a) (Int n) = Greater
value_cmp (Text a) (Text b) = slice_cmp nat_cmp a b

-- value by value, a proper prefix first
abbrev pub row_cmp : List Value → List Value → Ordering
row_cmp = slice_cmp value_cmp

-- by relation number, then by values
abbrev pub tuple_cmp : Tuple → Tuple → Ordering
tuple_cmp a b = ordering_then (nat_cmp a.rel b.rel) (row_cmp a.vals b.vals)

-- by length, then user by user
abbrev pub path_cmp : List ℕ → List ℕ → Ordering
path_cmp a b = ordering_then (nat_cmp (length a) (length b)) (slice_cmp nat_cmp a b)

-- plus before minus
abbrev pub sign_cmp : Sign → Sign → Ordering
sign_cmp Plus Plus = Equal
sign_cmp Plus Minus = Less
sign_cmp Minus Plus = Greater
sign_cmp Minus Minus = Equal

-- by path, then tuple, then sign
abbrev pub statement_cmp : Stmt → Stmt → Ordering
statement_cmp a b = ordering_then (path_cmp a.path b.path) (ordering_then (tuple_cmp a.tuple b.tuple) (sign_cmp a.sign b.sign))
