-- The order of keys, part by part.
use Rattle.std.specs.Prelude.{List, length}
use Rattle.std.specs.declared.cmp.Ordering.{Ordering}
use Rattle.std.specs.declared.cmp.Ordering.TheVariants.{Less, Greater}
use Rattle.std.specs.Ordering.{nat_cmp, ordering_then}
use Rattle.std.specs.Cmp.Lexicographic.{slice_cmp}
use Rattle.bdb_base.specs.Order.{value_cmp, row_cmp, path_cmp}
use Rattle.bdb_base.specs.declared.kinds.Value.{Value}
use Rattle.bdb_key.specs.declared.part.Part.{Part}
use Rattle.bdb_key.specs.declared.part.Part.TheVariants.{Num, Val, Vals, Path}

-- by length, then value by value
abbrev pub vals_cmp : List Value → List Value → Ordering
vals_cmp a b = ordering_then (nat_cmp (length a) (length b)) (row_cmp a b)

-- numbers by number, values, lists of values and paths by their orders; a number before a value, a value before a list of
-- values, and that before a path
abbrev pub part_cmp : Part → Part → Ordering
part_cmp (Num m) (Num n) = nat_cmp m n
part_cmp (Num m) (Val w) = Less
part_cmp (Num m) (Vals b) = Less
part_cmp (Num m) (Path q) = Less
part_cmp (Val v) (Num n) = Greater
part_cmp (Val v) (Val w) = value_cmp v w
part_cmp (Val v) (Vals b) = Less
part_cmp (Val v) (Path q) = Less
part_cmp (Vals a) (Num n) = Greater
part_cmp (Vals a) (Val w) = Greater
part_cmp (Vals a) (Vals b) = vals_cmp a b
part_cmp (Vals a) (Path q) = Less
part_cmp (Path p) (Num n) = Greater
part_cmp (Path p) (Val w) = Greater
part_cmp (Path p) (Vals b) = Greater
part_cmp (Path p) (Path q) = path_cmp p q

-- part by part, a proper prefix first
abbrev pub key_cmp : List Part → List Part → Ordering
key_cmp = slice_cmp part_cmp
