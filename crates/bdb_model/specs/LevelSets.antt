-- What contracts see of a level.
use Rattle.std.specs.Prelude.{◌≡◌, true, List}
use Rattle.bdb_base.specs.declared.tuple.Tuple.{Tuple}
use Rattle.bdb_base.specs.Order.{tuple_cmp}
use Rattle.bdb_base.specs.SortedSet.{ascending}

-- the tuples that a path states with plus, those it states with minus, and the keys of the former
pub record Sets : Type 0 where
  pub plus : List Tuple
  pub minus : List Tuple
  pub keys : List Tuple

-- each of the three is a set in order
pub record AreSets (plus minus keys : List Tuple) : Type 0 where
  pub plus_ascend : ascending tuple_cmp plus ≡ true
  pub minus_ascend : ascending tuple_cmp minus ≡ true
  pub keys_ascend : ascending tuple_cmp keys ≡ true
