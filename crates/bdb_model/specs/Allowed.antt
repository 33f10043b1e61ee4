-- Comparisons that are not known to fail, while items are still to be chosen.
use Rattle.std.specs.Prelude.{Bool, true, List, Option, Some}
use Rattle.std.specs.List.{list_all}
use Rattle.bdb_base.specs.declared.kinds.Cmp.{Cmp}
use Rattle.bdb_base.specs.declared.kinds.Cond.{Cond}
use Rattle.bdb_base.specs.declared.kinds.Value.{Value}
use Rattle.bdb_base.specs.declared.tuple.Tuple.{Tuple}
use Rattle.bdb_base.specs.Conditions.{compares}
use Rattle.bdb_base.specs.Order.{value_cmp}
use Rattle.bdb_queries.specs.Slots.{known, known_operand}

-- two values compare so, where both are known
abbrev pub may_compare : Cmp → Option Value → Option Value → Bool
may_compare cmp (Some a) (Some b) = compares cmp (value_cmp a b)
may_compare cmp _ _ = true

-- a comparison is not known to fail
abbrev pub may_hold : List (Option Tuple) → Cond → Bool
may_hold slots c = may_compare c.cmp (known slots c.left) (known_operand slots c.right)

-- no comparison is known to fail
abbrev pub may_all_hold : List (Option Tuple) → List Cond → Bool
may_all_hold slots conds = list_all (may_hold slots) conds
