-- When items are set.
use Rattle.std.specs.Prelude.{Bool}
use Rattle.bdb_base.specs.declared.kinds.Item.{Item}
use Rattle.bdb_base.specs.declared.kinds.Item.TheVariants.{Users, Rel}
use Rattle.bdb_base.specs.declared.kinds.Sign.TheVariants.{Plus, Minus}
use Rattle.bdb_plan.specs.PlanOf.{is_users, is_plus, is_minus_item}
use Rattle.bdb_trans.specs.declared.order.Turn.{Turn}
use Rattle.bdb_trans.specs.declared.order.Turn.TheVariants as turn

-- an item is set in a turn
abbrev pub comes_in : Turn → Item → Bool
comes_in turn.Users = is_users
comes_in turn.Plus = is_plus
comes_in turn.Minus = is_minus_item

abbrev pub turn_of : Item → Turn
turn_of (Users alias) = turn.Users
turn_of (Rel alias rel Plus path) = turn.Plus
turn_of (Rel alias rel Minus path) = turn.Minus
