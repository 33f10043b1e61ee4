-- A test of orders that computes.
use Rattle.std.specs.Prelude.{ℕ, ◌+◌, Bool, true, false, not, ◌&&◌, ◌||◌, List, [], ◌∷◌, Option, Some, None}
use Rattle.std.specs.List.{list_all, slice_get}
use Rattle.bdb_base.specs.Safety.{is_given}
use Rattle.bdb_base.specs.declared.kinds.Item.{Item}
use Rattle.bdb_base.specs.declared.kinds.Item.TheVariants.{Users, Rel}
use Rattle.bdb_base.specs.declared.kinds.Query.{Query}
use Rattle.bdb_base.specs.declared.kinds.Sign.TheVariants.{Plus, Minus}
use Rattle.bdb_plan.specs.Fitness.{is_among}
use Rattle.bdb_trans.specs.Orders.{who_among}

-- the `Users` items and plus items from a place on are set
abbrev pub given_set : List ℕ → ℕ → List Item → Bool
given_set set at [] = true
given_set set at (item ∷ items) = (not (is_given (Some item)) || is_among set at) && given_set set (at + 1) items

-- what an item needs is set
abbrev pub needs_set : Query → List ℕ → Option Item → Bool
needs_set q set None = false
needs_set q set (Some (Users alias)) = true
needs_set q set (Some (Rel alias rel Plus path)) = list_all (who_among set) path
needs_set q set (Some (Rel alias rel Minus path)) = list_all (who_among set) path && given_set set 0 q.items

-- the item at a place can be set next
abbrev pub comes_after : Query → List ℕ → ℕ → Bool
comes_after q set at = not (is_among set at) && needs_set q set (slice_get q.items at)

-- the items at these places can be set one after the other
abbrev pub order_passes : Query → List ℕ → List ℕ → Bool
order_passes q set [] = true
order_passes q set (at ∷ order) = comes_after q set at && order_passes q (at ∷ set) order
