-- When the steps of a plan hold of what is chosen for all items at once.
use Rattle.std.specs.Prelude.{◌≡◌, ℕ, Bool, true, false, not, nat_eq, List, [], ◌∷◌, Option, Some, None, cond, length}
use Rattle.std.specs.Option.{option_and_then, is_some}
use Rattle.bdb_base.specs.declared.kinds.Value.{Value}
use Rattle.bdb_base.specs.declared.tuple.Tuple.{Tuple}
use Rattle.bdb_base.specs.Safety.{equality}
use Rattle.bdb_queries.specs.Slots.{slot_at, must_hold, known_row, uid_of}
use Rattle.bdb_plan.specs.declared.step.Step.{Step}
use Rattle.bdb_plan.specs.declared.step.Step.TheVariants as step
use Rattle.bdb_plan.specs.Fitness.{PlanFields}
use Rattle.bdb_plan.specs.Sight.{Sight, is_user_of, is_plus_row, is_denied}

-- two users are there, and differ
abbrev pub differ : Option ℕ → Option ℕ → Bool
differ (Some i) (Some j) = not (nat_eq i j)
differ _ _ = false

abbrev pub world_if : Bool → ℕ → Option ℕ
world_if test world = cond test (Some world) None

-- The world that a step comes to from a world, where it holds of what is chosen; none where it does not. All steps but
-- `Start` and `Edge` stay at the world.
abbrev pub world_after : Sight → List (Option Tuple) → ℕ → Step → Option ℕ
world_after sight slots world (step.User item) = world_if (is_user_of sight (slot_at slots item)) world
world_after sight slots world (step.Start item) = Some 0
world_after sight slots world (step.Edge item who) = option_and_then (sight.edge world) (uid_of slots who)
world_after sight slots world (step.Differ item left right) = world_if (differ (uid_of slots left) (uid_of slots right)) world
world_after sight slots world (step.Pos item rel) = world_if (is_plus_row (sight.rows world rel) (slot_at slots item)) world
world_after sight slots world (step.Bind item col right) = world_if (must_hold slots (equality (record { item = item; col = col }) right)) world
world_after sight slots world (step.Neg item rel) = world_if (is_denied sight world rel (slot_at slots item)) world
world_after sight slots world (step.Test c) = world_if (must_hold slots c) world

-- the world that steps come to, one after the other
abbrev pub world_at_end : Sight → List (Option Tuple) → ℕ → List Step → Option ℕ
world_at_end sight slots world [] = Some world
world_at_end sight slots world (x ∷ xs) = option_and_then (λ n. world_at_end sight slots n xs) (world_after sight slots world x)

-- each step holds of what is chosen
abbrev pub steps_hold : Sight → List (Option Tuple) → List Step → Bool
steps_hold sight slots steps = is_some (world_at_end sight slots 0 steps)

-- a row has the columns taken of a choice for each item with which each step holds
abbrev pub IsPlanRow : Sight → PlanFields → List Value → Type 0
IsPlanRow sight p row = (slots : List (Option Tuple)) × (length slots ≡ p.items) × (steps_hold sight slots p.steps ≡ true) × (known_row slots p.take ≡ Some row)
