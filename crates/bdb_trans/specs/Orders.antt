-- Orders in which the items of a query can be set, and the plan of an order.
use Rattle.std.specs.Prelude.{◌≡◌, ℕ, Bool, true, false, List, [], ◌∷◌, Some, length}
use Rattle.std.specs.List.{list_all, slice_get}
use Rattle.bdb_base.specs.Safety.{is_given}
use Rattle.bdb_base.specs.declared.kinds.Item.{Item}
use Rattle.bdb_base.specs.declared.kinds.Item.TheVariants.{Users, Rel}
use Rattle.bdb_base.specs.declared.kinds.Query.{Query}
use Rattle.bdb_base.specs.declared.kinds.RelDef.{RelDef}
use Rattle.bdb_base.specs.declared.kinds.Sign.TheVariants.{Plus, Minus}
use Rattle.bdb_base.specs.declared.kinds.Who.{Who}
use Rattle.bdb_base.specs.declared.kinds.Who.TheVariants.{User, Of}
use Rattle.bdb_plan.specs.Fitness.{PlanFields, is_among}
use Rattle.bdb_plan.specs.PlanOf.{steps_from}

-- a user of a path is fixed, or among the items that are set
abbrev pub who_among : List ℕ → Who → Bool
who_among set (User i) = true
who_among set (Of k) = is_among set k

-- what an item needs: the users of its path, and a minus item each `Users` item and plus item
abbrev pub Needs : Query → List ℕ → Item → Type 0
Needs q set (Users alias) = Unit {0}
Needs q set (Rel alias rel Plus path) = list_all (who_among set) path ≡ true
Needs q set (Rel alias rel Minus path) = (list_all (who_among set) path ≡ true) × ((k : ℕ) → is_given (slice_get q.items k) ≡ true → is_among set k ≡ true)

-- each place is that of an item that is not set yet, and what the item needs is set
abbrev pub OrderFits : Query → List ℕ → List ℕ → Type 0
OrderFits q set [] = Unit {0}
OrderFits q set (at ∷ order) = ((item : Item) × (slice_get q.items at ≡ Some item) × (is_among set at ≡ false) × Needs q set item) × OrderFits q (at ∷ set) order

-- places say an order in which all items can be set: each stands there, once, and behind what its item needs
pub record IsOrder (q : Query) (order : List ℕ) : Type 0 where
  pub fits : OrderFits q [] order
  pub each : (k : ℕ) (item : Item) → slice_get q.items k ≡ Some item → is_among order k ≡ true

-- the plan that sets the items in this order, and makes each comparison as soon as both of its sides are set
abbrev pub plan_in : List RelDef → Query → List ℕ → PlanFields
plan_in rels q order = record { items = length q.items; steps = steps_from rels q [] order; take = q.take }

-- a plan is that of some order in which all items can be set
pub record IsPlanInOrder (rels : List RelDef) (q : Query) (plan : PlanFields) : Type 0 where
  pub order : List ℕ
  pub can : IsOrder q order
  pub is : plan ≡ plan_in rels q order
