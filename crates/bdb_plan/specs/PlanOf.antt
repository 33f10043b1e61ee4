-- The plan of a query.
use Rattle.std.specs.Prelude.{ℕ, ◌+◌, Bool, true, not, ◌&&◌, List, [], ◌∷◌, ◌++◌, Option, Some, None, cond, map, filter, length}
use Rattle.std.specs.List.{slice_get}
use Rattle.bdb_base.specs.declared.kinds.ColDef.{ColDef}
use Rattle.bdb_base.specs.declared.kinds.Cond.{Cond}
use Rattle.bdb_base.specs.declared.kinds.Item.{Item}
use Rattle.bdb_base.specs.declared.kinds.Item.TheVariants.{Users, Rel}
use Rattle.bdb_base.specs.declared.kinds.Operand.{Operand}
use Rattle.bdb_base.specs.declared.kinds.Operand.TheVariants.{Col, Lit}
use Rattle.bdb_base.specs.declared.kinds.Query.{Query}
use Rattle.bdb_base.specs.declared.kinds.Ref.{Ref}
use Rattle.bdb_base.specs.declared.kinds.RelDef.{RelDef}
use Rattle.bdb_base.specs.declared.kinds.Sign.TheVariants.{Plus, Minus}
use Rattle.bdb_base.specs.declared.kinds.Who.{Who}
use Rattle.bdb_base.specs.declared.kinds.Who.TheVariants.{User, Of}
use Rattle.bdb_base.specs.Queries.{columns_at}
use Rattle.bdb_base.specs.Safety.{is_given, is_minus, is_users_item}
use Rattle.bdb_plan.specs.declared.step.Step.{Step}
use Rattle.bdb_plan.specs.declared.step.Step.TheVariants as step
use Rattle.bdb_plan.specs.Fitness.{PlanFields, is_among}
use Rattle.bdb_plan.specs.Sources.{source_of}

-- ---- walks

-- the step that keeps a path's element apart from the one before it; none for the first element, or where both are fixed
abbrev pub differ_from : ℕ → Option Who → Who → List Step
differ_from item None who = []
differ_from item (Some (User i)) (User j) = []
differ_from item (Some (User i)) (Of k) = step.Differ item (User i) (Of k) ∷ []
differ_from item (Some (Of k)) who = step.Differ item (Of k) who ∷ []

-- the walk along a path, after an element or from its beginning
abbrev pub walk_from : ℕ → Option Who → List Who → List Step
walk_from item before [] = []
walk_from item before (who ∷ whos) = differ_from item before who ++ (step.Edge item who ∷ walk_from item (Some who) whos)

-- the walk of an item
abbrev pub walk_of : ℕ → List Who → List Step
walk_of item path = step.Start item ∷ walk_from item None path

-- ---- items

abbrev pub bind_of : Ref → Option Operand → List Step
bind_of r None = []
bind_of r (Some o) = step.Bind r.item r.col o ∷ []

-- the steps that bind an item's columns, from one column on
abbrev pub binds_from : List RelDef → Query → ℕ → ℕ → List ColDef → List Step
binds_from rels q item col [] = []
binds_from rels q item col (c ∷ cs) = bind_of (record { item = item; col = col }) (source_of rels q (record { item = item; col = col })) ++ binds_from rels q item (col + 1) cs

-- the steps that set an item's columns
abbrev pub setting : List RelDef → Query → ℕ → Option Item → List Step
setting rels q at None = []
setting rels q at (Some (Users alias)) = step.User at ∷ []
setting rels q at (Some (Rel alias rel Plus path)) = walk_of at path ++ (step.Pos at rel ∷ [])
setting rels q at (Some (Rel alias rel Minus path)) = binds_from rels q at 0 (columns_at rels rel)

-- the steps behind an item's tests
abbrev pub denying : ℕ → Option Item → List Step
denying at (Some (Rel alias rel Minus path)) = walk_of at path ++ (step.Neg at rel ∷ [])
denying at _ = []

abbrev pub operand_set : List ℕ → Operand → Bool
operand_set set (Col r) = is_among set r.item
operand_set set (Lit v) = true

-- the columns of a comparison are all set
abbrev pub all_set : List ℕ → Cond → Bool
all_set set c = is_among set c.left.item && operand_set set c.right

-- the comparisons that can be tested once one more item is set
abbrev pub due : List ℕ → ℕ → List Cond → List Cond
due set at conds = filter (λ c. all_set (at ∷ set) c && not (all_set set c)) conds

-- the steps of an item, once others are set
abbrev pub item_steps : List RelDef → Query → List ℕ → ℕ → Option Item → List Step
item_steps rels q set at item = setting rels q at item ++ (map step.Test (due set at q.conds) ++ denying at item)

-- the steps of items, one after the other
abbrev pub steps_from : List RelDef → Query → List ℕ → List ℕ → List Step
steps_from rels q set [] = []
steps_from rels q set (at ∷ order) = item_steps rels q set at (slice_get q.items at) ++ steps_from rels q (at ∷ set) order

-- ---- the order of items

-- the places of the items that pass, from a place on
abbrev pub places : (Item → Bool) → ℕ → List Item → List ℕ
places p at [] = []
places p at (item ∷ items) = cond (p item) (at ∷ places p (at + 1) items) (places p (at + 1) items)

abbrev pub is_users : Item → Bool
is_users item = is_users_item (Some item)

abbrev pub is_plus : Item → Bool
is_plus item = is_given (Some item) && not (is_users item)

abbrev pub is_minus_item : Item → Bool
is_minus_item item = is_minus (Some item)

-- the order in which items are set: `Users` items, plus items, minus items
abbrev pub order_of : List Item → List ℕ
order_of items = places is_users 0 items ++ (places is_plus 0 items ++ places is_minus_item 0 items)

-- the steps of a query's plan
unfoldable pub plan_steps : List RelDef → Query → List Step
plan_steps rels q = steps_from rels q [] (order_of q.items)

-- the plan of a query
abbrev pub plan_of : List RelDef → Query → PlanFields
plan_of rels q = record { items = length q.items; steps = plan_steps rels q; take = q.take }
