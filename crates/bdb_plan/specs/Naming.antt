-- What the steps of a plan name, and which steps set it.
use Rattle.std.specs.Prelude.{◌≡◌, ℕ, Bool, true, false, ◌&&◌, nat_eq, nat_lt, List, [], ◌∷◌, ◌++◌}
use Rattle.std.specs.List.{list_any, list_all}
use Rattle.bdb_base.specs.declared.kinds.Ref.{Ref}
use Rattle.bdb_base.specs.declared.kinds.Who.{Who}
use Rattle.bdb_base.specs.declared.kinds.Who.TheVariants.{User, Of}
use Rattle.bdb_base.specs.Safety.{operand_columns}
use Rattle.bdb_plan.specs.declared.step.Step.{Step}
use Rattle.bdb_plan.specs.declared.step.Step.TheVariants as step
use Rattle.bdb_plan.specs.Fitness.{PlanFields, UsesOnlySet}

-- a step sets a column: `User` the number and the name of its item, `Pos` each column of its item, `Bind` one column
abbrev pub sets_column : Ref → Step → Bool
sets_column r (step.User item) = nat_eq r.item item && nat_lt r.col 2
sets_column r (step.Pos item rel) = nat_eq r.item item
sets_column r (step.Bind item col right) = nat_eq r.item item && nat_eq r.col col
sets_column r _ = false

-- a step chooses a user for an item
abbrev pub chooses_user : ℕ → Step → Bool
chooses_user at (step.User item) = nat_eq at item
chooses_user at _ = false

-- the columns that a step names
abbrev pub columns_named : Step → List Ref
columns_named (step.Bind item col right) = operand_columns right
columns_named (step.Test c) = c.left ∷ operand_columns c.right
columns_named _ = []

abbrev pub who_items : Who → List ℕ
who_items (User uid) = []
who_items (Of item) = item ∷ []

-- the items whose users a step names
abbrev pub users_named : Step → List ℕ
users_named (step.Edge item who) = who_items who
users_named (step.Differ item left right) = who_items left ++ who_items right
users_named _ = []

-- each of the columns is set by one of the steps
abbrev pub are_set : List Step → List Ref → Bool
are_set steps columns = list_all (λ r. list_any (sets_column r) steps) columns

-- for each of the items one of the steps chooses a user
abbrev pub are_chosen : List Step → List ℕ → Bool
are_chosen steps items = list_all (λ at. list_any (chooses_user at) steps) items

-- a fact holds of each step and those before it
abbrev pub HoldsOfEach : (List Step → Step → Bool) → List Step → Type 0
HoldsOfEach fact steps = (before : List Step) (x : Step) (rest : List Step) → steps ≡ before ++ x ∷ rest → fact before x ≡ true

-- With each step, an earlier one set each column that it names, and an earlier one chose each user that it names; and some step
-- set each column that is taken.
pub record NamesWhatIsSet (p : PlanFields) : Type 0 where
  pub columns : HoldsOfEach (λ before x. are_set before (columns_named x)) p.steps
  pub users : HoldsOfEach (λ before x. are_chosen before (users_named x)) p.steps
  pub take : are_set p.steps p.take ≡ true

abbrev pub PlansNameWhatIsSet : Type 0
PlansNameWhatIsSet = (p : PlanFields) → UsesOnlySet p.items p.steps p.take → NamesWhatIsSet p
