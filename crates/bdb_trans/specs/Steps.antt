-- Parts of the steps of an item, by name.
use Rattle.std.specs.Prelude.{ℕ, Bool, not, ◌&&◌, ◌∷◌, [], List, cond}
use Rattle.bdb_base.specs.declared.kinds.Cond.{Cond}
use Rattle.bdb_base.specs.declared.kinds.Query.{Query}
use Rattle.bdb_base.specs.declared.kinds.Ref.{Ref}
use Rattle.bdb_base.specs.declared.kinds.RelDef.{RelDef}
use Rattle.bdb_plan.specs.declared.step.Step.{Step}
use Rattle.bdb_plan.specs.declared.step.Step.TheVariants as step
use Rattle.bdb_plan.specs.PlanOf.{all_set, bind_of}
use Rattle.bdb_plan.specs.Sources.{source_of}

-- a comparison can be tested once one more item is set, and could not before
abbrev pub is_due : List ℕ → ℕ → Cond → Bool
is_due set at c = all_set (at ∷ set) c && not (all_set set c)

-- the test of a comparison, where it can be tested once one more item is set
abbrev pub due_step : List ℕ → ℕ → Cond → List Step
due_step set at c = cond (is_due set at c) (step.Test c ∷ []) []

abbrev pub bind_steps : List RelDef → Query → Ref → List Step
bind_steps rels q r = bind_of r (source_of rels q r)
