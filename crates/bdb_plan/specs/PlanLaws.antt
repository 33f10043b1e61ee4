-- What holds of plans, in the subject's own words. Each law is the contract of a function of `laws`.
use Rattle.std.specs.Prelude.{◌≡◌, ◌↔◌, true, List, Some}
use Rattle.bdb_base.specs.declared.kinds.Value.{Value}
use Rattle.bdb_base.specs.Order.{row_cmp}
use Rattle.bdb_base.specs.SortedSet.{is_member, ascending}
use Rattle.bdb_plan.specs.Fitness.{PlanFields, at_width, fits_from, at_first}
use Rattle.bdb_plan.specs.Holding.{IsPlanRow}
use Rattle.bdb_plan.specs.Running.{meaning_of}
use Rattle.bdb_plan.specs.Sight.{Sight}

-- each step uses only what is set, and `Neg` stands behind a `Bind` for each column of its relation
abbrev pub FitsSight : Sight → PlanFields → Type 0
FitsSight sight p = fits_from p.items (at_width sight.width) p.take (Some at_first) p.steps ≡ true

-- what a plan means is the rows of all choices with which each step holds, in order, each once
pub record AreChoices (sight : Sight) (p : PlanFields) (rows : List (List Value)) : Type 0 where
  pub sorted : ascending row_cmp rows ≡ true
  pub members : (row : List Value) → (is_member row_cmp rows row ≡ true) ↔ IsPlanRow sight p row

abbrev pub MeaningIsChoices : Type 0
MeaningIsChoices = (sight : Sight) (p : PlanFields) → FitsSight sight p → AreChoices sight p (meaning_of sight p)
