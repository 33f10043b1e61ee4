-- The texts of two plans, by computing.
use Rattle.std.proofs.Common.{refl}
use Rattle.bdb_plan.specs.Listings.{ListingsOfPlans}
use Rattle.bdb_plan.specs.PlanOf.{plan_steps}
use Rattle.bdb_plan.specs.PlanText.{ref_text, who_text, operand_text, step_text, take_text}

pub listings_of_plans : ListingsOfPlans
unfolding plan_steps ref_text who_text operand_text step_text take_text
listings_of_plans = (refl, refl)
