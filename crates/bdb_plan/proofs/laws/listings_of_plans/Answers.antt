use Rattle.bdb_plan.proofs.ListingLemmas as lemmas
use Rattle.bdb_plan.proofs.laws.listings_of_plans.Goals as goal

pub returns : goal.returns
returns c = lemmas.listings_of_plans
