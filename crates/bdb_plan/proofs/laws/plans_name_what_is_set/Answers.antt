use Rattle.bdb_plan.proofs.SetLemmas as lemmas
use Rattle.bdb_plan.proofs.laws.plans_name_what_is_set.Goals as goal

pub returns : goal.returns
returns c = lemmas.plans_name_what_is_set
