use Rattle.bdb_trans.proofs.PlanLemmas.{plans_fit_sights}
use Rattle.bdb_trans.proofs.laws.plans_fit_sights.Goals as goal

pub returns : goal.returns
returns c = plans_fit_sights
