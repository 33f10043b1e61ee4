use Rattle.bdb_trans.proofs.PlanLemmas.{plans_mean_answers}
use Rattle.bdb_trans.proofs.laws.plans_mean_answers.Goals as goal

pub returns : goal.returns
returns c = plans_mean_answers
