use Rattle.bdb_trans.proofs.PlanLemmas as lemmas
use Rattle.bdb_trans.proofs.laws.orders_mean_answers.Goals as goal

pub returns : goal.returns
returns c = lemmas.orders_mean_answers
