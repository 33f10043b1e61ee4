use Rattle.bdb_trans.proofs.PlanLemmas as lemmas
use Rattle.bdb_trans.proofs.laws.orders_fit_sights.Goals as goal

pub returns : goal.returns
returns c = lemmas.orders_fit_sights
