use Rattle.bdb_trans.proofs.PlanLemmas as lemmas
use Rattle.bdb_trans.proofs.laws.written_orders_are_orders.Goals as goal

pub returns : goal.returns
returns c = lemmas.written_orders_are_orders
