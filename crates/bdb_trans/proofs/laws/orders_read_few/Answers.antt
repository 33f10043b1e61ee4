use Rattle.bdb_trans.proofs.ReadLemmas as lemmas
use Rattle.bdb_trans.proofs.laws.orders_read_few.Goals as goal

pub returns : goal.returns
returns c = lemmas.orders_read
