use Rattle.bdb_trans.proofs.ReadLemmas.{plan_reads}
use Rattle.bdb_trans.proofs.laws.plan_reads_are_bounded.Goals as goal

pub returns : goal.returns
returns c = plan_reads
