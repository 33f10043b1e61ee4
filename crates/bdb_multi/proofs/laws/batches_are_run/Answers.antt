use Rattle.bdb_multi.proofs.BatchLemmas.{batches_are_run}
use Rattle.bdb_multi.proofs.laws.batches_are_run.Goals as goal

pub returns : goal.returns
returns c = batches_are_run
