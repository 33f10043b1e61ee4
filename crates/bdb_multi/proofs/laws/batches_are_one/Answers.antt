use Rattle.bdb_multi.proofs.OneLemmas.{batches_are_one}
use Rattle.bdb_multi.proofs.laws.batches_are_one.Goals as goal

pub returns : goal.returns
returns c = batches_are_one
