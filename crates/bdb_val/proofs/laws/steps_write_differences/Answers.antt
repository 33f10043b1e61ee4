use Rattle.bdb_val.proofs.RealLemmas.{step_writes}
use Rattle.bdb_val.proofs.laws.steps_write_differences.Goals as goal

pub returns : goal.returns
returns c = step_writes
