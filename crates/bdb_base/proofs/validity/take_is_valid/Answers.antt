use Rattle.bdb_base.proofs.BaseLemmas.{take_is_valid}
use Rattle.bdb_base.proofs.validity.take_is_valid.Goals as goal

pub returns : goal.returns
returns c = take_is_valid
