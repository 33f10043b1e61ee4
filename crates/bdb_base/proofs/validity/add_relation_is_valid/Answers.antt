use Rattle.bdb_base.proofs.BaseLemmas.{add_relation_is_valid}
use Rattle.bdb_base.proofs.validity.add_relation_is_valid.Goals as goal

pub returns : goal.returns
returns c = add_relation_is_valid
