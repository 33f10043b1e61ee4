use Rattle.bdb_decode.proofs.StandLemmas.{one_base_at_most}
use Rattle.bdb_decode.proofs.laws.one_base_at_most.Goals as goal

pub returns : goal.returns
returns c = one_base_at_most
