use Rattle.bdb_decode.proofs.StandLemmas.{others_stand_for_none}
use Rattle.bdb_decode.proofs.laws.others_stand_for_none.Goals as goal

pub returns : goal.returns
returns c = others_stand_for_none
