use Rattle.bdb_decode.proofs.WholeLemmas.{held_bases_are_whole}
use Rattle.bdb_decode.proofs.laws.held_bases_are_whole.Goals as goal

pub returns : goal.returns
returns c = held_bases_are_whole
