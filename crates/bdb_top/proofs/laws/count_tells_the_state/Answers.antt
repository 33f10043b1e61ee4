use Rattle.bdb_top.proofs.CountLemmas as lemmas
use Rattle.bdb_top.proofs.laws.count_tells_the_state.Goals as goal

pub returns : goal.returns
returns c = lemmas.count_tells_the_state
