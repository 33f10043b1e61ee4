use Rattle.bdb_crowd.proofs.CountLemmas as lemmas
use Rattle.bdb_crowd.proofs.laws.commits_tell_the_state.Goals as goal

pub returns : goal.returns
returns c = lemmas.commits_tell_the_state
