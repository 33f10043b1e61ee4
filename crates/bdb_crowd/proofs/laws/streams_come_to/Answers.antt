use Rattle.bdb_crowd.proofs.LawLemmas.{streams_come_to}
use Rattle.bdb_crowd.proofs.laws.streams_come_to.Goals as goal

pub returns : goal.returns
returns c = streams_come_to
