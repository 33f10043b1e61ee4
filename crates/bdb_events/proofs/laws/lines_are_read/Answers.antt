use Rattle.bdb_events.proofs.WordLemmas.{lines_are_read}
use Rattle.bdb_events.proofs.laws.lines_are_read.Goals as goal

pub returns : goal.returns
returns c = lines_are_read
