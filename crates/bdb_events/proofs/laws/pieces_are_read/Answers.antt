use Rattle.bdb_events.proofs.ReadLemmas.{pieces_are_read}
use Rattle.bdb_events.proofs.laws.pieces_are_read.Goals as goal

pub returns : goal.returns
returns c = pieces_are_read
