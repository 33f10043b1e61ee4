use Rattle.bdb_events.proofs.GapLemmas.{nothing_is_gaps}
use Rattle.bdb_events.proofs.laws.nothing_is_gaps.Goals as goal

pub returns : goal.returns
returns c = nothing_is_gaps
