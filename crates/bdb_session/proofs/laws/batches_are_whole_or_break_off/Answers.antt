use Rattle.bdb_session.proofs.BatchLemmas.{batches_are_whole_or_break_off}
use Rattle.bdb_session.proofs.laws.batches_are_whole_or_break_off.Goals as goal

pub returns : goal.returns
returns c = batches_are_whole_or_break_off
