use Rattle.bdb_val.proofs.HeldLemmas.{settled_rows_are_held}
use Rattle.bdb_val.proofs.laws.settled_rows_are_held.Goals as goal

pub returns : goal.returns
returns c = settled_rows_are_held
