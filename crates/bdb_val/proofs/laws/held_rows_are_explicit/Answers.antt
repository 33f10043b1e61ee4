use Rattle.bdb_val.proofs.HeldLemmas.{held_rows_are_explicit}
use Rattle.bdb_val.proofs.laws.held_rows_are_explicit.Goals as goal

pub returns : goal.returns
returns c = held_rows_are_explicit
