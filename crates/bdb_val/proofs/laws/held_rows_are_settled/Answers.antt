use Rattle.bdb_val.proofs.HeldLemmas.{held_rows_are_settled}
use Rattle.bdb_val.proofs.laws.held_rows_are_settled.Goals as goal

pub returns : goal.returns
returns c = held_rows_are_settled
