use Rattle.bdb_val.proofs.SettledLemmas.{settled_rows_are_right}
use Rattle.bdb_val.proofs.laws.settled_rows_are_right.Goals as goal

pub returns : goal.returns
returns c = settled_rows_are_right
