use Rattle.bdb_decode.proofs.SaidLemmas.{stated_rows_are_explicit}
use Rattle.bdb_decode.proofs.laws.stated_rows_are_explicit.Goals as goal

pub returns : goal.returns
returns c = stated_rows_are_explicit
