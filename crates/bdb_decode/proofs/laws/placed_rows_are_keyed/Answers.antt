use Rattle.bdb_decode.proofs.KeyedLemmas.{placed_rows_are_keyed}
use Rattle.bdb_decode.proofs.laws.placed_rows_are_keyed.Goals as goal

pub returns : goal.returns
returns c = placed_rows_are_keyed
