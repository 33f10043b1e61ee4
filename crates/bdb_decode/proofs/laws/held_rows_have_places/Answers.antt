use Rattle.bdb_decode.proofs.HeldRowLemmas.{held_rows_have_places}
use Rattle.bdb_decode.proofs.laws.held_rows_have_places.Goals as goal

pub returns : goal.returns
returns c = held_rows_have_places
