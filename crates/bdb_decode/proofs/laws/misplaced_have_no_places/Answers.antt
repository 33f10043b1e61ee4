use Rattle.bdb_decode.proofs.RowLemmas.{misplaced_have_no_places}
use Rattle.bdb_decode.proofs.laws.misplaced_have_no_places.Goals as goal

pub returns : goal.returns
returns c = λ keys t worlds tuples rows a b. misplaced_have_no_places keys worlds tuples t rows a b
