use Rattle.bdb_many.proofs.LabelLemmas.{lines_are_labelled}
use Rattle.bdb_many.proofs.laws.lines_are_labelled.Goals as goal

pub returns : goal.returns
returns c = lines_are_labelled
