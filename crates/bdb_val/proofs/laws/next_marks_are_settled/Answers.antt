use Rattle.bdb_val.proofs.NextMarks.{next_marks_are_settled}
use Rattle.bdb_val.proofs.laws.next_marks_are_settled.Goals as goal

pub returns : goal.returns
returns c = next_marks_are_settled
