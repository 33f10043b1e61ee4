use Rattle.bdb_decode.proofs.FewLemmas.{few_are_right}
use Rattle.bdb_decode.proofs.laws.few_have_statements.Goals as goal

pub returns : goal.returns
returns c = λ keys t worlds tuples stmts a b d. few_are_right keys t worlds tuples stmts a b d
