use Rattle.bdb_tables.proofs.DifferenceLemmas.{tables_differences_add}
use Rattle.bdb_tables.proofs.laws.differences_add.Goals as goal

pub returns : goal.returns
returns c = tables_differences_add
