use Rattle.bdb_tables.proofs.DifferenceLists.{tables_differences_are_listed}
use Rattle.bdb_tables.proofs.laws.differences_are_listed.Goals as goal

pub returns : goal.returns
returns c = tables_differences_are_listed
