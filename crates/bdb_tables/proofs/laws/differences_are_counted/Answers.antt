use Rattle.bdb_tables.proofs.DifferenceLemmas.{tables_differences_are_counted}
use Rattle.bdb_tables.proofs.laws.differences_are_counted.Goals as goal

pub returns : goal.returns
returns c = tables_differences_are_counted
