use Rattle.std.proofs.Common.{rules}
use Rattle.bdb_sql.proofs.keeper.SqlKeeper.begun.Goals as goal

pub returns-clause-begins : goal.returns-clause-begins
returns-clause-begins g c = record {
  still = search rules;
  fits = search rules;
  empty = search rules;
  fault = search rules;
  reads = search rules;
  writes = search rules;
  commits = search rules;
}
