use Rattle.std.proofs.Common.{subst}
use Rattle.bdb_keep.specs.Tables.{LieInTables}
use Rattle.bdb_memory.proofs.ledger.Ledger.over.Goals as goal

-- src/ledger.rt:59:5
pub invariant_of-result : goal.invariant_of-result
invariant_of-result c = record { rest = λ _. c.requires.committed; kept = c.requires.tables; last = subst LieInTables c.requires.committed c.requires.tables }
