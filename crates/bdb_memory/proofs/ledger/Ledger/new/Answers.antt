use Rattle.std.proofs.Common.{sym, subst}
use Rattle.bdb_keep.specs.Tables.{LieInTables}
use Rattle.bdb_keep.proofs.TableLemmas.{none_lie}
use Rattle.bdb_memory.proofs.ledger.Ledger.new.Goals as goal

pub over-requires-clause-tables : goal.over-requires-clause-tables
over-requires-clause-tables c = subst (λ h. LieInTables h.kept) (sym c.new.ensures) none_lie
