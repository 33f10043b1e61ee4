use Rattle.std.proofs.Common.{sym, subst}
use Rattle.bdb_memory.specs.StoreContents.{StoreContents}
use Rattle.bdb_keep.specs.Tables.{LieInTables}
use Rattle.bdb_keep.proofs.TableLemmas.{none_lie}
use Rattle.bdb_sql.proofs.keeper.SqlKeeper.over.Goals as goal

pub begun-requires-in-Err-clause-fits : goal.begun-requires-in-Err-clause-fits
begun-requires-in-Err-clause-fits g c = subst (λ (h : StoreContents). LieInTables h.kept) (sym c.new.ensures) none_lie
