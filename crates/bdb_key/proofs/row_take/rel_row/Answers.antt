use Rattle.bdb_key.proofs.TabRows.{none_3}
use Rattle.std.proofs.Common.{Err, ap}
use Rattle.bdb_key.proofs.row_take.rel_row.Goals as goal

pub returns-in-Err-NotAKey-clause-none : goal.returns-in-Err-NotAKey-clause-none
returns-in-Err-NotAKey-clause-none c _ = none_3 c.args.bytes.now (c.in-Err-NotAKey.ensures.none (ap Err c.in-Err-NotAKey.field-0-is))
