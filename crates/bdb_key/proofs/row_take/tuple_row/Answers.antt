use Rattle.bdb_key.proofs.TabRows.{none_4}
use Rattle.std.proofs.Common.{Err, ap}
use Rattle.bdb_key.proofs.row_take.tuple_row.Goals as goal

pub returns-in-Err-NotAKey-clause-none : goal.returns-in-Err-NotAKey-clause-none
returns-in-Err-NotAKey-clause-none c _ = none_4 c.args.bytes.now (c.in-Err-NotAKey.ensures.none (ap Err c.in-Err-NotAKey.field-0-is))
