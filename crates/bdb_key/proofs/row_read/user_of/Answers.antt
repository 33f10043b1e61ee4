use Rattle.std.proofs.Common.{◌<◌, length, Err, ap, rules}
use Rattle.bdb_key.proofs.TabRows.{none_slot}
use Rattle.bdb_key.proofs.row_read.user_of.Goals as goal

pub returns-in-Err-NotAKey-clause-none : goal.returns-in-Err-NotAKey-clause-none
returns-in-Err-NotAKey-clause-none c _ =
    let some : 0 < length c.args.bytes.now = search rules in
    none_slot c.args.bytes.now some (c.in-Err-NotAKey.ensures.none (ap Err c.in-Err-NotAKey.field-0-is))
