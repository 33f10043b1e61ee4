use Rattle.std.proofs.Common.{Err, ap}
use Rattle.bdb_key.proofs.Readings.{no_path}
use Rattle.bdb_key.proofs.read.path_of.Goals as goal

pub returns-in-Err-Repeat-clause-none : goal.returns-in-Err-Repeat-clause-none
returns-in-Err-Repeat-clause-none c _ = no_path c.in-Some.len c.args.bytes.now c.in-Some.rest.now c.in_ok-users.rest.now c.in_ok-users.users.items c.in-Some.ensures c.in_ok-users.ensures.ok (rw (← c.deref.ensures.value) (c.in-Err-Repeat.ensures.repeat (ap Err c.in-Err-Repeat.field-0-is)))
