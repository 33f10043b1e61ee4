use Rattle.std.proofs.Common.{◌≡◌, filter_map}
use Rattle.bdb_exec.specs.Rows.{tuple_of_slot}
use Rattle.bdb_exec.proofs.looking.users_of.Given as goal

abbrev pub invariant-loop-entry : goal.invariant-loop-entry
invariant-loop-entry l = l.users ≡ filter_map tuple_of_slot l.yielded
