use Rattle.bdb_val.specs.Rooms.{HaveNone}
use Rattle.bdb_val.proofs.room.no_singles.Given as goal

abbrev pub invariant-loop : goal.invariant-loop
invariant-loop l = HaveNone l.singles.items
