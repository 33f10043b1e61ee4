use Rattle.std.proofs.Common.{drop}
use Rattle.bdb_val.specs.Rooms.{IsRoomFor}
use Rattle.bdb_val.proofs.WalkingLemmas.{IsWalking}
use Rattle.bdb_val.proofs.walk.settle_from.Given as goal

abbrev pub invariant-loop : goal.invariant-loop
invariant-loop g l =
    IsWalking (g.K.Keeper.seen l.fn.keeper) (g.K.Keeper.seen l.keeper) l.rel l.key l.wid (drop l.at l.list.items) l.total
    × IsRoomFor (g.K.Keeper.seen l.keeper).kept l.rel l.key l.room.group.prefix.items l.room.handed.from l.room.handed.rows.items l.room.handed.singles.items
