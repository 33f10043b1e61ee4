use Rattle.std.proofs.Common.{take}
use Rattle.bdb_tables.proofs.Loops.{IsReading}
use Rattle.bdb_decode.specs.Parts.{AreLinks}
use Rattle.bdb_decode.proofs.linking.links_of.Given as goal

abbrev pub invariant-loop-world : goal.invariant-loop-world
invariant-loop-world g l = IsReading (g.K.Keeper.seen l.fn.keeper) (g.K.Keeper.seen l.keeper) (AreLinks (g.K.Keeper.seen l.fn.keeper).kept (take l.world-index l.worlds) l.links.items)
