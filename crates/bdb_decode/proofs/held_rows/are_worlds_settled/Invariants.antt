use Rattle.std.proofs.Common.{true, take}
use Rattle.std.specs.List.{AllByRecursion}
use Rattle.bdb_base.specs.Bases.{key_lengths}
use Rattle.bdb_tables.proofs.Loops.{IsReading}
use Rattle.bdb_decode.specs.SettledRows.{AreLinkedRows, TellsWorld}
use Rattle.bdb_decode.proofs.held_rows.are_worlds_settled.Given as goal

abbrev pub invariant-loop-world : goal.invariant-loop-world
invariant-loop-world g l =
    IsReading (g.K.Keeper.seen l.fn.keeper) (g.K.Keeper.seen l.keeper) (
    AllByRecursion (λ x. TellsWorld (key_lengths l.catalog.rels) (g.K.Keeper.seen l.fn.keeper).kept x true) (take l.world-index l.worlds)
    × AreLinkedRows (g.K.Keeper.seen l.fn.keeper).kept l.linked.link l.linked.rows.items
    )
