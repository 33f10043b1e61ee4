use Rattle.std.proofs.Common.{◌≡◌, ◌∷◌, false}
use Rattle.bdb_former.specs.Respelled.{below, respelled}
use Rattle.bdb_tables.proofs.Loops.{IsReading}
use Rattle.bdb_copy.proofs.copying.copy_table.Given as goal

abbrev pub invariant-loop : goal.invariant-loop
invariant-loop g l = record {
  reading : IsReading (g.K.Keeper.seen l.fn.keeper) (g.K.Keeper.seen l.keeper) (l.copy.kept ≡ respelled (below (l.tab ∷ l.low.items) (g.K.Keeper.seen l.fn.keeper).kept));
  still : l.copy.running ≡ false;
}
