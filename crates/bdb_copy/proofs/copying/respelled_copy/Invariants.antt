use Rattle.std.proofs.Common.{◌≡◌, ◌+◌, [], ◌∷◌, false}
use Rattle.bdb_former.specs.Respelled.{below, respelled}
use Rattle.bdb_tables.proofs.Loops.{IsReading}
use Rattle.bdb_copy.proofs.copying.respelled_copy.Given as goal

abbrev pub invariant-loop-before : goal.invariant-loop-before
invariant-loop-before g l = record {
  reading : IsReading (g.K.Keeper.seen l.fn.keeper) (g.K.Keeper.seen l.keeper) (l.copy.kept ≡ respelled (below ((l.before + 1) ∷ []) (g.K.Keeper.seen l.fn.keeper).kept));
  still : l.copy.running ≡ false;
}
