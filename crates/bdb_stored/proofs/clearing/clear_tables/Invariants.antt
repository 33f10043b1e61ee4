use Rattle.std.proofs.Common.{◌+◌, ◌≤◌}
use Rattle.bdb_keep.specs.Seen.{GoesOn, NeverFall}
use Rattle.bdb_keep.specs.Tables.{LieInTables}
use Rattle.bdb_stored.specs.Writing.{AreCleared}
use Rattle.bdb_stored.proofs.clearing.clear_tables.Given as goal

abbrev pub invariant-loop-before : goal.invariant-loop-before
invariant-loop-before g l = record {
  cleared : AreCleared (l.before + 1) (g.K.Keeper.seen l.fn.keeper).kept (g.K.Keeper.seen l.keeper).kept;
  tables : 1 ≤ l.before → LieInTables (g.K.Keeper.seen l.keeper).kept;
  counts : NeverFall (g.K.Keeper.seen l.fn.keeper) (g.K.Keeper.seen l.keeper);
  goes_on : GoesOn (g.K.Keeper.seen l.fn.keeper) (g.K.Keeper.seen l.keeper);
}
