use Rattle.std.proofs.Common.{nat_eq}
use Rattle.bdb_keep.specs.Seen.{GoesOn, NeverFall}
use Rattle.bdb_tables.specs.Stored.{SameBut}
use Rattle.bdb_stored.proofs.clearing.clear_table.Given as goal

abbrev pub invariant-loop : goal.invariant-loop
invariant-loop g l = record {
  same : SameBut (nat_eq l.tab) (g.K.Keeper.seen l.fn.keeper).kept (g.K.Keeper.seen l.keeper).kept;
  counts : NeverFall (g.K.Keeper.seen l.fn.keeper) (g.K.Keeper.seen l.keeper);
  goes_on : GoesOn (g.K.Keeper.seen l.fn.keeper) (g.K.Keeper.seen l.keeper);
}
