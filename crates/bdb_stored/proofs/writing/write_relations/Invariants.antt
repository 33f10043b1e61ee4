use Rattle.bdb_keep.specs.Seen.{GoesOn, NeverFall}
use Rattle.bdb_catalog.specs.Bases.{StoresValid}
use Rattle.bdb_stored.specs.Writing.{with_relations}
use Rattle.bdb_stored.proofs.writing.write_relations.Given as goal

abbrev pub invariant-loop-at : goal.invariant-loop-at
invariant-loop-at g l = record {
  stored : StoresValid (g.K.Keeper.seen l.keeper).kept (with_relations l.catalog l.at);
  counts : NeverFall (g.K.Keeper.seen l.fn.keeper) (g.K.Keeper.seen l.keeper);
  goes_on : GoesOn (g.K.Keeper.seen l.fn.keeper) (g.K.Keeper.seen l.keeper);
}
