use Rattle.std.proofs.Common.{◌≡◌, take}
use Rattle.bdb_base.specs.Causes.{Rises}
use Rattle.bdb_keep.specs.Seen.{NeverFall, GoesOn}
use Rattle.bdb_worlds.specs.Holding.{LeadsTo}
use Rattle.bdb_worlds.proofs.walk.resolve.Given as goal

abbrev pub invariant-loop-uid : goal.invariant-loop-uid
invariant-loop-uid g l = record {
  at : LeadsTo (g.K.Keeper.seen l.fn.keeper).kept l.path (take l.uid-index l.path) l.wid;
  kept : (g.K.Keeper.seen l.keeper).kept ≡ (g.K.Keeper.seen l.fn.keeper).kept;
  reads : Rises l.uid-index (g.K.Keeper.seen l.fn.keeper).reads (g.K.Keeper.seen l.keeper).reads;
  writes : (g.K.Keeper.seen l.keeper).writes ≡ (g.K.Keeper.seen l.fn.keeper).writes;
  counts : NeverFall (g.K.Keeper.seen l.fn.keeper) (g.K.Keeper.seen l.keeper);
  goes_on : GoesOn (g.K.Keeper.seen l.fn.keeper) (g.K.Keeper.seen l.keeper);
}
