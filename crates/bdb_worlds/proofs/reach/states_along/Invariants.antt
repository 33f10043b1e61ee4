use Rattle.std.proofs.Common.{◌≡◌, length}
use Rattle.bdb_keep.specs.Seen.{NeverFall, GoesOn}
use Rattle.bdb_worlds.proofs.ReachLemmas.{ReachedTo}
use Rattle.bdb_worlds.proofs.ShrinkLemmas.{Collected}
use Rattle.bdb_worlds.proofs.reach.states_along.Given as goal

abbrev pub invariant-loop-len : goal.invariant-loop-len
invariant-loop-len g l = record {
  at : (ReachedTo (g.K.Keeper.seen l.fn.keeper).kept l.path l.len l.wid);
  numbers : (Collected (g.K.Keeper.seen l.fn.keeper).kept l.path l.numbers.items);
  done : length l.numbers.items ≡ l.len;
  kept : (g.K.Keeper.seen l.keeper).kept ≡ (g.K.Keeper.seen l.fn.keeper).kept;
  writes : (g.K.Keeper.seen l.keeper).writes ≡ (g.K.Keeper.seen l.fn.keeper).writes;
  counts : NeverFall (g.K.Keeper.seen l.fn.keeper) (g.K.Keeper.seen l.keeper);
  goes_on : GoesOn (g.K.Keeper.seen l.fn.keeper) (g.K.Keeper.seen l.keeper);
}
