use Rattle.bdb_update.proofs.ClearLemmas.{IsClearing}
use Rattle.bdb_update.proofs.parting.clear_worlds.Given as goal

abbrev pub invariant-loop-wid : goal.invariant-loop-wid
invariant-loop-wid g l = IsClearing (g.K.Keeper.seen l.fn.keeper) (g.K.Keeper.seen l.keeper) l.wids l.wid-index l.count
