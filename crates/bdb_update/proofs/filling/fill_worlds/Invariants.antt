use Rattle.bdb_update.proofs.FillLemmas.{IsFilling}
use Rattle.bdb_update.proofs.filling.fill_worlds.Given as goal

abbrev pub invariant-loop-wid : goal.invariant-loop-wid
invariant-loop-wid g l = IsFilling (g.K.Keeper.seen l.fn.keeper) (g.K.Keeper.seen l.keeper) l.wids l.wid-index l.count
