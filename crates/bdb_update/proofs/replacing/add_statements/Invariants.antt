use Rattle.std.proofs.Common.{drop}
use Rattle.bdb_update.specs.Keeping.{KeepsNumbers}
use Rattle.bdb_update.proofs.ReplaceLemmas.{IsComing}
use Rattle.bdb_update.proofs.replacing.add_statements.Given as goal

abbrev pub invariant-loop-stmt : goal.invariant-loop-stmt
invariant-loop-stmt g l =
    IsComing (g.K.Keeper.seen l.fn.keeper) (g.K.Keeper.seen l.keeper) l.fn.counts l.counts l.come (drop l.stmt-index l.come)
    × KeepsNumbers (g.K.Keeper.seen l.fn.keeper).kept (g.K.Keeper.seen l.keeper).kept
