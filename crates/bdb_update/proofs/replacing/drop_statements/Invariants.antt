use Rattle.std.proofs.Common.{drop}
use Rattle.bdb_update.specs.Keeping.{KeepsNumbers}
use Rattle.bdb_update.proofs.OneLemmas.{OneGoes}
use Rattle.bdb_update.proofs.ReplaceLemmas.{IsGoing}
use Rattle.bdb_update.proofs.replacing.drop_statements.Given as goal

abbrev pub invariant-loop-stmt : goal.invariant-loop-stmt
invariant-loop-stmt g l =
    IsGoing (g.K.Keeper.seen l.fn.keeper) (g.K.Keeper.seen l.keeper) l.fn.counts l.counts l.gone (drop l.stmt-index l.gone)
    × OneGoes (g.K.Keeper.seen l.fn.keeper) (g.K.Keeper.seen l.keeper) l.gone l.stmt-index
    × KeepsNumbers (g.K.Keeper.seen l.keeper).kept (g.K.Keeper.seen l.fn.keeper).kept
