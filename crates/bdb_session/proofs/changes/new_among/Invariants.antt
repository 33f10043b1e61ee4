use Rattle.std.proofs.Common.{take}
use Rattle.bdb_session.proofs.NotingLemmas.{AreNewSoFar}
use Rattle.bdb_session.proofs.changes.new_among.Given as goal

-- of the statements so far, those that do not stand were pushed
abbrev pub invariant-loop-stmt : goal.invariant-loop-stmt
invariant-loop-stmt g l = AreNewSoFar (g.K.Keeper.seen l.fn.keeper) (g.K.Keeper.seen l.keeper) l.counts l.stmts (take l.stmt-index l.stmts) l.fresh
