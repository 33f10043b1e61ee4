use Rattle.std.proofs.Common.{length}
use Rattle.bdb_top.proofs.TallyLemmas.{HasTallied}
use Rattle.bdb_top.proofs.tally.tally_script.Given as goal

abbrev pub invariant-loop-piece : goal.invariant-loop-piece
invariant-loop-piece g l = HasTallied l.fn.script l.fn.session l.session (g.K.Keeper.seen l.fn.keeper) (g.K.Keeper.seen l.keeper) l.tally l.cutter l.rest

abbrev pub decreases-loop-piece : goal.decreases-loop-piece
decreases-loop-piece g l = length l.rest
