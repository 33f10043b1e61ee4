use Rattle.std.proofs.Common.{length}
use Rattle.bdb_stream.proofs.BlockLemmas.{HasAnswered}
use Rattle.bdb_stream.proofs.stream.answer_block.Given as goal

abbrev pub invariant-loop-piece : goal.invariant-loop-piece
invariant-loop-piece g l =
    HasAnswered g.H.Handler.handling l.fn.cutter.state l.fn.block l.fn.handler l.handler (g.K.Keeper.seen l.fn.keeper) (g.K.Keeper.seen l.keeper)
    (g.O.Sink.written l.fn.out) (g.O.Sink.written l.out) (g.O.Sink.faults l.fn.out) (g.O.Sink.faults l.out) l.fine l.cutter l.rest

abbrev pub decreases-loop-piece : goal.decreases-loop-piece
decreases-loop-piece g l = length l.rest
