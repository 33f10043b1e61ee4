use Rattle.std.proofs.Common.{◌-◌, length}
use Rattle.bdb_memory.proofs.UnderLemmas.{IsWalked}
use Rattle.bdb_memory.proofs.under.take_blocks.Given as goal

abbrev pub invariant-loop-at : goal.invariant-loop-at
invariant-loop-at l = IsWalked l.opening l.blocks l.at l.index l.fn.span l.span

abbrev pub decreases-loop-at : goal.decreases-loop-at
decreases-loop-at l = length l.blocks - l.at
