use Rattle.std.proofs.Common.{◌≡◌, false, length}
use Rattle.bdb_lex.specs.Runs.{IsFed}
use Rattle.bdb_lex.proofs.cut.Cutter.feed.Given as goal

abbrev pub invariant-loop-piece : goal.invariant-loop-piece
invariant-loop-piece l = IsFed l.fn.out l.fn.self.state l.fn.bytes l.out l.self.state l.rest × (l.self.is_spent ≡ false)

abbrev pub decreases-loop-piece : goal.decreases-loop-piece
decreases-loop-piece l = length l.rest
