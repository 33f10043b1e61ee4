use Rattle.std.proofs.Common.{◌≡◌, drop}
use Rattle.bdb_update.specs.Joining.{last_or}
use Rattle.bdb_update.proofs.joining.last_or.Given as goal

abbrev pub invariant-loop-number : goal.invariant-loop-number
invariant-loop-number l = last_or l.last (drop l.number-index l.numbers) ≡ last_or l.fn.other l.numbers
