use Rattle.std.proofs.Common.{◌≡◌, ◌++◌, length}
use Rattle.bdb_parse.specs.Reading.{whos_at}
use Rattle.bdb_parse.proofs.item.whos.Given as goal

abbrev pub invariant-loop-path : goal.invariant-loop-path
invariant-loop-path l =
    ((whos_at l.tokens).0 ≡ l.path ++ (whos_at l.rest).0) × ((whos_at l.tokens).1 ≡ (whos_at l.rest).1)

abbrev pub decreases-loop-path : goal.decreases-loop-path
decreases-loop-path l = length l.rest
