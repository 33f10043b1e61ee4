use Rattle.std.proofs.Common.{◌≡◌, ◌++◌, take, drop}
use Rattle.bdb_parse.specs.Stops.{cut}
use Rattle.bdb_parse.proofs.cut.cut.Given as goal

abbrev pub invariant-loop-at : goal.invariant-loop-at
invariant-loop-at l =
    ((cut l.stop l.tokens).0 ≡ take l.at l.tokens ++ (cut l.stop (drop l.at l.tokens)).0) × ((cut l.stop l.tokens).1 ≡ (cut l.stop (drop l.at l.tokens)).1)
