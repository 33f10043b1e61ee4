use Rattle.bdb_memory.proofs.ShelvesLemmas.{first-there}
use Rattle.bdb_memory.proofs.shelf.entry_from.Goals as goal

pub returns-in-Some : goal.returns-in-Some
returns-in-Some c =
    first-there c.args.blocks.now c.args.probe.now c.in-Some.spot.0 c.in-Some.spot.1 c.entry_of.result.now c.in-Some.ensures.there c.entry_of.ensures c.in-Some.ensures.row c.in-Some.ensures.passed c.in-Some.ensures.reached
