use Rattle.bdb_memory.proofs.PlaceLemmas.{near_whole, near_padded}
use Rattle.bdb_memory.proofs.place.Place.near.Goals as goal

pub invariant_of-result : goal.invariant_of-result
invariant_of-result c = near_padded c.parts.result.0 c.parts.result.1.now c.args.probe.now c.all_bytes.result c.all_bytes.ensures c.parts.ensures.place c.parts.ensures.head c.requires

pub returns : goal.returns
returns c = near_whole c.parts.result.0 c.parts.result.1.now c.args.probe.now c.all_bytes.result c.all_bytes.ensures c.parts.ensures.place c.parts.ensures.head c.requires
