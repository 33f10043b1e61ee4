use Rattle.std.proofs.Common.{◌∙◌}
use Rattle.bdb_memory.proofs.HeadsLemmas.{parts_of_entry, place_of_entry}
use Rattle.bdb_memory.proofs.entry.Entry.probe.Goals as goal

pub from_parts-requires : goal.from_parts-requires
from_parts-requires c = parts_of_entry c.head_with-head.result _ _ c.rest.result.now c.head_with-head.ensures c.rest.ensures c.self.invariant

pub returns : goal.returns
returns c = c.from_parts.ensures ∙ place_of_entry c.head_with-head.result _ _ c.rest.result.now _ c.args.self.now c.head_with-head.ensures c.rest.ensures c.self.view_is
