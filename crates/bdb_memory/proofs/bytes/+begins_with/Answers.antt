use Rattle.std.proofs.Common.{sym, ◌∙◌}
use Rattle.bdb_base.proofs.SegmentLemmas.{is_prefix_begins}
use Rattle.bdb_memory.proofs.bytes.+begins_with.Goals as goal

pub returns-in_default : goal.returns-in_default
returns-in_default t c = c.starts_with.ensures.value ∙ sym (is_prefix_begins c.args.prefix.now c.args.bytes.now)
