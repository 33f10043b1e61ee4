use Rattle.std.proofs.Common.{◌∙◌, sym}
use Rattle.bdb_base.proofs.SegmentLemmas.{is_prefix_begins}
use Rattle.bdb_base.proofs.segments.path_is_prefix.Goals as goal

pub returns : goal.returns
returns c = c.starts_with.ensures.value ∙ sym (is_prefix_begins c.args.a.now c.args.b.now)
