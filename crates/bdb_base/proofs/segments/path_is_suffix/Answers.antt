use Rattle.std.proofs.Common.{◌∙◌, sym}
use Rattle.bdb_base.proofs.SegmentLemmas.{is_suffix_ends}
use Rattle.bdb_base.proofs.segments.path_is_suffix.Goals as goal

pub returns : goal.returns
returns c = c.ends_with.ensures.value ∙ sym (is_suffix_ends c.args.a.now c.args.b.now)
