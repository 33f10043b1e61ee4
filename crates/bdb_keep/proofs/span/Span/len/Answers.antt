use Rattle.std.proofs.Common.{◌∙◌, sym, ap, length, rules}
use Rattle.bdb_keep.proofs.SpanLemmas.{length_is}
use Rattle.bdb_keep.proofs.span.Span.len.Goals as goal

pub returns : goal.returns
returns c = (search rules) ∙ sym (length_is c.self.inside.bytes.items c.self.inside.cuts.items) ∙ ap length c.self.view_is
