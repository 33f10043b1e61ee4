use Rattle.std.proofs.Common.{◌<◌, ◌∙◌, List, ℕ, [], sym, ap, subst, length, get_or, rules}
use Rattle.std.specs.List.{slice_range}
use Rattle.bdb_keep.specs.Spans.{IsWithin}
use Rattle.bdb_keep.proofs.SpanLemmas.{all-within, length_is, within-at, listed-at}
use Rattle.bdb_keep.proofs.span.Span.entry.Goals as goal

pub index-cut-requires : goal.index-cut-requires
index-cut-requires c =
    let h : c.args.index < length c.self.inside.cuts.items = subst (λ n. c.args.index < n) (sym (ap length c.self.view_is) ∙ length_is c.self.inside.bytes.items c.self.inside.cuts.items) c.requires in
    search rules

pub key-requires : goal.key-requires
key-requires c =
    let h : c.args.index < length c.self.inside.cuts.items = subst (λ n. c.args.index < n) (sym (ap length c.self.view_is) ∙ length_is c.self.inside.bytes.items c.self.inside.cuts.items) c.requires in
    subst (λ b. IsWithin (length b) c.index-cut.result.now) (sym c.deref.ensures.value) (within-at (length c.self.inside.bytes.items) c.self.inside.cuts.items c.args.index c.index-cut.result.now h c.index-cut.ensures (all-within 0 (length c.self.inside.bytes.items) c.self.inside.cuts.items c.self.invariant))

pub row-requires : goal.row-requires
row-requires c =
    let h : c.args.index < length c.self.inside.cuts.items = subst (λ n. c.args.index < n) (sym (ap length c.self.view_is) ∙ length_is c.self.inside.bytes.items c.self.inside.cuts.items) c.requires in
    subst (λ b. IsWithin (length b) c.index-cut.result.now) (sym c.deref-2.ensures.value) (within-at (length c.self.inside.bytes.items) c.self.inside.cuts.items c.args.index c.index-cut.result.now h c.index-cut.ensures (all-within 0 (length c.self.inside.bytes.items) c.self.inside.cuts.items c.self.invariant))

pub returns : goal.returns
returns c =
    let h : c.args.index < length c.self.inside.cuts.items = subst (λ n. c.args.index < n) (sym (ap length c.self.view_is) ∙ length_is c.self.inside.bytes.items c.self.inside.cuts.items) c.requires in
    let cut = c.index-cut.result.now in
    ap (λ (k : List ℕ). (k, c.row.result.now)) (c.key.ensures ∙ ap (λ b. slice_range b cut.start cut.middle) c.deref.ensures.value)
    ∙ ap (λ (r : List ℕ). (slice_range c.self.inside.bytes.items cut.start cut.middle, r)) (c.row.ensures ∙ ap (λ b. slice_range b cut.middle cut.end) c.deref-2.ensures.value)
    ∙ listed-at c.self.inside.bytes.items c.self.inside.cuts.items c.args.index cut h c.index-cut.ensures ∙ ap (λ l. get_or l c.args.index ([], [])) c.self.view_is
