use Rattle.std.proofs.Common.{◌≡◌, ◌<◌, ◌∙◌, List, ℕ, sym, ap, subst, length, arith, rules}
use Rattle.std.specs.Vec.{with_items}
use Rattle.std.proofs.lemmas.List.{with_items_is}
use Rattle.bdb_keep.specs.Spans.{Listed, listed, with_ends, with_four}
use Rattle.bdb_keep.proofs.SpanLemmas.{length_is, ends_are, ends_replaced, as_long_with_four}
use Rattle.bdb_keep.proofs.span.Span.replace_ends.Goals as goal

pub index-requires : goal.index-requires
index-requires c =
    let h : c.args.index < length c.self.inside.cuts.items = subst (λ n. c.args.index < n) (sym (ap length c.self.view_is) ∙ length_is c.self.inside.bytes.items c.self.inside.cuts.items) c.requires.index in
    search rules

pub put_four-requires : goal.put_four-requires
put_four-requires c =
    let bytes = c.self.inside.bytes.items in
    let cuts = c.self.inside.cuts.items in
    let h : c.args.index < length cuts = subst (λ n. c.args.index < n) (sym (ap length c.self.view_is) ∙ length_is bytes cuts) c.requires.index in
    let ends = ends_are bytes cuts c.args.self.now c.args.index c.index.result.now c.self.view_is c.self.invariant h c.index.ensures c.requires.key c.requires.row in
    let same : length c.deref_mut.result.now ≡ length bytes = ap length c.deref_mut.ensures.value in
    omega (arith, ends.key, ends.row, ends.bytes, same)

pub put_four-requires-2 : goal.put_four-requires-2
put_four-requires-2 c =
    let bytes = c.self.inside.bytes.items in
    let cuts = c.self.inside.cuts.items in
    let cut = c.index.result.now in
    let h : c.args.index < length cuts = subst (λ n. c.args.index < n) (sym (ap length c.self.view_is) ∙ length_is bytes cuts) c.requires.index in
    let ends = ends_are bytes cuts c.args.self.now c.args.index cut c.self.view_is c.self.invariant h c.index.ensures c.requires.key c.requires.row in
    let front : length c.args.front.now ≡ 4 = search rules in
    let mid : c.put_four.new.bytes ≡ with_four cut.start c.args.front.now bytes = c.put_four.ensures ∙ ap (with_four cut.start c.args.front.now) c.deref_mut.ensures.value in
    let long : length c.put_four.new.bytes ≡ length bytes = ap length mid ∙ as_long_with_four cut.start c.args.front.now bytes (omega (arith, ends.key, ends.row, ends.bytes)) front in
    let same : length c.deref_mut-2.result.now ≡ length c.put_four.new.bytes = ap length (c.deref_mut-2.ensures.value ∙ with_items_is c.self.inside.bytes c.put_four.new.bytes (long ∙ sym c.self.inside.bytes.ok.0)) in
    omega (arith, ends.row, ends.bytes, long, same)

pub returns : goal.returns
returns c =
    let bytes = c.self.inside.bytes.items in
    let cuts = c.self.inside.cuts.items in
    let cut = c.index.result.now in
    let front = c.args.front.now in
    let row = c.args.row.now in
    let h : c.args.index < length cuts = subst (λ n. c.args.index < n) (sym (ap length c.self.view_is) ∙ length_is bytes cuts) c.requires.index in
    let ends = ends_are bytes cuts c.args.self.now c.args.index cut c.self.view_is c.self.invariant h c.index.ensures c.requires.key c.requires.row in
    let mid : c.put_four.new.bytes ≡ with_four cut.start front bytes = c.put_four.ensures ∙ ap (with_four cut.start front) c.deref_mut.ensures.value in
    let long : length c.put_four.new.bytes ≡ length bytes = ap length mid ∙ as_long_with_four cut.start front bytes (omega (arith, ends.key, ends.row, ends.bytes)) (search rules) in
    let written = with_items_is c.self.inside.bytes c.put_four.new.bytes (long ∙ sym c.self.inside.bytes.ok.0) in
    let new : c.put_four-2.new.bytes ≡ with_four cut.middle row c.put_four.new.bytes = c.put_four-2.ensures ∙ ap (with_four cut.middle row) (c.deref_mut-2.ensures.value ∙ written) in
    let done = ends_replaced bytes c.put_four.new.bytes c.put_four-2.new.bytes front row cuts c.args.index cut c.self.invariant h c.index.ensures ends.key ends.row (search rules) (search rules) mid new in
    let last = with_items_is (with_items c.self.inside.bytes c.put_four.new.bytes) c.put_four-2.new.bytes (done.1 ∙ sym c.self.inside.bytes.ok.0) in
    ap (λ (b : List ℕ). listed b cuts) last ∙ done.0 ∙ ap (λ (l : Listed). with_ends front row l c.args.index) c.self.view_is
