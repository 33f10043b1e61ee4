use Rattle.std.proofs.Common.{◌∙◌, ◌∷◌, ◌++◌, [], sym, ap, subst, length, rules}
use Rattle.bdb_keep.specs.Spans.{AreCuts, Listed, listed}
use Rattle.bdb_keep.proofs.SpanLemmas.{all-within, front, front_longer, cuts-kept, listed-more, cuts-all}
use Rattle.bdb_keep.proofs.span.Span.push.Goals as goal

pub invariant_of-self-in_err-extend_from_slice-2 : goal.invariant_of-self-in_err-extend_from_slice-2
invariant_of-self-in_err-extend_from_slice-2 c =
    let old = c.self.inside.bytes.items in
    let mid = c.extend_from_slice.new.self.items in
    let new = c.extend_from_slice-2.new.self.items in
    cuts-kept old new c.self.inside.cuts.items (front_longer old mid new c.args.key.now c.in_ok-extend_from_slice.ensures.items c.in_err-extend_from_slice-2.ensures.items) c.self.invariant

pub invariant_of-self-in_err-push : goal.invariant_of-self-in_err-push
invariant_of-self-in_err-push c =
    let old = c.self.inside.bytes.items in
    let new = c.extend_from_slice-2.new.self.items in
    let one = c.in_ok-extend_from_slice.ensures.items in
    let two = c.in_ok-extend_from_slice-2.ensures.items in
    subst (AreCuts 0 (length new)) (sym c.in_err-push.ensures.items)
    (cuts-kept old new c.self.inside.cuts.items (front old c.args.key.now c.args.row.now c.extend_from_slice.new.self.items new c.len-start.result c.len-middle.result c.len-end.result one two (search rules) (search rules) (search rules)) c.self.invariant)

pub invariant_of-self-2 : goal.invariant_of-self-2
invariant_of-self-2 c =
    let old = c.self.inside.bytes.items in
    let new = c.extend_from_slice-2.new.self.items in
    let one = c.in_ok-extend_from_slice.ensures.items in
    let two = c.in_ok-extend_from_slice-2.ensures.items in
    subst (AreCuts 0 (length new)) (sym c.in_ok-push.ensures.items)
    (cuts-all old c.args.key.now c.args.row.now c.extend_from_slice.new.self.items new c.len-start.result c.len-middle.result c.len-end.result one two (search rules) (search rules) (search rules) c.self.inside.cuts.items c.self.invariant)

pub returns : goal.returns
returns c =
    let old = c.self.inside.bytes.items in
    let new = c.extend_from_slice-2.new.self.items in
    let one = c.in_ok-extend_from_slice.ensures.items in
    let two = c.in_ok-extend_from_slice-2.ensures.items in
    ap (listed new) c.in_ok-push.ensures.items
    ∙ listed-more old c.args.key.now c.args.row.now c.extend_from_slice.new.self.items new c.len-start.result c.len-middle.result c.len-end.result one two (search rules) (search rules) (search rules) c.self.inside.cuts.items (all-within 0 (length old) c.self.inside.cuts.items c.self.invariant)
    ∙ ap (λ (l : Listed). l ++ (c.args.key.now, c.args.row.now) ∷ []) c.self.view_is
