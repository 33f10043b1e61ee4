use Rattle.std.proofs.Common.{◌∙◌, ◌∷◌, ◌++◌, [], sym, ap, subst, length, take, rules}
use Rattle.bdb_keep.specs.Spans.{AreCuts, Listed, listed}
use Rattle.bdb_keep.proofs.SpanLemmas.{all-within, front, cuts-kept, listed-more, cuts-all}
use Rattle.bdb_keep.proofs.span.Span.push_entry.Goals as goal

pub invariant_of-self : goal.invariant_of-self
invariant_of-self g c = cuts-kept c.self.inside.bytes.items c.append_key.new.bytes.items c.self.inside.cuts.items c.append_key.ensures.front c.self.invariant

pub invariant_of-self-in_err-extend_from_slice : goal.invariant_of-self-in_err-extend_from_slice
invariant_of-self-in_err-extend_from_slice g c =
    let old = c.self.inside.bytes.items in
    cuts-kept old c.extend_from_slice.new.self.items c.self.inside.cuts.items (ap (take (length old)) c.in_err-extend_from_slice.ensures.items ∙ c.append_key.ensures.front) c.self.invariant

pub invariant_of-self-in_err-push : goal.invariant_of-self-in_err-push
invariant_of-self-in_err-push g c =
    let old = c.self.inside.bytes.items in
    let new = c.extend_from_slice.new.self.items in
    let one = c.in_ok-append_key.ensures.ok in
    let two = c.in_ok-extend_from_slice.ensures.items in
    subst (AreCuts 0 (length new)) (sym c.in_err-push.ensures.items)
    (cuts-kept old new c.self.inside.cuts.items (front old (g.K.AppendKey.key c.args.entry.now) c.args.row.now c.append_key.new.bytes.items new c.len-start.result c.len-middle.result c.len-end.result one two (search rules) (search rules) (search rules)) c.self.invariant)

pub invariant_of-self-2 : goal.invariant_of-self-2
invariant_of-self-2 g c =
    let old = c.self.inside.bytes.items in
    let new = c.extend_from_slice.new.self.items in
    let one = c.in_ok-append_key.ensures.ok in
    let two = c.in_ok-extend_from_slice.ensures.items in
    subst (AreCuts 0 (length new)) (sym c.in_ok-push.ensures.items)
    (cuts-all old (g.K.AppendKey.key c.args.entry.now) c.args.row.now c.append_key.new.bytes.items new c.len-start.result c.len-middle.result c.len-end.result one two (search rules) (search rules) (search rules) c.self.inside.cuts.items c.self.invariant)

pub returns : goal.returns
returns g c =
    let old = c.self.inside.bytes.items in
    let new = c.extend_from_slice.new.self.items in
    let key = g.K.AppendKey.key c.args.entry.now in
    let one = c.in_ok-append_key.ensures.ok in
    let two = c.in_ok-extend_from_slice.ensures.items in
    ap (listed new) c.in_ok-push.ensures.items
    ∙ listed-more old key c.args.row.now c.append_key.new.bytes.items new c.len-start.result c.len-middle.result c.len-end.result one two (search rules) (search rules) (search rules) c.self.inside.cuts.items (all-within 0 (length old) c.self.inside.cuts.items c.self.invariant)
    ∙ ap (λ (l : Listed). l ++ (key, c.args.row.now) ∷ []) c.self.view_is
