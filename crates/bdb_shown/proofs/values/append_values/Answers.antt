use Rattle.std.proofs.Common.{◌≡◌, ◌∙◌, ◌++◌, ◌∷◌, ◌<◌, ℕ, List, length, codes, ap, rules}
use Rattle.bdb_base.specs.Texts.{value_text}
use Rattle.bdb_render.specs.Replies.{row_text}
use Rattle.bdb_shown.proofs.ValueLemmas.{left_all, left_first, left_more}
use Rattle.bdb_shown.proofs.values.append_values.Goals as goal

pub loop-rest-init : goal.loop-rest-init
loop-rest-init c v vals r = left_first c.args.bytes.now c.in_ok-rest.rest.now c.args.out.now.items c.append_value.new.out.items c.in_ok-rest.ensures.written c.in_ok-rest.ensures.behind v vals r

pub loop-rest-preserved : goal.loop-rest-preserved
loop-rest-preserved c v vals r =
    let old = c.loop-rest.out.items in
    let some : 0 < length c.loop-rest.rest.now = search rules in
    let apart : c.extend_from_slice.new.self.items ≡ old ++ codes ", " = search rules in
    left_more c.loop-rest.rest.now c.in_ok-rest-2.rest.now old c.append_value-in-loop-rest.new.out.items (c.args.out.now.items ++ row_text (v ∷ vals)) some
    (λ w more l. c.in_ok-rest-2.ensures.written w more l ∙ ap (λ (x : List ℕ). x ++ value_text w) apart) c.in_ok-rest-2.ensures.behind (c.loop-rest.invariant v vals r)

pub returns : goal.returns
returns c v vals r =
    let none : length c.loop-rest.rest.now ≡ 0 = search rules in
    left_all c.loop-rest.rest.now c.loop-rest.out.items (c.args.out.now.items ++ row_text (v ∷ vals)) none (c.loop-rest.invariant v vals r)
