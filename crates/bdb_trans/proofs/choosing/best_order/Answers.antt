use Rattle.std.proofs.Common.{rules, ◌≡◌, ◌∙◌, ◌<◌, ◌++◌, ◌∷◌, [], ap, sym, subst, length, get_or, IsPermutation}
use Rattle.std.specs.List.{remove}
use Rattle.std.proofs.lemmas.List.Sorted.{IsPermutation-more}
use Rattle.bdb_trans.proofs.choosing.best_order.Goals as goal

pub loop-tied-preserved : goal.loop-tied-preserved
loop-tied-preserved c =
    let old = c.loop-tied.left.items in
    let within : c.best_of-best.result < length old = search rules in
    let at : c.remove-place.result ≡ get_or old c.best_of-best.result c.remove-place.result = search rules in
    let more = IsPermutation-more c.args.written.now c.loop-tied.order.items old c.best_of-best.result c.remove-place.result within at c.loop-tied.invariant in
    let whole : (c.loop-tied.order.items ++ c.remove-place.result ∷ []) ++ remove old c.best_of-best.result ≡ c.push.new.self.items ++ c.remove-place.new.self.items =
    sym (ap (λ xs. xs ++ c.remove-place.new.self.items) c.in_ok-push.ensures.items ∙ ap (λ ys. (c.loop-tied.order.items ++ c.remove-place.result ∷ []) ++ ys) c.remove-place.ensures.items) in
    subst (IsPermutation c.args.written.now) whole more
