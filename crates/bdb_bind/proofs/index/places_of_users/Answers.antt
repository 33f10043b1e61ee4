use Rattle.std.proofs.Common.{◌∙◌, ℕ, List, sym, ap, arith}
use Rattle.bdb_bind.specs.Indexes.{or_slot}
use Rattle.bdb_bind.proofs.IndexLemmas.{users_more}
use Rattle.bdb_bind.proofs.index.places_of_users.Goals as goal

pub loop-at-preserved : goal.loop-at-preserved
loop-at-preserved c = λ (q : List ℕ).
    let user = c.index-users-at.result in
    c.in_ok-add_slot.ensures q ∙ ap (λ o. or_slot o user c.loop-at.at q) (c.loop-at.invariant q)
    ∙ sym (users_more c.args.users.now c.loop-at.at user q (omega arith) c.index-users-at.is)
