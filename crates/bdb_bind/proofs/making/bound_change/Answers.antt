use Rattle.std.proofs.Common.{◌≡◌, ◌<◌, length, ap, subst, rules}
use Rattle.bdb_bind.specs.Parts.{relation_name, tuple_values}
use Rattle.bdb_bind.proofs.CatalogLemmas.{values_filled}
use Rattle.bdb_bind.proofs.making.bound_change.Goals as goal

pub bound_insert-requires-clause-filled : goal.bound_insert-requires-clause-filled
bound_insert-requires-clause-filled c =
    let taken : c.in-Insert.vals ≡ c.replace-vals.result = search rules in
    subst (λ vals. 0 < length vals) taken
    (values_filled c.args.catalog.now c.args.command.now c.in-Insert.rel c.in-Insert.vals c.requires.catalog (ap relation_name c.in-Insert.is) (ap tuple_values c.in-Insert.is) c.requires.accepted)

pub bound_why-requires-clause-filled : goal.bound_why-requires-clause-filled
bound_why-requires-clause-filled c =
    let taken : c.in-Why.vals ≡ c.replace-vals-in-Why.result = search rules in
    subst (λ vals. 0 < length vals) taken
    (values_filled c.args.catalog.now c.args.command.now c.in-Why.rel c.in-Why.vals c.requires.catalog (ap relation_name c.in-Why.is) (ap tuple_values c.in-Why.is) c.requires.accepted)
