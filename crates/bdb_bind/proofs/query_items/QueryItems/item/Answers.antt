use Rattle.std.proofs.Common.{◌≡◌, ◌∙◌, Some, None, sym, ap, rules, slice_index_or}
use Rattle.bdb_bind.specs.Scope.{item_place}
use Rattle.bdb_bind.proofs.AliasLemmas.{item_at_place, no_item}
use Rattle.bdb_bind.proofs.query_items.QueryItems.item.Goals as goal

pub returns-in-Some : goal.returns-in-Some
returns-in-Some c =
    let place : item_place c.args.self.now c.args.alias.now ≡ Some c.in-Some.at = search rules in
    let items : c.self.inside.items.now ≡ c.args.self.now = search rules in
    sym (item_at_place c.args.self.now c.args.alias.now c.in-Some.at c.index-self-at.result place
    ∙ ap (λ xs. Some (slice_index_or xs c.in-Some.at c.index-self-at.result)) (sym items))

pub returns-in-None : goal.returns-in-None
returns-in-None c =
    let place : item_place c.args.self.now c.args.alias.now ≡ None = search rules in
    sym (no_item c.args.self.now c.args.alias.now place)
