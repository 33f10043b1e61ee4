use Rattle.std.proofs.Common.{◌≡◌, ◌<◌, ◌+◌, ◌++◌, length, map, take, drop, set, sym, ap, ◌∙◌, subst, rules}
use Rattle.std.proofs.lemmas.List.Edits.{map_over_more}
use Rattle.bdb_memory.specs.Blocks.{without_empty}
use Rattle.bdb_memory.proofs.shelves.drop_empty_places.Goals as goal

pub loop-shelf-preserved : goal.loop-shelf-preserved
loop-shelf-preserved c =
    let within : c.loop-shelf.shelf-index < length c.args.shelves.now.items = search rules in
    subst (λ b. set c.loop-shelf.shelf-items c.loop-shelf.shelf-index b ≡ map without_empty (take (c.loop-shelf.shelf-index + 1) c.args.shelves.now.items) ++ drop (c.loop-shelf.shelf-index + 1) c.args.shelves.now.items)
    (sym (c.drop_empty.ensures ∙ ap without_empty (sym c.shelf-item.is)))
    (map_over_more without_empty c.args.shelves.now.items c.loop-shelf.shelf-items c.loop-shelf.shelf-index c.shelf-item.result within c.loop-shelf.invariant c.shelf-item.is)
