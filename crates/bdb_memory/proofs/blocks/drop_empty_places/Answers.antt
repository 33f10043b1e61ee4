use Rattle.std.proofs.Common.{◌≡◌, ◌<◌, ◌+◌, ◌++◌, length, map, take, drop, set, sym, ap, ◌∙◌, subst, rules}
use Rattle.std.proofs.lemmas.List.Edits.{map_over_more}
use Rattle.bdb_memory.specs.Blocks.{without_empty}
use Rattle.bdb_memory.proofs.blocks.drop_empty_places.Goals as goal

pub loop-block-preserved : goal.loop-block-preserved
loop-block-preserved c =
    let within : c.loop-block.block-index < length c.args.blocks.now.items = search rules in
    subst (λ b. set c.loop-block.block-items c.loop-block.block-index b ≡ map without_empty (take (c.loop-block.block-index + 1) c.args.blocks.now.items) ++ drop (c.loop-block.block-index + 1) c.args.blocks.now.items)
    (sym (c.drop_empty.ensures ∙ ap without_empty (sym c.block-item.is)))
    (map_over_more without_empty c.args.blocks.now.items c.loop-block.block-items c.loop-block.block-index c.block-item.result within c.loop-block.invariant c.block-item.is)
