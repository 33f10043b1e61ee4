use Rattle.std.proofs.Common.{ℕ, ◌+◌, take, sym, ap, ◌∙◌}
use Rattle.bdb_memory.specs.Blocks.{joined}
use Rattle.bdb_memory.specs.Tallies.{count_among}
use Rattle.bdb_memory.proofs.TallyLemmas.{count-block-more}
use Rattle.bdb_memory.proofs.marked.count_shelves.Goals as goal

pub loop-shelf-preserved : goal.loop-shelf-preserved
loop-shelf-preserved c =
    let before : ℕ = count_among c.args.tab c.args.end c.args.number (joined (take c.loop-shelf.shelf-index c.args.shelves.now)) in
    let more = c.in_ok-count_blocks.ensures ∙ ap (count_among c.args.tab c.args.end c.args.number) (c.blocks-in-loop-shelf.ensures ∙ c.shelf-item.is) in
    c.in_ok-count.ensures ∙ ap (λ x. x + c.in_ok-count_blocks.field-0) c.loop-shelf.invariant ∙ ap (λ x. before + x) more
    ∙ sym (count-block-more c.args.tab c.args.end c.args.number c.args.shelves.now c.loop-shelf.shelf-index c.shelf-item.result c.loop-shelf-test.true)
