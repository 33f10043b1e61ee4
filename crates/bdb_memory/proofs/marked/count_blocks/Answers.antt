use Rattle.std.proofs.Common.{ℕ, ◌+◌, take, sym, ap, ◌∙◌}
use Rattle.bdb_memory.specs.Blocks.{joined}
use Rattle.bdb_memory.specs.Tallies.{count_among}
use Rattle.bdb_memory.proofs.TallyLemmas.{count-block-more}
use Rattle.bdb_memory.proofs.marked.count_blocks.Goals as goal

pub loop-block-preserved : goal.loop-block-preserved
loop-block-preserved c =
    let before : ℕ = count_among c.args.tab c.args.end c.args.number (joined (take c.loop-block.block-index c.args.blocks.now)) in
    let more = c.in_ok-count_entries.ensures ∙ ap (count_among c.args.tab c.args.end c.args.number) (c.entries.ensures ∙ c.block-item.is) in
    c.in_ok-count.ensures ∙ ap (λ x. x + c.in_ok-count_entries.field-0) c.loop-block.invariant ∙ ap (λ x. before + x) more
    ∙ sym (count-block-more c.args.tab c.args.end c.args.number c.args.blocks.now c.loop-block.block-index c.block-item.result c.loop-block-test.true)
