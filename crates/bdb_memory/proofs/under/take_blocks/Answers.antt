use Rattle.std.proofs.Common.{◌≡◌, ◌≤◌, ◌+◌, ◌∙◌, [], drop, length, get_or, refl, sym, ap, subst, arith}
use Rattle.bdb_memory.proofs.UnderLemmas.{walked-first, rest-above, rest-ascends, walked-more, walked-past, walked-stopped, walked-all}
use Rattle.bdb_memory.proofs.under.take_blocks.Goals as goal

pub loop-at-init : goal.loop-at-init
loop-at-init c = walked-first c.args.opening.now c.args.blocks.now c.args.start.0 c.args.start.1 c.args.span.now c.requires.bound

pub entries_from-requires : goal.entries_from-requires
entries_from-requires c = subst (λ b. c.loop-at.index ≤ length b) (sym c.block_at.ensures) (c.loop-at.invariant.index c.loop-at-test.true)

pub take_entries-requires-clause-sorted : goal.take_entries-requires-clause-sorted
take_entries-requires-clause-sorted c =
    let is : c.entries_from.result.now ≡ drop c.loop-at.index (get_or c.args.blocks.now c.loop-at.at []) = c.entries_from.ensures ∙ ap (drop c.loop-at.index) c.block_at.ensures in
    rest-ascends c.args.blocks.now c.loop-at.at c.loop-at.index c.entries_from.result.now c.loop-at-test.true is c.requires.sorted.ascends

pub take_entries-requires-clause-above : goal.take_entries-requires-clause-above
take_entries-requires-clause-above c =
    let is : c.entries_from.result.now ≡ drop c.loop-at.index (get_or c.args.blocks.now c.loop-at.at []) = c.entries_from.ensures ∙ ap (drop c.loop-at.index) c.block_at.ensures in
    rest-above c.args.opening.now c.args.blocks.now c.loop-at.at c.loop-at.index c.entries_from.result.now c.args.span.now c.loop-at.span c.loop-at-test.true is c.loop-at.invariant

pub loop-at-preserved : goal.loop-at-preserved
loop-at-preserved c =
    let is : c.entries_from.result.now ≡ drop c.loop-at.index (get_or c.args.blocks.now c.loop-at.at []) = c.entries_from.ensures ∙ ap (drop c.loop-at.index) c.block_at.ensures in
    walked-more c.args.opening.now c.args.blocks.now c.loop-at.at c.loop-at.index c.entries_from.result.now c.args.span.now c.loop-at.span c.take_entries.new.span c.loop-at-test.true is c.loop-at.invariant c.in-Ok-true.ensures.rows
    (c.loop-at.at + 1) refl

pub returns-in-Ok-false-clause-rows : goal.returns-in-Ok-false-clause-rows
returns-in-Ok-false-clause-rows c =
    let is : c.entries_from.result.now ≡ drop c.loop-at.index (get_or c.args.blocks.now c.loop-at.at []) = c.entries_from.ensures ∙ ap (drop c.loop-at.index) c.block_at.ensures in
    walked-stopped c.args.opening.now c.args.blocks.now c.loop-at.at c.loop-at.index c.entries_from.result.now c.args.span.now c.loop-at.span c.take_entries.new.span c.loop-at-test.true is c.loop-at.invariant c.in-Ok-false.ensures.rows
    c.requires.sorted.ascends (c.in-Ok-false.ensures.past c.in-Ok-false.field-0-test)

pub returns-in-Ok-false-clause-past : goal.returns-in-Ok-false-clause-past
returns-in-Ok-false-clause-past c _ =
    let is : c.entries_from.result.now ≡ drop c.loop-at.index (get_or c.args.blocks.now c.loop-at.at []) = c.entries_from.ensures ∙ ap (drop c.loop-at.index) c.block_at.ensures in
    walked-past c.args.opening.now c.args.blocks.now c.loop-at.at c.loop-at.index c.entries_from.result.now c.args.span.now c.loop-at.span c.take_entries.new.span c.loop-at-test.true is c.loop-at.invariant c.in-Ok-false.ensures.rows
    c.requires.sorted.ascends (c.in-Ok-false.ensures.past c.in-Ok-false.field-0-test)

pub returns-clause-rows : goal.returns-clause-rows
returns-clause-rows c =
    let end : length c.args.blocks.now ≤ c.loop-at.at = omega (arith, c.loop-at-test.false) in
    walked-all c.args.opening.now c.args.blocks.now c.loop-at.at c.loop-at.index c.args.span.now c.loop-at.span end c.loop-at.invariant
