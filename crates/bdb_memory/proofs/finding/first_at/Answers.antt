use Rattle.std.proofs.Common.{◌≡◌, ◌≤◌, ◌+◌, [], length, get_or, suc, arith, sym, ap, ◌∙◌, subst}
use Rattle.bdb_memory.specs.Blocks.{before, after}
use Rattle.bdb_memory.proofs.BlocksLemmas.{after-end, after-next, before-next, full-at, entry-length}
use Rattle.bdb_memory.proofs.finding.first_at.Goals as goal

pub returns-then-spot-blocks-clause-none : goal.returns-then-spot-blocks-clause-none
returns-then-spot-blocks-clause-none c = after-end c.args.blocks.now c.args.spot.0 c.args.spot.1 c.if-spot-blocks.true

pub returns-then-spot-blocks-2-clause-none : goal.returns-then-spot-blocks-2-clause-none
returns-then-spot-blocks-2-clause-none c =
    let past : length (get_or c.args.blocks.now c.args.spot.0 []) ≤ c.args.spot.1 = subst (λ b. length b ≤ c.args.spot.1) c.block_at.ensures (omega arith) in
    after-next c.args.blocks.now c.args.spot.0 c.args.spot.1 c.if-spot-blocks.false past ∙ after-end c.args.blocks.now (suc c.args.spot.0) 0 (omega arith)

pub returns-clause-there : goal.returns-clause-there
returns-clause-there c = record {
  block = c.if-spot-blocks-2.false;
  index = entry-length (get_or c.args.blocks.now (c.args.spot.0 + 1) []) (full-at c.args.blocks.now (c.args.spot.0 + 1) c.requires c.if-spot-blocks-2.false);
}

pub returns-clause-before : goal.returns-clause-before
returns-clause-before c =
    let past : length (get_or c.args.blocks.now c.args.spot.0 []) ≤ c.args.spot.1 = subst (λ b. length b ≤ c.args.spot.1) c.block_at.ensures (omega arith) in
    let next : c.args.spot.0 + 1 ≡ suc c.args.spot.0 = omega arith in
    ap (λ n. before c.args.blocks.now n 0) next ∙ sym (before-next c.args.blocks.now c.args.spot.0 c.args.spot.1 c.if-spot-blocks.false past)

pub returns-clause-after : goal.returns-clause-after
returns-clause-after c =
    let past : length (get_or c.args.blocks.now c.args.spot.0 []) ≤ c.args.spot.1 = subst (λ b. length b ≤ c.args.spot.1) c.block_at.ensures (omega arith) in
    let next : c.args.spot.0 + 1 ≡ suc c.args.spot.0 = omega arith in
    ap (λ n. after c.args.blocks.now n 0) next ∙ sym (after-next c.args.blocks.now c.args.spot.0 c.args.spot.1 c.if-spot-blocks.false past)
