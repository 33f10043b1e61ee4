use Rattle.std.proofs.Common.{◌≤◌, [], length, take, drop, subst, sym}
use Rattle.bdb_memory.specs.Entries.{IsAscending, AreBelow, NoneBelow}
use Rattle.bdb_memory.proofs.BlocksLemmas.{bound-found, ascending-block}
use Rattle.bdb_memory.proofs.finding.seek.Goals as goal

pub lower_bound-requires : goal.lower_bound-requires
lower_bound-requires c =
    subst IsAscending (sym c.block_at.ensures) (ascending-block c.args.blocks.now c.block_for-at.result [] c.requires.ascends c.block_for-at.ensures.block)

pub returns : goal.returns
returns c =
    let q = c.args.probe.now in
    bound-found q c.args.blocks.now c.block_for-at.result c.lower_bound.result c.requires c.block_for-at.ensures
    (subst (λ b. c.lower_bound.result ≤ length b) c.block_at.ensures c.lower_bound.ensures.within)
    (subst (λ b. AreBelow q (take c.lower_bound.result b)) c.block_at.ensures c.lower_bound.ensures.below)
    (subst (λ b. NoneBelow q (drop c.lower_bound.result b)) c.block_at.ensures c.lower_bound.ensures.above)
