use Rattle.std.proofs.Common.{◌+◌, ◌<◌, length, sym, subst, arith}
use Rattle.bdb_memory.specs.Blocks.{HasEntry}
use Rattle.bdb_memory.proofs.BlocksLemmas.{full-at}
use Rattle.bdb_memory.proofs.finding.block_for.Goals as goal

pub begins_within-requires : goal.begins_within-requires
begins_within-requires c =
    let h : c.loop-step.at + c.loop-step.step < length c.args.blocks.now = omega arith in
    subst HasEntry (sym c.block_at.ensures) (full-at c.args.blocks.now (c.loop-step.at + c.loop-step.step) c.requires.full h)
