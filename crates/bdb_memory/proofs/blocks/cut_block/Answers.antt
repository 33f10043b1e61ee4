use Rattle.std.proofs.Common.{◌<◌, length, arith, refl, sym, subst}
use Rattle.bdb_memory.proofs.BlocksLemmas.{cut-made, block-read}
use Rattle.bdb_memory.proofs.blocks.cut_block.Goals as goal

pub returns-clause-ok : goal.returns-clause-ok
returns-clause-ok c =
    let h : c.args.at < length c.reserve.new.self.items = subst (λ xs. c.args.at < length xs) (sym c.in_ok-reserve.ensures.items) c.requires.block in
    cut-made c.args.blocks.now.items c.reserve.new.self.items _ _ c.args.at _ c.args.middle _ _ _ c.in-Ok.ensures.items (omega arith) refl c.in_ok-reserve.ensures.items c.in_ok-back.ensures.front c.in_ok-back.ensures.back
    (block-read c.reserve.new.self.items c.args.at c.index_mut.result.now c.index_mut.ensures.value h)
