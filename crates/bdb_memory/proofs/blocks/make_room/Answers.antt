use Rattle.std.proofs.Common.{◌<◌, ◌+◌, ◌-◌, [], length, get_or, arith, sym, ap, ◌∙◌, subst}
use Rattle.bdb_memory.specs.Blocks.{joined, AreSorted}
use Rattle.bdb_memory.proofs.BlocksLemmas.{joined-cut, sorted-cut, IsMoved, moved-front, moved-back}
use Rattle.bdb_memory.proofs.blocks.make_room.Goals as goal

pub returns-then-spot-middle : goal.returns-then-spot-middle
returns-then-spot-middle c =
    let bs = c.args.blocks.now.items in
    let h = c.middle_for-middle.result in
    let full : h < length (get_or bs c.args.spot.0 []) = subst (λ b. h < length b) (c.block_at.ensures ∙ ap (λ xs. get_or xs c.args.spot.0 []) c.deref.ensures.value) (omega arith) in
    let moved : IsMoved bs c.cut_block.new.blocks.items c.args.spot.0 c.args.spot.1 c.args.spot.0 c.args.spot.1 =
    moved-front bs c.cut_block.new.blocks.items c.args.spot.0 c.args.spot.1 h c.in_ok-cut_block.ensures.ok c.requires.block c.if-spot-middle.true full in
    record {
      sorted = subst AreSorted (sym c.in_ok-cut_block.ensures.ok) (sorted-cut bs c.args.spot.0 h c.requires.sorted c.requires.block (omega arith) full);
      same = ap joined c.in_ok-cut_block.ensures.ok ∙ joined-cut bs c.args.spot.0 h c.requires.block;
      block = moved.block;
      index = moved.index;
      before = moved.before_same;
      after = moved.after_same;
    }

pub returns-else-spot-middle : goal.returns-else-spot-middle
returns-else-spot-middle c =
    let bs = c.args.blocks.now.items in
    let h = c.middle_for-middle.result in
    let full : h < length (get_or bs c.args.spot.0 []) = subst (λ b. h < length b) (c.block_at.ensures ∙ ap (λ xs. get_or xs c.args.spot.0 []) c.deref.ensures.value) (omega arith) in
    let moved : IsMoved bs c.cut_block.new.blocks.items c.args.spot.0 c.args.spot.1 (c.args.spot.0 + 1) (c.args.spot.1 - h) =
    moved-back bs c.cut_block.new.blocks.items c.args.spot.0 c.args.spot.1 h (c.args.spot.0 + 1) c.in_ok-cut_block.ensures.ok c.requires.block (omega arith) c.requires.index full (omega arith) in
    record {
      sorted = subst AreSorted (sym c.in_ok-cut_block.ensures.ok) (sorted-cut bs c.args.spot.0 h c.requires.sorted c.requires.block (omega arith) full);
      same = ap joined c.in_ok-cut_block.ensures.ok ∙ joined-cut bs c.args.spot.0 h c.requires.block;
      block = moved.block;
      index = moved.index;
      before = moved.before_same;
      after = moved.after_same;
    }
