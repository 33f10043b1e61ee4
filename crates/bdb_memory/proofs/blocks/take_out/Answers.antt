use Rattle.std.proofs.Common.{◌≡◌, ◌<◌, ◌++◌, [], length, get_or, set, take, drop, suc, arith, sym, ap, ◌∙◌, subst}
use Rattle.bdb_memory.specs.Blocks.{joined, AreSorted}
use Rattle.bdb_memory.proofs.BlocksLemmas.{joined-alone, sorted-alone, joined-less, sorted-less, block-read}
use Rattle.bdb_memory.proofs.blocks.take_out.Goals as goal

pub returns-then-len-eq1 : goal.returns-then-len-eq1
returns-then-len-eq1 c =
    let bs = c.args.blocks.now.items in
    let one : length (get_or bs c.args.spot.0 []) ≡ 1 = ap length (sym (c.block_at.ensures ∙ ap (λ xs. get_or xs c.args.spot.0 []) c.deref.ensures.value)) ∙ sym c.len.ensures ∙ c.if-len-eq1.true in
    record {
      sorted = subst AreSorted (sym c.remove.ensures.items) (sorted-alone bs c.args.spot.0 c.args.spot.1 c.requires.sorted c.requires.there one);
      rest = ap joined c.remove.ensures.items ∙ joined-alone bs c.args.spot.0 c.args.spot.1 c.requires.there one;
    }

pub returns-else-len-eq1 : goal.returns-else-len-eq1
returns-else-len-eq1 c =
    let bs = c.args.blocks.now.items in
    let i = c.args.spot.0 in
    let j = c.args.spot.1 in
    let read : c.index_mut.result.now ≡ get_or bs i [] = block-read bs i c.index_mut.result.now c.index_mut.ensures.value c.requires.there.block in
    let made : c.remove-else-len-eq1.new.self ≡ take j (get_or bs i []) ++ drop (suc j) (get_or bs i []) = c.remove-else-len-eq1.ensures ∙ ap (λ b. take j b ++ drop (suc j) b) read in
    let count : c.len.result ≡ length (get_or bs i []) = c.len.ensures ∙ ap length (c.block_at.ensures ∙ ap (λ xs. get_or xs i []) c.deref.ensures.value) in
    let some = c.requires.there.index in
    let more : 1 < length (get_or bs i []) = omega (arith, count, some, c.if-len-eq1.false) in
    record {
      sorted = subst (λ b. AreSorted (set bs i b)) (sym made) (sorted-less bs i j c.requires.sorted c.requires.there more);
      rest = ap (λ b. joined (set bs i b)) made ∙ joined-less bs i j c.requires.there.block;
    }
