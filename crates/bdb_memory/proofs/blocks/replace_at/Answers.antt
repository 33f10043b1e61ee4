use Rattle.std.proofs.Common.{◌≡◌, [], get_or, set, sym, ap, ◌∙◌, subst}
use Rattle.bdb_memory.specs.Blocks.{joined, entry_at, AreSorted}
use Rattle.bdb_memory.proofs.BlocksLemmas.{block-read, sorted-replaced, joined-replaced}
use Rattle.bdb_memory.proofs.blocks.replace_at.Goals as goal

pub returns : goal.returns
returns c =
    let bs = c.args.blocks.now.items in
    let i = c.args.spot.0 in
    let j = c.args.spot.1 in
    let read : c.index_mut.result.now ≡ get_or bs i [] = block-read bs i c.index_mut.result.now c.index_mut.ensures.value c.requires.there.block in
    let made : c.replace.new.self ≡ set (get_or bs i []) j ((entry_at (get_or bs i []) j).0, c.args.row) = c.replace.ensures.block ∙ ap (λ b. set b j ((entry_at b j).0, c.args.row)) read in
    record {
      sorted = subst (λ b. AreSorted (set bs i b)) (sym made) (sorted-replaced bs i j c.args.row c.requires.sorted c.requires.there);
      before = c.replace.ensures.before ∙ ap (λ b. (entry_at b j).1) read;
      entries = ap (λ b. joined (set bs i b)) made ∙ joined-replaced bs i j c.args.row c.requires.there;
    }
