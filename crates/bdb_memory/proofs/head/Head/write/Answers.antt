use Rattle.bdb_memory.proofs.HeadsLemmas.{written}
use Rattle.bdb_memory.proofs.head.Head.write.Goals as goal

pub returns : goal.returns
returns c = written _ _ _ _ _ _ _ c.clear.ensures.items c.in_ok-extend_from_slice.ensures.items c.all_bytes.ensures c.truncate.ensures.items c.from.ensures
