use Rattle.bdb_memory.proofs.HeadsLemmas.{head_of_entry}
use Rattle.bdb_memory.proofs.entry.Entry.head.Goals as goal

pub returns : goal.returns
returns c = head_of_entry c.head_with.result _ _ _ c.args.self.now c.head_with.ensures c.self.view_is c.self.invariant
