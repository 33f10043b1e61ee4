use Rattle.bdb_memory.proofs.HeadsLemmas.{head_tells}
use Rattle.bdb_memory.proofs.words.Probe.compare_head.Goals as goal

pub returns : goal.returns
returns c place h n = head_tells place c.args.self.now c.args.head.now c.self.inside.head c.self.inside.rest.now _ c.self.view_is c.self.invariant c.compare.ensures h n
