use Rattle.std.proofs.Common.{rules}
use Rattle.bdb_keep.proofs.TableLemmas.{rest_lie}
use Rattle.bdb_memory.proofs.LedgerLemmas.{sound_by}
use Rattle.bdb_memory.proofs.ledger.Ledger.remove.Goals as goal

pub invariant_of-self : goal.invariant_of-self
invariant_of-self c = sound_by _ _ _ c.in-Ok.ensures.kept c.remove.ensures.last (rest_lie _ _ c.self.invariant.kept) c.self.invariant.last (search rules)
