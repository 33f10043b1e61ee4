use Rattle.std.proofs.Common.{rules, ap}
use Rattle.bdb_memory.proofs.LedgerLemmas.{sound_by}
use Rattle.bdb_memory.proofs.ledger.Ledger.commit.Goals as goal

pub invariant_of-self : goal.invariant_of-self
invariant_of-self c = sound_by _ _ _ (ap (λ h. h.kept) c.commit.ensures) (ap (λ h. h.last) c.commit.ensures) c.self.invariant.kept c.self.invariant.kept (search rules)
