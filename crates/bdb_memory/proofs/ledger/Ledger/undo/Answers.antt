use Rattle.std.proofs.Common.{rules, ap}
use Rattle.bdb_memory.proofs.LedgerLemmas.{sound_by}
use Rattle.bdb_memory.proofs.ledger.Ledger.undo.Goals as goal

pub invariant_of-self : goal.invariant_of-self
invariant_of-self c = sound_by _ _ _ (ap (λ h. h.kept) c.undo.ensures) (ap (λ h. h.last) c.undo.ensures) c.self.invariant.last c.self.invariant.last (search rules)
