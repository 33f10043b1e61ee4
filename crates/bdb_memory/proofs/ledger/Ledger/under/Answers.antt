use Rattle.std.proofs.Common.{rules, ap}
use Rattle.bdb_memory.proofs.LedgerLemmas.{sound_by}
use Rattle.bdb_memory.proofs.ledger.Ledger.under.Goals as goal

pub invariant_of-self : goal.invariant_of-self
invariant_of-self c = sound_by _ _ _ (ap (λ h. h.kept) c.under.ensures.same) (ap (λ h. h.last) c.under.ensures.same) c.self.invariant.kept c.self.invariant.last (search rules)

pub invariant_of-self-in-Err : goal.invariant_of-self-in-Err
invariant_of-self-in-Err c = sound_by _ _ _ (ap (λ h. h.kept) c.under.ensures.same) (ap (λ h. h.last) c.under.ensures.same) c.self.invariant.kept c.self.invariant.last (search rules)
