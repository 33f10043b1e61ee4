use Rattle.std.proofs.Common.{rules, ap}
use Rattle.bdb_keep.proofs.TableLemmas.{rest_lie}
use Rattle.bdb_memory.proofs.LedgerLemmas.{sound_by}
use Rattle.bdb_memory.proofs.ledger.Ledger.unset.Goals as goal

pub invariant_of-self : goal.invariant_of-self
invariant_of-self c = sound_by _ _ _ (ap (λ h. h.kept) c.unset.ensures) (ap (λ h. h.last) c.unset.ensures) (rest_lie _ _ c.self.invariant.kept) (rest_lie _ _ c.self.invariant.kept) (search rules)
