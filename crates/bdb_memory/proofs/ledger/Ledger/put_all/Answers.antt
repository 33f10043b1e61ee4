use Rattle.std.proofs.Common.{◌∙◌, rules, ap}
use Rattle.bdb_memory.proofs.LedgerLemmas.{sound_by}
use Rattle.bdb_memory.proofs.ManyLemmas.{all_lie}
use Rattle.bdb_memory.proofs.ledger.Ledger.put_all.Goals as goal

pub invariant_of-self : goal.invariant_of-self
invariant_of-self c =
    sound_by _ _ _ c.in-Ok.ensures.kept c.put_all.ensures.last (all_lie c.args.tab _ c.args.span.now c.requires.table c.self.invariant.kept) c.self.invariant.last (search rules)

pub invariant_of-self-in-Err : goal.invariant_of-self-in-Err
invariant_of-self-in-Err c =
    sound_by _ _ _ (ap (λ h. h.kept) c.undo.ensures ∙ c.put_all.ensures.last) (ap (λ h. h.last) c.undo.ensures ∙ c.put_all.ensures.last) c.self.invariant.last c.self.invariant.last (search rules)
