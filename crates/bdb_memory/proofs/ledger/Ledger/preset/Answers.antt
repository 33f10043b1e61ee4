use Rattle.std.proofs.Common.{rules, ap}
use Rattle.bdb_keep.proofs.TableLemmas.{put_lies}
use Rattle.bdb_memory.proofs.LedgerLemmas.{sound_by}
use Rattle.bdb_memory.proofs.ledger.Ledger.preset.Goals as goal
use Rattle.bdb_memory.proofs.ledger.Ledger.preset.Goals.{in-Ok, in-Err}

pub invariant_of-self : goal.invariant_of-self
invariant_of-self c =
    let lie = put_lies _ c.args.tab c.args.key.now c.args.row.now c.requires.table c.self.invariant.kept in
    elim c.match-preset.branch [
      | in-Ok w ↦ sound_by _ _ _ (ap (λ h. h.kept) w.in-Ok.ensures.ok) (ap (λ h. h.last) w.in-Ok.ensures.ok) lie lie (search rules)
      | in-Err w ↦ sound_by _ _ _ (ap (λ h. h.kept) w.in-Err.ensures.err) (ap (λ h. h.last) w.in-Err.ensures.err) c.self.invariant.kept c.self.invariant.kept (search rules)
    ]
