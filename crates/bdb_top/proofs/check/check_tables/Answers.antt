use Rattle.std.proofs.Common.{Err, ap, inl, inr, refl}
use Rattle.bdb_top.proofs.CheckLemmas.{checked_as, not_checked}
use Rattle.bdb_top.proofs.check.check_tables.Goals as goal
use Rattle.bdb_top.proofs.check.check_tables.Goals.{in-Ok, in-Err-Damaged, in-Err-Format, in-Err-Fault, in-Err-Memory}

pub returns-clause-checked : goal.returns-clause-checked
returns-clause-checked g c = elim c.match-decode.branch [
  | in-Ok w ↦
      checked_as _ _ _ _ _ _ (ap g.O.Sink.written w.out-is) w.result-is (w.tell.ensures.told (g.K.Keeper.seen c.args.keeper.now).kept (record { base = w.in-Ok.field-0; stand = w.in-Ok.ensures.base }))
  | in-Err-Damaged w ↦
      checked_as _ _ _ _ _ _ (ap g.O.Sink.written w.out-is) w.result-is (w.tell-in-Err-Damaged.ensures.told _ (w.in-Err-Damaged.ensures.damaged (ap Err w.in-Err-Damaged.field-0-is)))
  | in-Err-Format w ↦
      checked_as _ _ _ _ _ _ (ap g.O.Sink.written w.out-is) w.result-is
      (w.tell-in-Err-Format.ensures.told _ (w.in-Err-Format.ensures.format w.in-Err-Format.number (ap Err w.in-Err-Format.field-0-is)))
  | in-Err-Fault w ↦ checked_as _ _ _ _ _ _ (ap g.O.Sink.written w.out-is) w.result-is (not_checked _ _ 5 (inl refl))
  | in-Err-Memory w ↦ checked_as _ _ _ _ _ _ (ap g.O.Sink.written w.out-is) w.result-is (not_checked _ _ 6 (inr refl))
]
