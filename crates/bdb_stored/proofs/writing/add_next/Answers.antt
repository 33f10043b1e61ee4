use Rattle.std.proofs.Common.{Ok, Err, subst}
use Rattle.bdb_update.specs.Calls.{IsAdding}
use Rattle.bdb_worlds.proofs.StepsLemmas.{steps_ok}
use Rattle.bdb_stored.proofs.FrontLemmas.{is_added, not_already, not_clashing, not_full}
use Rattle.bdb_stored.proofs.WritingLemmas.{steps_failed, steps_stopped}
use Rattle.bdb_stored.proofs.writing.add_next.Goals as goal

pub returns-in-Ok-New-clause-added : goal.returns-in-Ok-New-clause-added
returns-in-Ok-New-clause-added g c b may =
    let old = g.K.Keeper.seen c.args.keeper.now in
    let new = g.K.Keeper.seen c.add_statement.new.keeper in
    let x = c.args.stmt.now in
    is_added b x old new c.args.counts.now c.add_statement.new.counts may
    (subst (λ a. IsAdding b x old new c.args.counts.now c.add_statement.new.counts (Ok a)) c.in-Ok-New.field-0-is (c.in-Ok-New.ensures.added b may.meet))

pub returns-in-Ok-New-clause-steps : goal.returns-in-Ok-New-clause-steps
returns-in-Ok-New-clause-steps g c =
    let old = g.K.Keeper.seen c.args.keeper.now in
    let new = g.K.Keeper.seen c.add_statement.new.keeper in
    let may = c.requires.base.may in
    let b = c.requires.base.base in
    let x = c.args.stmt.now in
    steps_ok old new _ _ (subst (λ a. IsAdding b x old new c.args.counts.now c.add_statement.new.counts (Ok a)) c.in-Ok-New.field-0-is (c.in-Ok-New.ensures.added b may.meet)).becomes.goes_on

pub unreachable-requires : goal.unreachable-requires
unreachable-requires g c =
    let old = g.K.Keeper.seen c.args.keeper.now in
    let new = g.K.Keeper.seen c.add_statement.new.keeper in
    let may = c.requires.base.may in
    let b = c.requires.base.base in
    let x = c.args.stmt.now in
    not_already b x old new c.args.counts.now c.add_statement.new.counts may
    (subst (λ a. IsAdding b x old new c.args.counts.now c.add_statement.new.counts (Ok a)) c.in-Ok-Already.field-0-is (c.in-Ok-Already.ensures.added b may.meet))

pub unreachable-requires-in-Err-Clash : goal.unreachable-requires-in-Err-Clash
unreachable-requires-in-Err-Clash g c =
    let old = g.K.Keeper.seen c.args.keeper.now in
    let new = g.K.Keeper.seen c.add_statement.new.keeper in
    let may = c.requires.base.may in
    let b = c.requires.base.base in
    let x = c.args.stmt.now in
    not_clashing b x old new c.args.counts.now c.add_statement.new.counts may c.in-Err-Clash.field-0-0
    (subst (λ e. IsAdding b x old new c.args.counts.now c.add_statement.new.counts (Err e)) c.in-Err-Clash.field-0-is (c.in-Err-Clash.ensures.added b may.meet))

pub unreachable-requires-in-Err-Full : goal.unreachable-requires-in-Err-Full
unreachable-requires-in-Err-Full g c =
    let old = g.K.Keeper.seen c.args.keeper.now in
    let new = g.K.Keeper.seen c.add_statement.new.keeper in
    let may = c.requires.base.may in
    let b = c.requires.base.base in
    let x = c.args.stmt.now in
    not_full b x old new c.args.counts.now c.add_statement.new.counts may c.in-Err-Full.field-0-0
    (subst (λ e. IsAdding b x old new c.args.counts.now c.add_statement.new.counts (Err e)) c.in-Err-Full.field-0-is (c.in-Err-Full.ensures.added b may.meet))

pub returns-in-Err-Fault-clause-steps : goal.returns-in-Err-Fault-clause-steps
returns-in-Err-Fault-clause-steps g c =
    let old = g.K.Keeper.seen c.args.keeper.now in
    let new = g.K.Keeper.seen c.add_statement.new.keeper in
    let may = c.requires.base.may in
    let b = c.requires.base.base in
    let x = c.args.stmt.now in
    steps_failed old new c.args.counts.now c.add_statement.new.counts c.in-Err-Fault.ensures.counts
    (subst (λ e. IsAdding b x old new c.args.counts.now c.add_statement.new.counts (Err e)) c.in-Err-Fault.field-0-is (c.in-Err-Fault.ensures.added b may.meet))

pub returns-clause-steps : goal.returns-clause-steps
returns-clause-steps g c =
    let old = g.K.Keeper.seen c.args.keeper.now in
    let new = g.K.Keeper.seen c.add_statement.new.keeper in
    let may = c.requires.base.may in
    let b = c.requires.base.base in
    let x = c.args.stmt.now in
    steps_stopped old new c.args.counts.now c.add_statement.new.counts c.in-Err-Memory.ensures.counts
    (subst (λ e. IsAdding b x old new c.args.counts.now c.add_statement.new.counts (Err e)) c.in-Err-Memory.field-0-is (c.in-Err-Memory.ensures.added b may.meet))
