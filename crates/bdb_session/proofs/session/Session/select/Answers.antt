use Rattle.std.proofs.Common.{refl}
use Rattle.bdb_session.proofs.QueryLemmas.{answers_tell, fault_tells, many_tell, no_memory_tells, plans_can_be_run}
use Rattle.bdb_session.proofs.ReadLemmas.{answers_read}
use Rattle.bdb_session.proofs.TellLemmas.{said_nothing, said_reads}
use Rattle.bdb_session.proofs.WithinLemmas.{memory_tells}
use Rattle.bdb_update.proofs.CallLemmas.{gone_itself}
use Rattle.bdb_session.proofs.session.Session.select.Goals as goal

pub run_plan-requires : goal.run_plan-requires
run_plan-requires g c = record { run = plans_can_be_run (g.K.Keeper.seen c.args.keeper.now).kept c.args.self.now c.requires.agrees }

pub returns-in-Err-clause-told : goal.returns-in-Err-clause-told
returns-in-Err-clause-told g c =
    let old = g.K.Keeper.seen c.args.keeper.now in
    memory_tells _ c.args.self.now c.args.self.now old old (g.K.Keeper.seen c.undo.new.self) (gone_itself old) c.undo.ensures.undone

pub returns-in-Ok-run_plan-clause-told : goal.returns-in-Ok-run_plan-clause-told
returns-in-Ok-run_plan-clause-told g c =
    let run = c.in-Ok-run_plan.ensures in
    answers_tell c.args.self.now c.args.query.now c.in-Ok.plan _ (g.K.Keeper.seen c.args.keeper.now) (g.K.Keeper.seen c.run_plan.new.keeper) (g.K.Keeper.seen c.tell_rows.new.keeper) c.tell_rows.result
    c.requires.agrees c.requires.fits c.in-Ok.ensures run.rows run.few run.execution c.tell_rows.ensures

pub returns-in-Ok-run_plan-clause-reads : goal.returns-in-Ok-run_plan-clause-reads
returns-in-Ok-run_plan-clause-reads g c =
    let mid = g.K.Keeper.seen c.run_plan.new.keeper in
    let new = g.K.Keeper.seen c.tell_rows.new.keeper in
    answers_read c.args.self.now c.args.query.now c.in-Ok.plan (g.K.Keeper.seen c.args.keeper.now) mid new c.tell_rows.result
    c.requires.fits c.in-Ok.ensures c.in-Ok-run_plan.ensures.reads (said_reads c.args.self.now.catalog _ mid new c.tell_rows.result (c.tell_rows.ensures c.requires.agrees.state))

pub returns-in-Ok-run_plan-clause-writes : goal.returns-in-Ok-run_plan-clause-writes
returns-in-Ok-run_plan-clause-writes g c =
    let run = c.in-Ok-run_plan.ensures.execution in
    said_nothing c.args.self.now.catalog _ (g.K.Keeper.seen c.args.keeper.now) (g.K.Keeper.seen c.run_plan.new.keeper) (g.K.Keeper.seen c.tell_rows.new.keeper) c.tell_rows.result
    run.ok.kept run.writes (c.tell_rows.ensures c.requires.agrees.state)

pub returns-in-Err-TooMany-clause-told : goal.returns-in-Err-TooMany-clause-told
returns-in-Err-TooMany-clause-told g c =
    let run = rw c.in-Err-TooMany.field-0-is at c.in-Err-TooMany.ensures in
    many_tell c.args.self.now c.args.query.now c.in-Ok.plan (g.K.Keeper.seen c.args.keeper.now) (g.K.Keeper.seen c.run_plan.new.keeper) (g.K.Keeper.seen c.refuse_within.new.keeper)
    c.refuse_within.result c.requires.agrees c.requires.fits c.in-Ok.ensures (run.many refl) run.execution c.refuse_within.ensures

pub returns-in-Err-TooMany-clause-reads : goal.returns-in-Err-TooMany-clause-reads
returns-in-Err-TooMany-clause-reads g c =
    let mid = g.K.Keeper.seen c.run_plan.new.keeper in
    let new = g.K.Keeper.seen c.refuse_within.new.keeper in
    let run = rw c.in-Err-TooMany.field-0-is at c.in-Err-TooMany.ensures in
    answers_read c.args.self.now c.args.query.now c.in-Ok.plan (g.K.Keeper.seen c.args.keeper.now) mid new c.refuse_within.result
    c.requires.fits c.in-Ok.ensures (run.reads_many refl) (said_reads c.args.self.now.catalog _ mid new c.refuse_within.result c.refuse_within.ensures)

pub returns-in-Err-TooMany-clause-writes : goal.returns-in-Err-TooMany-clause-writes
returns-in-Err-TooMany-clause-writes g c =
    let run = rw c.in-Err-TooMany.field-0-is at c.in-Err-TooMany.ensures in
    said_nothing c.args.self.now.catalog _ (g.K.Keeper.seen c.args.keeper.now) (g.K.Keeper.seen c.run_plan.new.keeper) (g.K.Keeper.seen c.refuse_within.new.keeper) c.refuse_within.result
    (run.execution.many refl).kept run.execution.writes c.refuse_within.ensures

pub returns-in-Err-Fault-clause-told : goal.returns-in-Err-Fault-clause-told
returns-in-Err-Fault-clause-told g c =
    let run = rw c.in-Err-Fault.field-0-is at c.in-Err-Fault.ensures in
    fault_tells _ c.args.self.now (g.K.Keeper.seen c.args.keeper.now) (g.K.Keeper.seen c.run_plan.new.keeper) run.execution

pub returns-clause-told : goal.returns-clause-told
returns-clause-told g c =
    let run = rw c.in-Err-Memory.field-0-is at c.in-Err-Memory.ensures in
    no_memory_tells _ c.args.self.now (g.K.Keeper.seen c.args.keeper.now) (g.K.Keeper.seen c.run_plan.new.keeper) run.execution
