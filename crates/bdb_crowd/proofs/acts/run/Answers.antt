use Rattle.bdb_session.specs.Outcome.{start_from}
use Rattle.bdb_crowd.proofs.ActLemmas.{accepted_few, run_by, stays}
use Rattle.bdb_crowd.proofs.acts.run.Goals as goal

pub returns-in-Ok-clause-run : goal.returns-in-Ok-clause-run
returns-in-Ok-clause-run g c = λ s a.
    let told = c.in-Ok.ensures in
    run_by s c.args.commands.now c.in-Ok.reply c.apply_batch.new.self (g.K.Keeper.seen c.args.keeper.now) (g.K.Keeper.seen c.apply_batch.new.keeper)
    (told.refused s a) (told.accepted s a) (told.text s a) (told.next s a) (told.commits s a)

pub returns-in-Ok-clause-few : goal.returns-in-Ok-clause-few
returns-in-Ok-clause-few g c =
    let some = c.requires.agrees in
    let state = start_from some.timeline.now in
    accepted_few state c.args.commands.now c.in-Ok.reply.accepted (c.in-Ok.ensures.accepted state some.remembers.agrees) c.requires.few

pub returns-in-Err-Fault-clause-run : goal.returns-in-Err-Fault-clause-run
returns-in-Err-Fault-clause-run g c = λ s a. stays s c.args.session.now c.apply_batch.new.self _ _ c.in-Err-Fault.ensures.same c.in-Err-Fault.ensures.err a

pub returns-in-Err-Memory-clause-run : goal.returns-in-Err-Memory-clause-run
returns-in-Err-Memory-clause-run g c = λ s a. stays s c.args.session.now c.apply_batch.new.self _ _ c.in-Err-Memory.ensures.same c.in-Err-Memory.ensures.err a
