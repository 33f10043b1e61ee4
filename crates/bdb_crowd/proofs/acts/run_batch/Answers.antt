use Rattle.std.proofs.Common.{Err, ap}
use Rattle.std.proofs.KnownBytes.{Appends-nil}
use Rattle.bdb_multi.specs.declared.kinds.Act.TheVariants.{Batch}
use Rattle.bdb_crowd.proofs.ActLemmas.{batch_done, batch_part, unrun}
use Rattle.bdb_crowd.proofs.acts.run_batch.Goals as goal

pub returns-in-Err-clause-done : goal.returns-in-Err-clause-done
returns-in-Err-clause-done g c = λ s a.
    unrun s (Batch c.args.commands.now) c.args.number c.args.commands.now c.run.new.session (g.K.Keeper.seen c.args.keeper.now) (g.K.Keeper.seen c.run.new.keeper) (g.O.Sink.written c.args.out.now)
    c.in-Err.stop (λ e. c.in-Err.ensures.sink (ap Err e)) (c.in-Err.ensures.run s a) (Appends-nil (g.O.Sink.written c.args.out.now))

pub returns-in-Ok-write_batch-clause-done : goal.returns-in-Ok-write_batch-clause-done
returns-in-Ok-write_batch-clause-done g c = λ s a.
    batch_done s c.args.number c.args.commands.now c.run.new.session (g.K.Keeper.seen c.args.keeper.now) (g.K.Keeper.seen c.run.new.keeper) (g.O.Sink.written c.args.out.now) (g.O.Sink.written c.write_batch.new.out)
    c.in-Ok.reply c.len.result (c.in-Ok.ensures.run s a) c.len.ensures c.in-Ok-write_batch.ensures.written

pub returns-clause-done : goal.returns-clause-done
returns-clause-done g c = λ s a.
    batch_part s c.args.number c.args.commands.now c.run.new.session (g.K.Keeper.seen c.args.keeper.now) (g.K.Keeper.seen c.run.new.keeper) (g.O.Sink.written c.args.out.now) (g.O.Sink.written c.write_batch.new.out)
    c.in-Ok.reply c.len.result (c.in-Ok.ensures.run s a) c.len.ensures c.in-Err-write_batch.ensures.written
