use Rattle.std.proofs.Common.{subst, sym}
use Rattle.bdb_multi.specs.declared.kinds.Act.{Act}
use Rattle.bdb_crowd.specs.Due.{IsDone, IsWaiting, due_to}
use Rattle.bdb_crowd.proofs.ActLemmas.{aborted_done, begun_done, err_batch_done, err_begun_done, err_not_begun_done, queued_done}
use Rattle.bdb_crowd.proofs.acts.answer_act.Goals as goal

pub returns-in-Begun-clause-done : goal.returns-in-Begun-clause-done
returns-in-Begun-clause-done g c = λ s a. begun_done s c.args.number c.args.act _ _ _ _ _ a c.in-Begun.is c.tell.ensures.told

pub returns-in-Queued-clause-done : goal.returns-in-Queued-clause-done
returns-in-Queued-clause-done g c = λ s a. queued_done s c.args.number c.args.act _ _ _ _ _ a c.in-Queued.is c.tell-in-Queued.ensures.told

pub returns-in-Aborted-clause-done : goal.returns-in-Aborted-clause-done
returns-in-Aborted-clause-done g c = λ s a. aborted_done s c.args.number c.args.act _ _ _ _ _ a c.in-Aborted.is c.tell-in-Aborted.ensures.told

pub returns-in-ErrBegun-clause-done : goal.returns-in-ErrBegun-clause-done
returns-in-ErrBegun-clause-done g c = λ s a. err_begun_done s c.args.number c.args.act _ _ _ _ _ a c.in-ErrBegun.is c.tell-in-ErrBegun.ensures.told

pub returns-in-ErrNotBegun-clause-done : goal.returns-in-ErrNotBegun-clause-done
returns-in-ErrNotBegun-clause-done g c = λ s a. err_not_begun_done s c.args.number c.args.act _ _ _ _ _ a c.in-ErrNotBegun.is c.tell-in-ErrNotBegun.ensures.told

pub returns-in-ErrBatch-clause-done : goal.returns-in-ErrBatch-clause-done
returns-in-ErrBatch-clause-done g c = λ s a. err_batch_done s c.args.number c.args.act _ _ _ _ _ a c.in-ErrBatch.is c.tell-in-ErrBatch.ensures.told

pub returns-in-One-clause-done : goal.returns-in-One-clause-done
returns-in-One-clause-done g c = λ s a.
    subst (λ (x : Act). IsDone s (due_to s c.args.number x) c.run_one.new.session (g.K.Keeper.seen c.args.keeper.now) (g.K.Keeper.seen c.run_one.new.keeper) (g.O.Sink.written c.args.out.now) (g.O.Sink.written c.run_one.new.out) c.run_one.result)
    (sym c.in-One.is) (c.run_one.ensures.done s a)

pub returns-in-Batch-clause-done : goal.returns-in-Batch-clause-done
returns-in-Batch-clause-done g c = λ s a.
    subst (λ (x : Act). IsDone s (due_to s c.args.number x) c.run_batch.new.session (g.K.Keeper.seen c.args.keeper.now) (g.K.Keeper.seen c.run_batch.new.keeper) (g.O.Sink.written c.args.out.now) (g.O.Sink.written c.run_batch.new.out) c.run_batch.result)
    (sym c.in-Batch.is) (c.run_batch.ensures.done s a)

pub run_batch-requires-clause-few : goal.run_batch-requires-clause-few
run_batch-requires-clause-few g c = subst IsWaiting c.in-Batch.is c.requires.few
