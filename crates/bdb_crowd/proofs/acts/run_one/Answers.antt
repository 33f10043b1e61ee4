use Rattle.std.proofs.Common.{◌≡◌, [], ◌∷◌, Err, ap, rules}
use Rattle.std.proofs.KnownBytes.{Appends-nil}
use Rattle.bdb_many.specs.Labels.{labelled}
use Rattle.bdb_multi.specs.declared.kinds.Act.TheVariants.{One}
use Rattle.bdb_crowd.proofs.ActLemmas.{one_done, one_part, still_here, unrun}
use Rattle.bdb_crowd.proofs.WriteLemmas.{part_as}
use Rattle.bdb_stream.proofs.HandledLemmas.{grows_as}
use Rattle.bdb_crowd.proofs.acts.run_one.Goals as goal

pub returns-in-Err-clause-done : goal.returns-in-Err-clause-done
returns-in-Err-clause-done g c = λ s a. (still_here s c.args.session.now (g.K.Keeper.seen c.args.keeper.now) a, Appends-nil (g.O.Sink.written c.args.out.now))

pub returns-in-Err-run-clause-done : goal.returns-in-Err-run-clause-done
returns-in-Err-run-clause-done g c = λ s a.
    unrun s (One c.args.command) c.args.number c.push.new.self c.run.new.session (g.K.Keeper.seen c.args.keeper.now) (g.K.Keeper.seen c.run.new.keeper) (g.O.Sink.written c.args.out.now)
    c.in-Err-run.stop (λ e. c.in-Err-run.ensures.sink (ap Err e)) (c.in-Err-run.ensures.run s a) (Appends-nil (g.O.Sink.written c.args.out.now))

pub returns-in-Ok-write_labelled-clause-done : goal.returns-in-Ok-write_labelled-clause-done
returns-in-Ok-write_labelled-clause-done g c = λ s a.
    let lines : c.push.new.self ≡ c.args.command ∷ [] = search rules in
    one_done s c.args.number c.args.command c.push.new.self c.run.new.session (g.K.Keeper.seen c.args.keeper.now) (g.K.Keeper.seen c.run.new.keeper) (g.O.Sink.written c.args.out.now) (g.O.Sink.written c.write_labelled.new.out) c.in-Ok-run.reply lines (c.in-Ok-run.ensures.run s a)
    (grows_as (g.O.Sink.written c.args.out.now) (g.O.Sink.written c.write_labelled.new.out) (labelled c.args.number c.as_slice.result.now) (labelled c.args.number c.in-Ok-run.reply.text) (ap (labelled c.args.number) c.as_slice.ensures) c.in-Ok-write_labelled.ensures.written)

pub returns-clause-done : goal.returns-clause-done
returns-clause-done g c = λ s a.
    let lines : c.push.new.self ≡ c.args.command ∷ [] = search rules in
    one_part s c.args.number c.args.command c.push.new.self c.run.new.session (g.K.Keeper.seen c.args.keeper.now) (g.K.Keeper.seen c.run.new.keeper) (g.O.Sink.written c.args.out.now) (g.O.Sink.written c.write_labelled.new.out) c.in-Ok-run.reply lines (c.in-Ok-run.ensures.run s a)
    (part_as (g.O.Sink.written c.args.out.now) (g.O.Sink.written c.write_labelled.new.out) (labelled c.args.number c.as_slice.result.now) (labelled c.args.number c.in-Ok-run.reply.text) (ap (labelled c.args.number) c.as_slice.ensures) c.in-Err-write_labelled.ensures.written)
