use Rattle.std.proofs.Common.{Err, Ok}
use Rattle.bdb_session.specs.declared.event.ScriptEvent.TheVariants as event
use Rattle.bdb_stream.proofs.AnswerLemmas.{answers_by}
use Rattle.bdb_stream.proofs.answers.answer_command.Goals as goal

pub returns-in-Ok-clause-answered : goal.returns-in-Ok-clause-answered
returns-in-Ok-clause-answered g c = λ s a.
    let told = c.apply-reply.ensures in
    answers_by s (event.Piece c.args.bytes.now) c.apply-reply.result c.args.session.now c.apply-reply.new.self (g.K.Keeper.seen c.args.keeper.now) (g.K.Keeper.seen c.apply-reply.new.keeper)
    (g.O.Sink.written c.args.out.now) (g.O.Sink.written c.tell.new.out) (Ok c.in-Ok.accepted) a (told.next s a) (told.commits s a) (told.accepted s a) (told.text s a) told.same told.err
    c.in-Ok.ensures.told

pub returns-in-Err-clause-answered : goal.returns-in-Err-clause-answered
returns-in-Err-clause-answered g c = λ s a.
    let told = c.apply-reply.ensures in
    answers_by s (event.Piece c.args.bytes.now) c.apply-reply.result c.args.session.now c.apply-reply.new.self (g.K.Keeper.seen c.args.keeper.now) (g.K.Keeper.seen c.apply-reply.new.keeper)
    (g.O.Sink.written c.args.out.now) (g.O.Sink.written c.tell.new.out) (Err c.in-Err.stop) a (told.next s a) (told.commits s a) (told.accepted s a) (told.text s a) told.same told.err
    c.in-Err.ensures.told

pub returns-in-Err-clause-keeper : goal.returns-in-Err-clause-keeper
returns-in-Err-clause-keeper g c = record { later = c.apply-reply.ensures.cause.later; rose = λ e. c.apply-reply.ensures.cause.rose (c.in-Err.ensures.keeper e) }
