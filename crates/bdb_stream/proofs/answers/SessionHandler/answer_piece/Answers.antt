use Rattle.std.proofs.Common.{Err, Ok}
use Rattle.bdb_stream.proofs.AnswerLemmas.{at_some, command_answers, long_answers}
use Rattle.bdb_stream.proofs.answers.SessionHandler.answer_piece.Goals as goal

pub returns-in-Ok-clause-answered : goal.returns-in-Ok-clause-answered
returns-in-Ok-clause-answered g c = λ s at.
    command_answers s c.args.piece.now c.answer_command.new.session (g.K.Keeper.seen c.args.keeper.now) (g.K.Keeper.seen c.answer_command.new.keeper)
    (g.O.Sink.written c.args.out.now) (g.O.Sink.written c.answer_command.new.out) (Ok c.in-Ok.accepted) c.as_slice.result.now c.in-Cmd.bytes c.in-Cmd.is c.as_slice.ensures (c.in-Ok.ensures.answered s at.agrees)

pub returns-in-Err-clause-answered : goal.returns-in-Err-clause-answered
returns-in-Err-clause-answered g c = λ s at.
    command_answers s c.args.piece.now c.answer_command.new.session (g.K.Keeper.seen c.args.keeper.now) (g.K.Keeper.seen c.answer_command.new.keeper)
    (g.O.Sink.written c.args.out.now) (g.O.Sink.written c.answer_command.new.out) (Err c.in-Err.stop) c.as_slice.result.now c.in-Cmd.bytes c.in-Cmd.is c.as_slice.ensures (c.in-Err.ensures.answered s at.agrees)

pub returns-in-Ok-answer-clause-answered : goal.returns-in-Ok-answer-clause-answered
returns-in-Ok-answer-clause-answered g c = λ s at.
    long_answers s c.args.piece.now c.answer.new.session (g.K.Keeper.seen c.args.keeper.now) (g.K.Keeper.seen c.answer.new.keeper)
    (g.O.Sink.written c.args.out.now) (g.O.Sink.written c.answer.new.out) (Ok c.in-Ok-answer.accepted) c.in-Long.is (c.in-Ok-answer.ensures.answered s at.agrees)

pub returns-in-Err-answer-clause-answered : goal.returns-in-Err-answer-clause-answered
returns-in-Err-answer-clause-answered g c = λ s at.
    long_answers s c.args.piece.now c.answer.new.session (g.K.Keeper.seen c.args.keeper.now) (g.K.Keeper.seen c.answer.new.keeper)
    (g.O.Sink.written c.args.out.now) (g.O.Sink.written c.answer.new.out) (Err c.in-Err-answer.stop) c.in-Long.is (c.in-Err-answer.ensures.answered s at.agrees)

pub returns-in-Ok-clause-at : goal.returns-in-Ok-clause-at
returns-in-Ok-clause-at g c = at_some (g.K.Keeper.seen c.answer_command.new.keeper).kept c.answer_command.new.session c.in-Ok.ensures.agrees

pub returns-in-Ok-answer-clause-at : goal.returns-in-Ok-answer-clause-at
returns-in-Ok-answer-clause-at g c = at_some (g.K.Keeper.seen c.answer.new.keeper).kept c.answer.new.session c.in-Ok-answer.ensures.agrees
