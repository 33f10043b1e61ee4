use Rattle.std.proofs.Common.{Err, Ok, refl}
use Rattle.std.proofs.KnownBytes.{Appends-nil}
use Rattle.bdb_lex.specs.declared.token.Rest.TheVariants.{Nothing, Unfinished}
use Rattle.bdb_session.specs.declared.event.ScriptEvent.TheVariants as event
use Rattle.bdb_stream.specs.Carried.{by_session, session_in_order}
use Rattle.bdb_stream.proofs.HandledLemmas.{nothing_ends, one_ends}
use Rattle.bdb_stream.proofs.answers.SessionHandler.answer_rest.Goals as goal

pub returns-in-Nothing-clause-ends : goal.returns-in-Nothing-clause-ends
returns-in-Nothing-clause-ends g c = λ s at.
    (nothing_ends by_session session_in_order) s c.args.rest Nothing c.args.self.now (g.K.Keeper.seen c.args.keeper.now)
    (g.O.Sink.written c.args.out.now) (g.O.Sink.written c.args.out.now) c.in-Nothing.is refl at (Appends-nil (g.O.Sink.written c.args.out.now))

pub returns-in-Ok-clause-ends : goal.returns-in-Ok-clause-ends
returns-in-Ok-clause-ends g c = λ s at.
    (one_ends by_session session_in_order) s c.args.rest Unfinished event.Unfinished c.answer.new.session (g.K.Keeper.seen c.args.keeper.now) (g.K.Keeper.seen c.answer.new.keeper)
    (g.O.Sink.written c.args.out.now) (g.O.Sink.written c.answer.new.out) (Ok c.in-Ok.accepted) c.in-Unfinished.is refl (c.in-Ok.ensures.answered s at.agrees)

pub returns-in-Err-clause-ends : goal.returns-in-Err-clause-ends
returns-in-Err-clause-ends g c = λ s at.
    (one_ends by_session session_in_order) s c.args.rest Unfinished event.Unfinished c.answer.new.session (g.K.Keeper.seen c.args.keeper.now) (g.K.Keeper.seen c.answer.new.keeper)
    (g.O.Sink.written c.args.out.now) (g.O.Sink.written c.answer.new.out) (Err c.in-Err.stop) c.in-Unfinished.is refl (c.in-Err.ensures.answered s at.agrees)
