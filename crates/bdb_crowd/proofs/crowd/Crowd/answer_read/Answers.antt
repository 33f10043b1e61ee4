use Rattle.std.proofs.Common.{true, Ok, refl, subst, sym}
use Rattle.std.proofs.KnownBytes.{Appends-nil}
use Rattle.bdb_events.specs.declared.read.Read.{Read}
use Rattle.bdb_crowd.specs.Asked.{piece}
use Rattle.bdb_crowd.specs.Carried.{TellsAnswer}
use Rattle.bdb_crowd.proofs.ActLemmas.{long_answers, named, no_line_answers, no_session_answers, nothing_answers, some_timeline}
use Rattle.bdb_crowd.proofs.crowd.Crowd.answer_read.Goals as goal

pub returns-in-Nothing-clause-answered : goal.returns-in-Nothing-clause-answered
returns-in-Nothing-clause-answered g c = λ p a. nothing_answers p c.args.read c.args.self.now (g.K.Keeper.seen c.args.keeper.now) (g.O.Sink.written c.args.out.now) (g.O.Sink.written c.args.out.now) (Ok true) a c.in-Nothing.is (refl, Appends-nil (g.O.Sink.written c.args.out.now))

pub returns-in-Long-clause-answered : goal.returns-in-Long-clause-answered
returns-in-Long-clause-answered g c = λ p a. long_answers p c.args.read _ _ _ _ _ a c.in-Long.is c.tell_error.ensures.told

pub returns-in-NoSession-clause-answered : goal.returns-in-NoSession-clause-answered
returns-in-NoSession-clause-answered g c = λ p a. no_session_answers p c.args.read _ _ _ _ _ a c.in-NoSession.is c.tell_error-in-NoSession.ensures.told

pub returns-in-NoLine-clause-answered : goal.returns-in-NoLine-clause-answered
returns-in-NoLine-clause-answered g c = λ p a. no_line_answers p c.args.read _ _ _ _ _ a c.in-NoLine.number c.in-NoLine.is c.tell.ensures.told

pub returns-in-Event-clause-answered : goal.returns-in-Event-clause-answered
returns-in-Event-clause-answered g c = λ p a.
    subst (λ (r : Read). TellsAnswer p (piece r) c.answer_event.new.self (g.K.Keeper.seen c.args.keeper.now) (g.K.Keeper.seen c.answer_event.new.keeper) (g.O.Sink.written c.args.out.now) (g.O.Sink.written c.answer_event.new.out) c.answer_event.result)
    (sym c.in-Event.is) (c.answer_event.ensures.answered p a)

pub tell-requires : goal.tell-requires
tell-requires g c = named _ _ c.in-NoLine.is c.requires.names

pub answer_event-requires-clause-number : goal.answer_event-requires-clause-number
answer_event-requires-clause-number g c = named _ _ c.in-Event.is c.requires.names

pub returns-in-Nothing-clause-agrees : goal.returns-in-Nothing-clause-agrees
returns-in-Nothing-clause-agrees g c = some_timeline _ _ c.requires.at

pub returns-in-Long-clause-agrees : goal.returns-in-Long-clause-agrees
returns-in-Long-clause-agrees g c = some_timeline _ _ c.requires.at

pub returns-in-NoSession-clause-agrees : goal.returns-in-NoSession-clause-agrees
returns-in-NoSession-clause-agrees g c = some_timeline _ _ c.requires.at

pub returns-in-NoLine-clause-agrees : goal.returns-in-NoLine-clause-agrees
returns-in-NoLine-clause-agrees g c = some_timeline _ _ c.requires.at
