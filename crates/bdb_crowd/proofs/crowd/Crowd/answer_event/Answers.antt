use Rattle.std.proofs.Common.{subst, sym}
use Rattle.std.proofs.KnownBytes.{Appends-nil}
use Rattle.bdb_crowd.specs.Carried.{AtHand, IsAt, IsAtSome}
use Rattle.bdb_crowd.proofs.ActLemmas.{event_answers, some_timeline, unanswered, waits}
use Rattle.bdb_crowd.proofs.crowd.Crowd.answer_event.Goals as goal

pub returns-in-Ok-clause-answered : goal.returns-in-Ok-clause-answered
returns-in-Ok-clause-answered g c = λ p a.
    let here = subst (λ (h : AtHand). IsAt (g.K.Keeper.seen c.args.keeper.now).kept h p) (sym c.self.view_is) a in
    event_answers p c.args.number c.args.line c.in-Ok.act (record { session = c.answer_act.new.session; slots = c.step.new.self }) (g.K.Keeper.seen c.args.keeper.now) (g.K.Keeper.seen c.answer_act.new.keeper)
    (g.O.Sink.written c.args.out.now) (g.O.Sink.written c.answer_act.new.out) c.answer_act.result (c.in-Ok.ensures.act p.before here.stands) (c.answer_act.ensures.done p.state here.agrees) (c.in-Ok.ensures.stands p.before here.stands)

pub answer_act-requires-clause-agrees : goal.answer_act-requires-clause-agrees
answer_act-requires-clause-agrees g c = some_timeline _ _ (subst (λ (h : AtHand). IsAtSome (g.K.Keeper.seen c.args.keeper.now).kept h) (sym c.self.view_is) c.requires.at)

pub answer_act-requires-clause-few : goal.answer_act-requires-clause-few
answer_act-requires-clause-few g c =
    let some = subst (λ (h : AtHand). IsAtSome (g.K.Keeper.seen c.args.keeper.now).kept h) (sym c.self.view_is) c.requires.at in
    waits c.in-Ok.act some.point.before (record { session = c.args.number; line = c.args.line }) (c.in-Ok.ensures.act some.point.before some.at.stands)

pub returns-in-Err-clause-answered : goal.returns-in-Err-clause-answered
returns-in-Err-clause-answered g c = λ p a.
    let here = subst (λ (h : AtHand). IsAt (g.K.Keeper.seen c.args.keeper.now).kept h p) (sym c.self.view_is) a in
    (unanswered p c.self.inside.session (g.K.Keeper.seen c.args.keeper.now) here.agrees, Appends-nil (g.O.Sink.written c.args.out.now))

pub returns-in-Err-clause-agrees : goal.returns-in-Err-clause-agrees
returns-in-Err-clause-agrees g c = some_timeline _ _ (subst (λ (h : AtHand). IsAtSome (g.K.Keeper.seen c.args.keeper.now).kept h) (sym c.self.view_is) c.requires.at)
