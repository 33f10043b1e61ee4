use Rattle.std.proofs.Common.{subst}
use Rattle.std.proofs.KnownBytes.{Appends-nil}
use Rattle.bdb_events.specs.declared.read.Read.{Read}
use Rattle.bdb_crowd.specs.Asked.{piece}
use Rattle.bdb_crowd.specs.Carried.{TellsAnswer}
use Rattle.bdb_crowd.proofs.ActLemmas.{answer_at, some_timeline, unanswered}
use Rattle.bdb_crowd.proofs.crowd.CrowdHandler.answer_piece.Goals as goal

pub returns-in-Ok-clause-answered : goal.returns-in-Ok-clause-answered
returns-in-Ok-clause-answered g c = λ p a.
    subst (λ (r : Read). TellsAnswer p (piece r) c.answer_read.new.self (g.K.Keeper.seen c.args.keeper.now) (g.K.Keeper.seen c.answer_read.new.keeper) (g.O.Sink.written c.args.out.now) (g.O.Sink.written c.answer_read.new.out) c.answer_read.result)
    c.in-Ok.ensures.read (c.answer_read.ensures.answered p a)

pub returns-in-Ok-clause-at : goal.returns-in-Ok-clause-at
returns-in-Ok-clause-at g c =
    let some = c.requires.at in
    answer_at some.point (piece c.in-Ok.read) c.answer_read.new.self (g.K.Keeper.seen c.args.keeper.now) (g.K.Keeper.seen c.answer_read.new.keeper) (g.O.Sink.written c.args.out.now) (g.O.Sink.written c.answer_read.new.out) c.answer_read.result
    (c.answer_read.ensures.answered some.point some.at) c.answer_read.ensures.agrees

pub returns-in-Err-clause-answered : goal.returns-in-Err-clause-answered
returns-in-Err-clause-answered g c = λ p a.
    (unanswered p c.args.self.now.session (g.K.Keeper.seen c.args.keeper.now) a.agrees, Appends-nil (g.O.Sink.written c.args.out.now))

pub returns-in-Err-clause-agrees : goal.returns-in-Err-clause-agrees
returns-in-Err-clause-agrees g c = some_timeline (g.K.Keeper.seen c.args.keeper.now).kept c.args.self.now c.requires.at
