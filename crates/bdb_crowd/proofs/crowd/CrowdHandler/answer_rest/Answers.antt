use Rattle.std.proofs.Common.{refl}
use Rattle.std.proofs.KnownBytes.{Appends-nil}
use Rattle.bdb_lex.specs.declared.token.Rest.TheVariants.{Nothing, Unfinished}
use Rattle.bdb_stream.proofs.HandledLemmas.{nothing_ends, one_ends}
use Rattle.bdb_crowd.specs.Asked.{unfinished}
use Rattle.bdb_crowd.specs.Carried.{by_crowd, crowd_in_order}
use Rattle.bdb_crowd.proofs.ActLemmas.{some_timeline, unfinished_answers}
use Rattle.bdb_crowd.proofs.crowd.CrowdHandler.answer_rest.Goals as goal

pub returns-in-Nothing-clause-ends : goal.returns-in-Nothing-clause-ends
returns-in-Nothing-clause-ends g c = λ p at.
    (nothing_ends by_crowd crowd_in_order) p c.args.rest Nothing c.args.self.now (g.K.Keeper.seen c.args._keeper.now)
    (g.O.Sink.written c.args.out.now) (g.O.Sink.written c.args.out.now) c.in-Nothing.is refl at (Appends-nil (g.O.Sink.written c.args.out.now))

pub returns-in-Unfinished-clause-ends : goal.returns-in-Unfinished-clause-ends
returns-in-Unfinished-clause-ends g c = λ p at.
    let now = g.K.Keeper.seen c.args._keeper.now in
    (one_ends by_crowd crowd_in_order) p c.args.rest Unfinished unfinished c.args.self.now now now
    (g.O.Sink.written c.args.out.now) (g.O.Sink.written c.tell_error.new.out) c.tell_error.result c.in-Unfinished.is refl
    (unfinished_answers p c.args.self.now now (g.O.Sink.written c.args.out.now) (g.O.Sink.written c.tell_error.new.out) c.tell_error.result at c.tell_error.ensures.told)

pub returns-in-Nothing-clause-agrees : goal.returns-in-Nothing-clause-agrees
returns-in-Nothing-clause-agrees g c = some_timeline (g.K.Keeper.seen c.args._keeper.now).kept c.args.self.now c.requires.at

pub returns-in-Unfinished-clause-agrees : goal.returns-in-Unfinished-clause-agrees
returns-in-Unfinished-clause-agrees g c = some_timeline (g.K.Keeper.seen c.args._keeper.now).kept c.args.self.now c.requires.at
