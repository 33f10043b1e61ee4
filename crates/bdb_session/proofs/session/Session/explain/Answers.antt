use Rattle.std.proofs.Common.{refl}
use Rattle.bdb_session.proofs.QueryLemmas.{plan_tells}
use Rattle.bdb_session.proofs.TellLemmas.{said_nothing, said_reads, same_reads_within}
use Rattle.bdb_session.proofs.session.Session.explain.Goals as goal

pub returns-clause-told : goal.returns-clause-told
returns-clause-told g c =
    plan_tells c.args.self.now c.args.query.now (g.K.Keeper.seen c.args.keeper.now) (g.K.Keeper.seen c.say.new.keeper) c.say.result c.requires.agrees (λ s. c.say.ensures s _ c.plan_text-text.ensures)

pub returns-clause-reads : goal.returns-clause-reads
returns-clause-reads g c =
    let old = g.K.Keeper.seen c.args.keeper.now in
    let new = g.K.Keeper.seen c.say.new.keeper in
    same_reads_within c.args.self.now old new c.say.result (said_reads c.args.self.now.catalog _ old new c.say.result (c.say.ensures c.requires.agrees.state _ c.plan_text-text.ensures))

pub returns-clause-writes : goal.returns-clause-writes
returns-clause-writes g c =
    said_nothing c.args.self.now.catalog _ (g.K.Keeper.seen c.args.keeper.now) (g.K.Keeper.seen c.args.keeper.now) (g.K.Keeper.seen c.say.new.keeper) c.say.result refl refl
    (c.say.ensures c.requires.agrees.state _ c.plan_text-text.ensures)
