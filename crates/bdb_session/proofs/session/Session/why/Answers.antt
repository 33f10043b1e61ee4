use Rattle.bdb_why.specs.declared.kinds.Why.{Why as Certificate}
use Rattle.bdb_session.proofs.TellLemmas.{said_nothing, said_reads}
use Rattle.bdb_session.proofs.WhyLemmas.{path_is_short, some_may_ask, why_reads_within, why_tells}
use Rattle.bdb_session.proofs.WithinLemmas.{table_stops}
use Rattle.bdb_session.proofs.session.Session.why.Goals as goal

pub why-requires-clause-base : goal.why-requires-clause-base
why-requires-clause-base g c =
    some_may_ask c.args.self.now c.args.stmt.now c.requires.fits (g.K.Keeper.seen c.args.keeper.now).kept c.as_slice-path.result.now c.as_slice-path.ensures.users c.requires.agrees

pub why-requires-clause-short : goal.why-requires-clause-short
why-requires-clause-short g c = path_is_short c.args.self.now c.args.stmt.now c.requires.fits c.as_slice-path.result.now c.as_slice-path.ensures.users

pub returns-in-Ok-clause-told : goal.returns-in-Ok-clause-told
returns-in-Ok-clause-told g c =
    let read = c.in-Ok.ensures in
    why_tells c.args.self.now c.args.stmt.now c.requires.fits c.as_slice-path.result.now c.as_slice-path.ensures.users c.in-Ok.certificate (g.K.Keeper.seen c.args.keeper.now) (g.K.Keeper.seen c.why.new.keeper) (g.K.Keeper.seen c.tell_why.new.keeper)
    c.tell_why.result c.requires.agrees read.why read.counts read.kept read.steps.ok c.tell_why.ensures

pub returns-in-Ok-clause-reads : goal.returns-in-Ok-clause-reads
returns-in-Ok-clause-reads g c =
    let mid = g.K.Keeper.seen c.why.new.keeper in
    let new = g.K.Keeper.seen c.tell_why.new.keeper in
    why_reads_within c.args.self.now c.args.stmt.now c.requires.fits c.as_slice-path.result.now c.as_slice-path.ensures.users (g.K.Keeper.seen c.args.keeper.now) mid new c.tell_why.result c.in-Ok.ensures.reads
    (said_reads c.args.self.now.catalog _ mid new c.tell_why.result (c.tell_why.ensures c.requires.agrees.state))

pub returns-in-Ok-clause-writes : goal.returns-in-Ok-clause-writes
returns-in-Ok-clause-writes g c =
    said_nothing c.args.self.now.catalog _ (g.K.Keeper.seen c.args.keeper.now) (g.K.Keeper.seen c.why.new.keeper) (g.K.Keeper.seen c.tell_why.new.keeper) c.tell_why.result
    c.in-Ok.ensures.kept c.in-Ok.ensures.writes (c.tell_why.ensures c.requires.agrees.state)

pub returns-in-Err-clause-told : goal.returns-in-Err-clause-told
returns-in-Err-clause-told g c =
    table_stops {T = Certificate} _ c.args.self.now c.args.self.now (g.K.Keeper.seen c.args.keeper.now) (g.K.Keeper.seen c.why.new.keeper) c.in-Err.error c.stop_from.result c.stop_from.ensures
    (record { counts = c.in-Err.ensures.counts; steps = c.in-Err.ensures.steps })
