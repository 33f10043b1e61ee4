use Rattle.std.proofs.Common.{ℕ, List, ap, refl, subst}
use Rattle.bdb_base.specs.Limits.{deepest_query}
use Rattle.bdb_base.specs.declared.kinds.Catalog.{Catalog}
use Rattle.bdb_shown.specs.Showing.{ShowsWorld}
use Rattle.bdb_session.specs.Known.{Known}
use Rattle.bdb_session.proofs.TellLemmas.{fitting_users, some_has_users, said_nothing, said_reads, world_reads_within, world_tells}
use Rattle.bdb_session.proofs.WithinLemmas.{table_stops}
use Rattle.bdb_session.proofs.session.Session.show_world.Goals as goal

pub shown_world-requires : goal.shown_world-requires
shown_world-requires g c =
    let k = c.args.self.now in
    let path = c.args.path.now in
    record { base = some_has_users (g.K.Keeper.seen c.args.keeper.now).kept k path c.requires.agrees (fitting_users k.catalog.users deepest_query path c.requires.fits) }

pub returns-in-Ok-clause-told : goal.returns-in-Ok-clause-told
returns-in-Ok-clause-told g c =
    let k = c.args.self.now in
    let path = c.args.path.now in
    let old = g.K.Keeper.seen c.args.keeper.now in
    let shown = c.in-Ok.ensures in
    let text : ShowsWorld old.kept k.catalog path c.in-Ok.text = subst (λ (x : Catalog). ShowsWorld old.kept x path c.in-Ok.text) (ap (λ (s : Known). s.catalog) c.self.view_is) shown.text in
    world_tells k path c.in-Ok.text old (g.K.Keeper.seen c.shown_world.new.keeper) (g.K.Keeper.seen c.say.new.keeper) c.say.result
    c.requires.agrees (fitting_users k.catalog.users deepest_query path c.requires.fits) text shown.counts shown.kept shown.steps.ok (λ s. c.say.ensures s c.in-Ok.text refl)

pub returns-in-Ok-clause-reads : goal.returns-in-Ok-clause-reads
returns-in-Ok-clause-reads g c =
    let k = c.args.self.now in
    let path = c.args.path.now in
    let mid = g.K.Keeper.seen c.shown_world.new.keeper in
    let new = g.K.Keeper.seen c.say.new.keeper in
    world_reads_within k path (g.K.Keeper.seen c.args.keeper.now) mid new c.say.result
    c.in-Ok.ensures.reads (fitting_users k.catalog.users deepest_query path c.requires.fits)
    (said_reads k.catalog _ mid new c.say.result (c.say.ensures c.requires.agrees.state c.in-Ok.text refl))

pub returns-in-Ok-clause-writes : goal.returns-in-Ok-clause-writes
returns-in-Ok-clause-writes g c =
    said_nothing c.args.self.now.catalog _ (g.K.Keeper.seen c.args.keeper.now) (g.K.Keeper.seen c.shown_world.new.keeper) (g.K.Keeper.seen c.say.new.keeper) c.say.result
    c.in-Ok.ensures.kept c.in-Ok.ensures.writes (c.say.ensures c.requires.agrees.state c.in-Ok.text refl)

pub returns-in-Err-clause-told : goal.returns-in-Err-clause-told
returns-in-Err-clause-told g c =
    table_stops {T = List ℕ} _ c.args.self.now c.args.self.now (g.K.Keeper.seen c.args.keeper.now) (g.K.Keeper.seen c.shown_world.new.keeper) c.in-Err.error c.stop_from.result c.stop_from.ensures
    (record { counts = c.in-Err.ensures.counts; steps = c.in-Err.ensures.steps })
