use Rattle.std.proofs.Common.{◌∙◌, ap, refl}
use Rattle.bdb_base.specs.Bases.{with_user}
use Rattle.bdb_session.specs.Known.{Known}
use Rattle.bdb_session.specs.declared.news.News.{News}
use Rattle.bdb_session.proofs.CreateLemmas.{some_may_add_user, user_changes, user_tells}
use Rattle.bdb_session.proofs.WithinLemmas.{memory_tells, table_stops}
use Rattle.bdb_session.proofs.WriteLemmas.{accepted_unrefused}
use Rattle.bdb_update.proofs.CallLemmas.{gone_itself}
use Rattle.bdb_session.proofs.session.Session.add_user.Goals as goal

pub returns-in-Err-clause-told : goal.returns-in-Err-clause-told
returns-in-Err-clause-told g c =
    let old = g.K.Keeper.seen c.args.keeper.now in
    memory_tells _ c.args.self.now _ old old (g.K.Keeper.seen c.undo.new.self) (gone_itself old) c.undo.ensures.undone

pub add_user-requires-clause-base : goal.add_user-requires-clause-base
add_user-requires-clause-base g c =
    some_may_add_user (g.K.Keeper.seen c.args.keeper.now).kept c.args.self.now c.args.name c.args.uid c.requires.number c.requires.fits c.requires.room c.requires.agrees

pub returns-in-Err-add_user-clause-told : goal.returns-in-Err-add_user-clause-told
returns-in-Err-add_user-clause-told g c =
    let h = c.in-Err-add_user.ensures in
    table_stops {T = Unit {0}} _ c.args.self.now _ (g.K.Keeper.seen c.args.keeper.now) (g.K.Keeper.seen c.add_user.new.keeper) c.in-Err-add_user.error c.stop_from.result c.stop_from.ensures
    (record { counts = h.counts; steps = h.steps })

pub returns-clause-told : goal.returns-clause-told
returns-clause-told g c =
    let h = c.in-Ok-add_user.ensures in
    let catalog = c.in-Ok.ensures ∙ ap (λ (k : Known). with_user k.catalog c.args.name) c.self.view_is in
    user_tells c.args.self.now _ c.args.name c.args.uid (g.K.Keeper.seen c.args.keeper.now) (g.K.Keeper.seen c.add_user.new.keeper) (g.K.Keeper.seen c.tell_done.new.keeper)
    c.tell_done.result c.requires.number c.requires.fits c.requires.room c.requires.agrees (record { goes = h.steps.ok; counts = h.counts }) c.in-Ok-add_user.ensures.added catalog
    (ap (λ (n : News). n.counts) c.requires.nothing) c.tell_done.ensures

pub returns-clause-unwritten : goal.returns-clause-unwritten
returns-clause-unwritten g c =
    accepted_unrefused c.args.self.now.catalog _ (g.K.Keeper.seen c.args.keeper.now) (g.K.Keeper.seen c.add_user.new.keeper) (g.K.Keeper.seen c.tell_done.new.keeper) c.tell_done.result refl
    (c.tell_done.ensures c.requires.agrees.state)

pub returns-clause-change : goal.returns-clause-change
returns-clause-change g c =
    user_changes c.args.self.now c.args.name c.args.uid (g.K.Keeper.seen c.args.keeper.now) c.tell_done.result c.user_added.result c.requires.number c.requires.fits c.requires.room
    c.user_added.ensures
