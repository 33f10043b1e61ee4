use Rattle.std.proofs.Common.{◌∙◌, ap, refl, sym}
use Rattle.bdb_base.specs.Bases.{without_user}
use Rattle.bdb_base.specs.Queries.{user_name}
use Rattle.bdb_session.specs.Known.{Known}
use Rattle.bdb_session.specs.declared.news.News.{News}
use Rattle.bdb_session.proofs.LeaveLemmas.{leave_changes, leave_tells}
use Rattle.bdb_session.proofs.StepLemmas.{leave_writes}
use Rattle.bdb_session.proofs.session.Session.drop_user.Goals as goal

pub returns-clause-told : goal.returns-clause-told
returns-clause-told g c =
    let h = c.in-Ok-drop_user.ensures in
    let catalog = c.in-Ok.ensures ∙ ap (λ (k : Known). without_user k.catalog c.args.uid) c.self.view_is in
    leave_tells c.args.self.now c.args.news.now.counts c.drop_user.new.counts c.args.uid c.in-Ok-drop_user.gone (g.K.Keeper.seen c.args.keeper.now) (g.K.Keeper.seen c.drop_user.new.keeper)
    c.requires.fits (ap (λ (n : News). n.counts) c.requires.nothing) h.left _ c.len-count.result (g.K.Keeper.seen c.tell_count.new.keeper) c.tell_count.result c.requires.agrees
    (record { goes = h.changing.steps.ok; counts = h.changing.counts }) catalog refl c.len-count.ensures c.tell_count.ensures

pub returns-clause-change : goal.returns-clause-change
returns-clause-change g c =
    let h = c.in-Ok-drop_user.ensures in
    let named = sym (ap (λ (k : Known). user_name k.catalog.users c.args.uid) c.self.view_is) ∙ c.in-Ok-name_of.ensures in
    leave_changes c.args.self.now c.args.news.now.counts c.drop_user.new.counts c.args.uid c.in-Ok-drop_user.gone (g.K.Keeper.seen c.args.keeper.now) (g.K.Keeper.seen c.drop_user.new.keeper)
    c.requires.fits (ap (λ (n : News). n.counts) c.requires.nothing) h.left c.in-Ok-name_of.name c.tell_count.result c.user_dropped.result named c.user_dropped.ensures

pub returns-clause-writes : goal.returns-clause-writes
returns-clause-writes g c =
    leave_writes c.args.self.now c.args.news.now.counts c.args.uid (g.K.Keeper.seen c.args.keeper.now) (g.K.Keeper.seen c.drop_user.new.keeper) (g.K.Keeper.seen c.tell_count.new.keeper)
    c.args.self.now.catalog _ c.tell_count.result refl c.requires.fits (ap (λ (n : News). n.counts) c.requires.nothing) c.in-Ok-drop_user.ensures.steps
    (c.tell_count.ensures c.requires.agrees.state)
