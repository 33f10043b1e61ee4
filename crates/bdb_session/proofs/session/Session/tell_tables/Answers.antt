use Rattle.std.proofs.Common.{ap, subst}
use Rattle.bdb_base.specs.declared.kinds.Catalog.{Catalog}
use Rattle.bdb_render.specs.Tables.{tables_reply}
use Rattle.bdb_session.specs.Known.{Known}
use Rattle.bdb_session.specs.Outcome.{Done}
use Rattle.bdb_session.specs.Within.{IsSaid}
use Rattle.bdb_session.proofs.session.Session.tell_tables.Goals as goal

pub returns : goal.returns
returns g c = λ s.
    subst (λ (k : Catalog). IsSaid c.args.self.now.catalog (Done (tables_reply k c.args.canon.now) 0 s) (g.K.Keeper.seen c.args.keeper.now) (g.K.Keeper.seen c.say.new.keeper) c.say.result)
    (ap (λ (k : Known). k.catalog) c.self.view_is) (c.say.ensures s _ c.tables_reply-text.ensures)
