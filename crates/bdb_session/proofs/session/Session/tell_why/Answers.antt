use Rattle.std.proofs.Common.{ℕ, List, ap, subst}
use Rattle.bdb_base.specs.declared.kinds.Catalog.{Catalog}
use Rattle.bdb_reasons.specs.WhyReplies.{why_reply}
use Rattle.bdb_session.specs.Known.{Known}
use Rattle.bdb_session.specs.Outcome.{Done}
use Rattle.bdb_session.specs.Within.{IsSaid}
use Rattle.bdb_session.proofs.session.Session.tell_why.Goals as goal

pub returns : goal.returns
returns g c = λ s.
    let x = c.args.stmt.now in
    let said = λ (k : Catalog) (w : List ℕ). IsSaid c.args.self.now.catalog (Done (why_reply k w x.tuple x.sign c.args.certificate.now) 0 s) (g.K.Keeper.seen c.args.keeper.now) (g.K.Keeper.seen c.say.new.keeper) c.say.result in
    subst (λ (w : List ℕ). said c.args.self.now.catalog w) c.as_slice-path.ensures.users
    (subst (λ (k : Catalog). said k c.as_slice-path.result.now) (ap (λ (k : Known). k.catalog) c.self.view_is) (c.say.ensures s _ c.why_reply-text.ensures))
