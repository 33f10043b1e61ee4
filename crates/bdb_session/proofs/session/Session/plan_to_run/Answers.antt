use Rattle.std.proofs.Common.{ap, sym, subst}
use Rattle.bdb_base.specs.Safety.{IsSafe}
use Rattle.bdb_base.specs.declared.kinds.Catalog.{Catalog}
use Rattle.bdb_session.specs.Known.{Known}
use Rattle.bdb_session.proofs.QueryLemmas.{query_is_safe}
use Rattle.bdb_session.proofs.session.Session.plan_to_run.Goals as goal

pub translate_to_run-requires-clause-safe : goal.translate_to_run-requires-clause-safe
translate_to_run-requires-clause-safe c =
    let query = c.args.query.now in
    let here = ap (λ (k : Known). k.catalog) c.self.view_is in
    subst (λ (x : Catalog). IsSafe x.rels query) (sym here) (query_is_safe c.args.self.now.catalog query c.requires.fits)
