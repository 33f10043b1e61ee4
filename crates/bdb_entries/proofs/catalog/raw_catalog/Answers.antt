use Rattle.std.proofs.Common.{sym, subst, ◌∙◌}
use Rattle.bdb_entries.specs.Catalog.{HasRelations}
use Rattle.bdb_entries.proofs.CatalogLemmas.{no_catalog}
use Rattle.bdb_entries.proofs.ReadLemmas.{some_told}
use Rattle.bdb_entries.proofs.catalog.raw_catalog.Goals as goal

pub returns-then-not-is_catalog-clause-catalog : goal.returns-then-not-is_catalog-clause-catalog
returns-then-not-is_catalog-clause-catalog g c =
    let u = c.in-Ok-Some in
    let r = c.in-Ok-Some-raw_relations in
    no_catalog (g.K.Keeper.seen c.args.keeper.now).kept u.users r.rels (some_told _ _ u.field-0 u.users u.field-0-is u.ensures.users)
    (subst (λ t. HasRelations t r.rels) u.ensures.read.kept (some_told _ _ r.field-0 r.rels r.field-0-is r.ensures.relations)) (sym c.is_catalog.ensures ∙ c.if-not-is_catalog.true)
