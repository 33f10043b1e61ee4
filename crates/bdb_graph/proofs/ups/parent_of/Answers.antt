use Rattle.std.proofs.Common.{sym, subst}
use Rattle.std.specs.List.{AllByRecursion}
use Rattle.bdb_tables.specs.InUse.{led_codec}
use Rattle.bdb_tables.specs.Spans.{AreUnder}
use Rattle.std.proofs.Common.{◌≡◌, ◌∙◌}
use Rattle.bdb_key.specs.Bytes.{num_bytes}
use Rattle.bdb_graph.specs.Ups.{EdgeLeadsTo}
use Rattle.bdb_graph.proofs.UpLemmas.{parent_known, rows_lead}
use Rattle.bdb_graph.proofs.ups.parent_of.Goals as goal

pub rows_under-requires : goal.rows_under-requires
rows_under-requires g c = record { grammar = c.requires.grammar 10 }

pub first_from-requires-clause-rows : goal.first_from-requires-clause-rows
first_from-requires-clause-rows g c =
    let t = (g.K.Keeper.seen c.args.keeper.now).kept in
    let n = c.args.wid in
    let rows = c.in-Ok-rows_under.rows.items in
    let prefix : c.deref.result.now ≡ num_bytes n = c.deref.ensures.value ∙ c.in-Ok.ensures in
    subst (λ u. AllByRecursion (EdgeLeadsTo u n) c.deref-2.result.now) (sym c.in-Ok-rows_under.ensures.read.kept)
    (subst (AllByRecursion (EdgeLeadsTo t n)) (sym c.deref-2.ensures.value) (rows_lead t n c.ranges.wid.fits rows (subst (λ p. AreUnder led_codec t p rows) prefix c.in-Ok-rows_under.ensures.rows)))

pub returns-in-Ok-first_from-clause-parent : goal.returns-in-Ok-first_from-clause-parent
returns-in-Ok-first_from-clause-parent g c =
    let t = (g.K.Keeper.seen c.args.keeper.now).kept in
    let n = c.args.wid in
    let rows = c.in-Ok-rows_under.rows.items in
    let prefix : c.deref.result.now ≡ num_bytes n = c.deref.ensures.value ∙ c.in-Ok.ensures in
    parent_known t (g.K.Keeper.seen c.rows_under.new.keeper).kept n c.args.depth c.ranges.wid.fits rows c.deref-2.result.now c.in-Ok-rows_under.ensures.read.kept c.deref-2.ensures.value
    (subst (λ p. AreUnder led_codec t p rows) prefix c.in-Ok-rows_under.ensures.rows) c.in-Ok-first_from.found c.in-Ok-first_from.ensures.first
