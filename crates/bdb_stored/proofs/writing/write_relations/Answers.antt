use Rattle.std.proofs.Common.{◌∙◌, ◌<◌, List, ap, get_or, length, refl, subst}
use Rattle.bdb_base.specs.declared.kinds.RelDef.{RelDef}
use Rattle.bdb_tables.proofs.Loops.{goes_then, counts_then}
use Rattle.bdb_stored.specs.Writing.{with_relations}
use Rattle.bdb_stored.proofs.WritingLemmas.{relation_added, relation_may}
use Rattle.bdb_stored.proofs.writing.write_relations.Goals as goal

pub add_relation-requires-clause-base : goal.add_relation-requires-clause-base
add_relation-requires-clause-base g c =
    let k = c.loop-at.at in
    let def = c.index-rels-at.result in
    let same = c.as_slice-rels.ensures in
    record {
      base = with_relations c.args.catalog.now k;
      may = relation_may c.args.catalog.now c.requires.catalog k def (subst (λ (xs : List RelDef). k < length xs) same c.loop-at-test.true) (c.index-rels-at.is ∙ ap (λ (xs : List RelDef). get_or xs k def) same)
          (g.K.Keeper.seen c.loop-at.keeper).kept k refl c.loop-at.invariant.stored;
    }

pub loop-at-preserved : goal.loop-at-preserved
loop-at-preserved g c =
    let k = c.loop-at.at in
    let def = c.index-rels-at.result in
    let same = c.as_slice-rels.ensures in
    record {
      stored = relation_added c.args.catalog.now c.requires.catalog k def (subst (λ (xs : List RelDef). k < length xs) same c.loop-at-test.true) (c.index-rels-at.is ∙ ap (λ (xs : List RelDef). get_or xs k def) same)
          (g.K.Keeper.seen c.loop-at.keeper).kept (g.K.Keeper.seen c.add_relation.new.keeper).kept k refl c.loop-at.invariant.stored c.in-Ok.ensures.added;
      counts = counts_then _ _ _ c.loop-at.invariant.counts c.in-Ok.ensures.write.counts;
      goes_on = goes_then _ _ _ c.loop-at.invariant.goes_on c.in-Ok.ensures.write.steps.ok;
    }
