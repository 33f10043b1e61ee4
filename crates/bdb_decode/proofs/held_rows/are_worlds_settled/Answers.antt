use Rattle.std.proofs.Common.{ℕ, Option, None, true, false, get_or, rules, sym, subst}
use Rattle.bdb_base.specs.Bases.{key_lengths}
use Rattle.bdb_tables.specs.Grammar.{InGrammar}
use Rattle.bdb_tables.specs.declared.tab.TabError.TheVariants.{Fault}
use Rattle.bdb_tables.proofs.Loops.{all_at_index, all_take_more, reading_more}
use Rattle.bdb_decode.specs.SettledRows.{AreKeyed, AreLinkedRows, TellsWorld}
use Rattle.bdb_decode.proofs.RowsLemmas.{linked_none, world_placed, world_told}
use Rattle.bdb_decode.proofs.held_rows.are_worlds_settled.Goals as goal

pub loop-world-init : goal.loop-world-init
loop-world-init g c = record {
  goes = search rules;
  kept = search rules;
  writes = search rules;
  counts = search rules;
  read = (tt, linked_none (g.K.Keeper.seen c.args.keeper.now).kept c.new.result.items c.new.ensures.items);
}

pub is_world_settled-requires-clause-grammar : goal.is_world_settled-requires-clause-grammar
is_world_settled-requires-clause-grammar g c = subst InGrammar (sym c.loop-world.invariant.kept) c.requires.grammar

pub is_world_settled-requires-clause-keyed : goal.is_world_settled-requires-clause-keyed
is_world_settled-requires-clause-keyed g c = subst (AreKeyed (key_lengths c.args.catalog.now.rels)) (sym c.loop-world.invariant.kept) c.requires.keyed

pub is_world_settled-requires-clause-linked : goal.is_world_settled-requires-clause-linked
is_world_settled-requires-clause-linked g c =
    subst (λ v. AreLinkedRows v c.loop-world.linked.link c.loop-world.linked.rows.items) (sym c.loop-world.invariant.kept) c.loop-world.invariant.read.1

pub returns-in-Ok-false-clause-settled : goal.returns-in-Ok-false-clause-settled
returns-in-Ok-false-clause-settled g c =
    let old = g.K.Keeper.seen c.args.keeper.now in
    let keys : ℕ → ℕ = key_lengths c.args.catalog.now.rels in
    let i = c.loop-world.world-index in
    let x : ℕ × Option ℕ = get_or c.args.worlds.now i (0, None) in
    λ all. all_at_index (λ y. TellsWorld keys old.kept y false → ⊥) c.args.worlds.now i x c.loop-world-test.true (world_placed c.args.worlds.now i (0, None) c.loop-world-test.true) all
    (world_told keys old.kept (g.K.Keeper.seen c.loop-world.keeper).kept x c.in-Ok-false.field-0 false c.loop-world.invariant.kept c.in-Ok-false.field-0-test c.in-Ok-false.ensures.told)

pub loop-world-preserved : goal.loop-world-preserved
loop-world-preserved g c =
    let old = g.K.Keeper.seen c.args.keeper.now in
    let now = g.K.Keeper.seen c.loop-world.keeper in
    let new = g.K.Keeper.seen c.is_world_settled.new.keeper in
    let keys : ℕ → ℕ = key_lengths c.args.catalog.now.rels in
    let linked = c.is_world_settled.new.linked in
    let i = c.loop-world.world-index in
    let x : ℕ × Option ℕ = get_or c.args.worlds.now i (0, None) in
    let h = c.loop-world.invariant in
    reading_more old now new c.in-Ok-true.field-0 Fault h c.in-Ok-true.ensures.read (
      all_take_more (λ y. TellsWorld keys old.kept y true) c.args.worlds.now i x c.loop-world-test.true (world_placed c.args.worlds.now i (0, None) c.loop-world-test.true) h.read.0
          (world_told keys old.kept now.kept x c.in-Ok-true.field-0 true h.kept c.in-Ok-true.field-0-test c.in-Ok-true.ensures.told),
      subst (λ v. AreLinkedRows v linked.link linked.rows.items) h.kept c.in-Ok-true.ensures.linked,
    )
