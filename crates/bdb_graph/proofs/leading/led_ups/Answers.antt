use Rattle.std.proofs.Common.{◌≡◌, ◌∙◌, ℕ, ◌&&◌, false, true, nat_le, length, sym, subst, rules}
use Rattle.std.specs.List.{AllByRecursion}
use Rattle.bdb_tables.specs.Grammar.{InGrammar}
use Rattle.bdb_tables.specs.Names.{most_numbered}
use Rattle.bdb_entries.proofs.ReadLemmas.{none_told, past, some_told}
use Rattle.bdb_entries.proofs.TupleLemmas.{holding}
use Rattle.bdb_graph.specs.Leading.{has_root}
use Rattle.bdb_graph.specs.Ups.{HasDepth, HoldNoStates}
use Rattle.bdb_graph.proofs.NamingLemmas.{ups_here}
use Rattle.bdb_graph.proofs.UpLemmas.{rows_have_depths}
use Rattle.bdb_graph.proofs.WorldLemmas.{led_known, no_led, no_tree}
use Rattle.bdb_graph.proofs.leading.led_ups.Goals as goal

pub rows_under-requires : goal.rows_under-requires
rows_under-requires g c = record { grammar = c.requires.grammar 6 }

pub raw_ups-requires-clause-grammar : goal.raw_ups-requires-clause-grammar
raw_ups-requires-clause-grammar g c = subst InGrammar (sym c.in-Ok.ensures.read.kept) c.requires.grammar

pub raw_ups-requires-clause-depths : goal.raw_ups-requires-clause-depths
raw_ups-requires-clause-depths g c =
    let t = (g.K.Keeper.seen c.args.keeper.now).kept in
    subst (λ u. AllByRecursion (λ (e : ℕ × ℕ). HasDepth u e.0 e.1) c.deref.result.now) (sym c.in-Ok.ensures.read.kept)
    (subst (AllByRecursion (λ (e : ℕ × ℕ). HasDepth t e.0 e.1)) (sym c.deref.ensures.value) (rows_have_depths t c.in-Ok.depths.items c.in-Ok.ensures.rows))

pub returns-in-Ok-None-clause-ups : goal.returns-in-Ok-None-clause-ups
returns-in-Ok-None-clause-ups g c = subst HoldNoStates c.in-Ok.ensures.read.kept (none_told _ _ c.in-Ok-None.field-0 c.in-Ok-None.field-0-is c.in-Ok-None.ensures.ups)

pub returns-then-not-may_be_tree-clause-ups : goal.returns-then-not-may_be_tree-clause-ups
returns-then-not-may_be_tree-clause-ups g c =
    let t = (g.K.Keeper.seen c.args.keeper.now).kept in
    let w = c.in-Ok-Some in
    let are = ups_here t (g.K.Keeper.seen c.rows_under.new.keeper).kept c.in-Ok.depths.items c.deref.result.now w.ups.items c.in-Ok.ensures.read.kept c.deref.ensures.value (some_told _ _ w.field-0 w.ups w.field-0-is w.ensures.ups) in
    let bad : (nat_le (length c.deref-2.result.now) most_numbered && has_root c.deref-2.result.now) ≡ false = search rules in
    no_tree t c.in-Ok.depths.items w.ups.items c.deref-2.result.now c.in-Ok.ensures.rows are c.deref-2.ensures.value bad

pub returns-in-Ok-true-clause-ups : goal.returns-in-Ok-true-clause-ups
returns-in-Ok-true-clause-ups g c =
    let t = (g.K.Keeper.seen c.args.keeper.now).kept in
    let w = c.in-Ok-Some in
    let are = ups_here t (g.K.Keeper.seen c.rows_under.new.keeper).kept c.in-Ok.depths.items c.deref.result.now w.ups.items c.in-Ok.ensures.read.kept c.deref.ensures.value (some_told _ _ w.field-0 w.ups w.field-0-is w.ensures.ups) in
    let good : (nat_le (length c.deref-2.result.now) most_numbered && has_root c.deref-2.result.now) ≡ true = search rules in
    let r = c.in-Ok-true in
    led_known t (g.K.Keeper.seen c.raw_ups.new.keeper).kept c.in-Ok.depths.items w.ups.items c.deref-2.result.now c.deref-3.result.now c.in-Ok.ensures.rows are (w.ensures.reading.kept ∙ c.in-Ok.ensures.read.kept)
    c.deref-2.ensures.value c.deref-3.ensures.value good (holding _ _ r.field-0 r.field-0-test r.ensures.led)

pub returns-in-Ok-false-clause-ups : goal.returns-in-Ok-false-clause-ups
returns-in-Ok-false-clause-ups g c =
    let t = (g.K.Keeper.seen c.args.keeper.now).kept in
    let w = c.in-Ok-Some in
    let are = ups_here t (g.K.Keeper.seen c.rows_under.new.keeper).kept c.in-Ok.depths.items c.deref.result.now w.ups.items c.in-Ok.ensures.read.kept c.deref.ensures.value (some_told _ _ w.field-0 w.ups w.field-0-is w.ensures.ups) in
    let r = c.in-Ok-false in
    no_led t (g.K.Keeper.seen c.raw_ups.new.keeper).kept c.in-Ok.depths.items w.ups.items c.deref-3.result.now are (w.ensures.reading.kept ∙ c.in-Ok.ensures.read.kept) c.deref-3.ensures.value (past _ _ r.field-0 r.field-0-test r.ensures.led)
