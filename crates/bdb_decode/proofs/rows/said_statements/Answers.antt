use Rattle.std.proofs.Common.{◌≡◌, ◌≤◌, nat_lt, true, false, List, length, inl, inr, ap, sym, subst, ◌∙◌, arith, rules}
use Rattle.std.proofs.lemmas.Bool.{ltb-true}
use Rattle.bdb_base.specs.Bases.{key_lengths}
use Rattle.bdb_base.specs.Limits.{most_statements}
use Rattle.bdb_base.specs.declared.kinds.Stmt.{Stmt}
use Rattle.bdb_base.proofs.Numbers.{not_less}
use Rattle.bdb_tables.specs.declared.tab.TabError.TheVariants.{Fault}
use Rattle.bdb_tables.proofs.Loops.{reading_more}
use Rattle.bdb_entries.proofs.ReadLemmas.{none_told, some_told}
use Rattle.bdb_decode.proofs.ManyLemmas.{said_many}
use Rattle.bdb_decode.proofs.RowLemmas.{foreign_misplaced, row_misplaced, said_all, said_more, said_none}
use Rattle.bdb_decode.proofs.rows.said_statements.Goals as goal

pub loop-init : goal.loop-init
loop-init g c = record {
  goes = search rules;
  kept = search rules;
  writes = search rules;
  counts = search rules;
  read = (
    said_none (key_lengths c.args.catalog.now.rels) c.args.worlds.now c.args.tuples.now (g.K.Keeper.seen c.args.keeper.now).kept c.new-low.result.items c.new-stmts.result.items c.new-low.ensures.items c.new-stmts.ensures.items,
    subst (λ (xs : List Stmt). length xs ≤ most_statements) (sym c.new-stmts.ensures.items) (omega arith),
  );
}

pub returns-in-Ok-Some-None-clause-statements : goal.returns-in-Ok-Some-None-clause-statements
returns-in-Ok-Some-None-clause-statements g c =
    let w = c.in-Ok-Some-None in
    said_all (key_lengths c.args.catalog.now.rels) c.args.worlds.now c.args.tuples.now (g.K.Keeper.seen c.args.keeper.now).kept (g.K.Keeper.seen c.loop.keeper).kept c.loop.low.items c.next_raw.new.low.items w.field-0-0 c.loop.stmts.items
    c.loop.invariant.kept w.field-0-0-is c.loop.invariant.read.0 (some_told _ _ w.field-0 w.field-0-0 w.field-0-is w.ensures.found)

pub returns-in-Ok-Some-None-clause-few : goal.returns-in-Ok-Some-None-clause-few
returns-in-Ok-Some-None-clause-few g c = c.loop.invariant.read.1

pub returns-in-Ok-None-clause-statements : goal.returns-in-Ok-None-clause-statements
returns-in-Ok-None-clause-statements g c =
    inl (foreign_misplaced (key_lengths c.args.catalog.now.rels) c.args.worlds.now c.args.tuples.now (g.K.Keeper.seen c.args.keeper.now).kept (g.K.Keeper.seen c.loop.keeper).kept c.loop.low.items c.loop.invariant.kept
    (none_told _ _ c.in-Ok-None.field-0 c.in-Ok-None.field-0-is c.in-Ok-None.ensures.found))

pub returns-in-Ok-false-clause-statements : goal.returns-in-Ok-false-clause-statements
returns-in-Ok-false-clause-statements g c =
    let w = c.in-Ok-Some-Some in
    inl (row_misplaced (key_lengths c.args.catalog.now.rels) c.args.worlds.now c.args.tuples.now (g.K.Keeper.seen c.args.keeper.now).kept (g.K.Keeper.seen c.loop.keeper).kept c.loop.low.items c.next_raw.new.low.items w.field-0-0 w.row
    c.in-Ok-false.field-0 c.loop.invariant.kept w.field-0-0-is c.in-Ok-false.field-0-test c.in-Ok-false.ensures.placed (some_told _ _ w.field-0 w.field-0-0 w.field-0-is w.ensures.found))

pub returns-then-are_too_many-clause-statements : goal.returns-then-are_too_many-clause-statements
returns-then-are_too_many-clause-statements g c =
    let w = c.in-Ok-Some-Some in
    let p = c.in-Ok-true in
    let told : nat_lt most_statements (length c.deref.result.now) ≡ true = search rules in
    let many : nat_lt most_statements (length c.push_said.new.stmts.items) ≡ true = ap (λ (xs : List Stmt). nat_lt most_statements (length xs)) (sym c.deref.ensures.value) ∙ told in
    inr (said_many (key_lengths c.args.catalog.now.rels) c.args.worlds.now c.args.tuples.now (g.K.Keeper.seen c.args.keeper.now).kept (g.K.Keeper.seen c.loop.keeper).kept c.loop.low.items c.next_raw.new.low.items w.field-0-0 w.row
    c.loop.stmts.items c.push_said.new.stmts.items p.field-0 c.loop.invariant.kept w.field-0-0-is p.field-0-test p.ensures.placed p.ensures.said c.loop.invariant.read.0
    (some_told _ _ w.field-0 w.field-0-0 w.field-0-is w.ensures.found) (ltb-true most_statements (length c.push_said.new.stmts.items) many))

pub loop-preserved : goal.loop-preserved
loop-preserved g c =
    let old = g.K.Keeper.seen c.args.keeper.now in
    let now = g.K.Keeper.seen c.loop.keeper in
    let new = g.K.Keeper.seen c.next_raw.new.keeper in
    let w = c.in-Ok-Some-Some in
    let p = c.in-Ok-true in
    let told : nat_lt most_statements (length c.deref.result.now) ≡ false = search rules in
    let few : nat_lt most_statements (length c.push_said.new.stmts.items) ≡ false = ap (λ (xs : List Stmt). nat_lt most_statements (length xs)) (sym c.deref.ensures.value) ∙ told in
    reading_more old now new w.field-0 Fault c.loop.invariant w.ensures.read (
      said_more (key_lengths c.args.catalog.now.rels) c.args.worlds.now c.args.tuples.now old.kept now.kept c.loop.low.items c.next_raw.new.low.items w.field-0-0 w.row c.loop.stmts.items c.push_said.new.stmts.items p.field-0
          c.loop.invariant.kept w.field-0-0-is p.field-0-test p.ensures.placed p.ensures.said c.loop.invariant.read.0 (some_told _ _ w.field-0 w.field-0-0 w.field-0-is w.ensures.found),
      not_less most_statements (length c.push_said.new.stmts.items) few,
    )
