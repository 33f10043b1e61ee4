use Rattle.std.proofs.Common.{sym, subst}
use Rattle.bdb_tables.specs.Grammar.{InGrammar}
use Rattle.bdb_entries.proofs.ReadLemmas.{none_told, some_told}
use Rattle.bdb_decode.proofs.BaseLemmas.{base_stored, made_valid, none_held, none_stated, rows_keyed, tuples_up, worlds_up}
use Rattle.bdb_decode.proofs.judging.base_of.Goals as goal

pub raw_base_statements-requires-clause-worlds : goal.raw_base_statements-requires-clause-worlds
raw_base_statements-requires-clause-worlds g c =
    worlds_up (g.K.Keeper.seen c.args.keeper.now).kept _ _ _ c.requires.parts c.deref.result.now c.deref-2.result.now c.deref.ensures.value c.deref-2.ensures.value

pub raw_base_statements-requires-clause-tuples : goal.raw_base_statements-requires-clause-tuples
raw_base_statements-requires-clause-tuples g c =
    tuples_up (g.K.Keeper.seen c.args.keeper.now).kept _ _ _ c.requires.parts c.deref.result.now c.deref-2.result.now c.deref.ensures.value c.deref-2.ensures.value

pub hold_rows_of-requires : goal.hold_rows_of-requires
hold_rows_of-requires g c =
    let w = c.in-Ok-Some in
    record {
      grammar = subst InGrammar (sym w.ensures.read.kept) c.requires.formed.grammar;
      keyed = rows_keyed (g.K.Keeper.seen c.args.keeper.now).kept _ _ _ c.requires.parts c.deref.result.now c.deref-2.result.now c.deref.ensures.value c.deref-2.ensures.value
          w.stmts.items (some_told _ _ w.field-0 w.stmts w.field-0-is w.ensures.statements) (g.K.Keeper.seen c.raw_base_statements.new.keeper).kept w.ensures.read.kept;
    }

pub from_parts-requires : goal.from_parts-requires
from_parts-requires g c =
    let w = c.in-Ok-Some in
    made_valid (g.K.Keeper.seen c.args.keeper.now).kept _ _ _ c.requires.parts c.deref.result.now c.deref-2.result.now c.deref.ensures.value c.deref-2.ensures.value
    w.stmts.items (some_told _ _ w.field-0 w.stmts w.field-0-is w.ensures.statements) _ c.from_vec.ensures

pub returns-in-Ok-true-clause-base : goal.returns-in-Ok-true-clause-base
returns-in-Ok-true-clause-base g c =
    let w = c.in-Ok-Some in
    let r = c.in-Ok-true in
    base_stored (g.K.Keeper.seen c.args.keeper.now).kept _ _ _ c.requires.parts c.deref.result.now c.deref-2.result.now c.deref.ensures.value c.deref-2.ensures.value
    w.stmts.items (some_told _ _ w.field-0 w.stmts w.field-0-is w.ensures.statements)
    (g.K.Keeper.seen c.raw_base_statements.new.keeper).kept c.deref-3.result.now r.field-0 w.ensures.read.kept c.deref-3.ensures.value r.ensures.held
    c.requires.formed r.field-0-test _ c.from_vec.ensures _ c.from_parts.ensures

pub returns-in-Ok-false-clause-base : goal.returns-in-Ok-false-clause-base
returns-in-Ok-false-clause-base g c =
    let w = c.in-Ok-Some in
    let r = c.in-Ok-false in
    none_held (g.K.Keeper.seen c.args.keeper.now).kept _ _ _ c.requires.parts c.deref.result.now c.deref-2.result.now c.deref.ensures.value c.deref-2.ensures.value
    w.stmts.items (some_told _ _ w.field-0 w.stmts w.field-0-is w.ensures.statements)
    (g.K.Keeper.seen c.raw_base_statements.new.keeper).kept c.deref-3.result.now r.field-0 w.ensures.read.kept c.deref-3.ensures.value r.ensures.held r.field-0-test

pub returns-in-Ok-None-clause-base : goal.returns-in-Ok-None-clause-base
returns-in-Ok-None-clause-base g c =
    let r = c.in-Ok-None in
    none_stated (g.K.Keeper.seen c.args.keeper.now).kept _ _ _ c.requires.parts c.deref.result.now c.deref-2.result.now c.deref.ensures.value c.deref-2.ensures.value
    (none_told _ _ r.field-0 r.field-0-is r.ensures.statements)
