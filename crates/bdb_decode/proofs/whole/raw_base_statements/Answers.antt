use Rattle.std.proofs.Common.{inl, inr, subst, sym}
use Rattle.bdb_entries.proofs.ReadLemmas.{none_told, past, some_told}
use Rattle.bdb_entries.proofs.TupleLemmas.{holding}
use Rattle.bdb_decode.specs.Whole.{AreWhole}
use Rattle.bdb_decode.proofs.whole.raw_base_statements.Goals as goal

pub returns-in-Ok-true-clause-statements : goal.returns-in-Ok-true-clause-statements
returns-in-Ok-true-clause-statements g c = record {
  stated = some_told _ _ c.in-Ok-Some.field-0 c.in-Ok-Some.stmts c.in-Ok-Some.field-0-is c.in-Ok-Some.ensures.statements;
  whole = subst (AreWhole c.args.catalog.now c.args.worlds.now c.args.tuples.now) c.deref.ensures.value (holding _ _ c.in-Ok-true.field-0 c.in-Ok-true.field-0-test c.in-Ok-true.ensures);
}

pub returns-in-Ok-false-clause-statements : goal.returns-in-Ok-false-clause-statements
returns-in-Ok-false-clause-statements g c = inr (record {
  stmts = c.in-Ok-Some.stmts.items;
  stated = some_told _ _ c.in-Ok-Some.field-0 c.in-Ok-Some.stmts c.in-Ok-Some.field-0-is c.in-Ok-Some.ensures.statements;
  other = λ w. past _ _ c.in-Ok-false.field-0 c.in-Ok-false.field-0-test c.in-Ok-false.ensures
      (subst (AreWhole c.args.catalog.now c.args.worlds.now c.args.tuples.now) (sym c.deref.ensures.value) w);
})

pub returns-in-Ok-None-clause-statements : goal.returns-in-Ok-None-clause-statements
returns-in-Ok-None-clause-statements g c = inl (none_told _ _ c.in-Ok-None.field-0 c.in-Ok-None.field-0-is c.in-Ok-None.ensures.statements)
