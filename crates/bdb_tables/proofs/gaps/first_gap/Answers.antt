use Rattle.std.proofs.Common.{refl, arith, rules}
use Rattle.bdb_key.specs.Grammar.{IsNum}
use Rattle.bdb_tables.specs.declared.tab.TabError.TheVariants.{Fault}
use Rattle.bdb_tables.proofs.GapLemmas.{none_tried, one_tried, gap_found}
use Rattle.bdb_tables.proofs.Loops.{reading_ends, reading_err, reading_more}
use Rattle.bdb_tables.proofs.gaps.first_gap.Goals as goal

pub loop-number-init : goal.loop-number-init
loop-number-init g c = record {
  goes = search rules;
  kept = search rules;
  writes = search rules;
  counts = search rules;
  read = none_tried (g.K.Keeper.seen c.args.keeper.now).kept c.args.tab c.args.low _ _ refl;
}

pub returns-in-Ok-false-clause-gap : goal.returns-in-Ok-false-clause-gap
returns-in-Ok-false-clause-gap g c =
    let size : IsNum c.loop-number.number = search rules in
    gap_found _ _ _ _ c.loop-number.number _ _ c.in-Ok-false.field-0 size c.loop-number.invariant.kept c.in-Ok-false.field-0-test c.loop-number.invariant.read c.in-Ok-false.ensures.found

pub returns-in-Ok-false-clause-reads : goal.returns-in-Ok-false-clause-reads
returns-in-Ok-false-clause-reads g c = omega (arith, c.loop-number.invariant.read.reads, c.in-Ok-false.ensures.reads)

pub returns-in-Ok-false-clause-read : goal.returns-in-Ok-false-clause-read
returns-in-Ok-false-clause-read g c = reading_ends _ _ _ _ _ Fault c.loop-number.invariant c.in-Ok-false.ensures.read

pub returns-in-Err-clause-read : goal.returns-in-Err-clause-read
returns-in-Err-clause-read g c = reading_err _ _ _ _ Fault c.loop-number.invariant c.in-Err.ensures.read

pub loop-number-preserved : goal.loop-number-preserved
loop-number-preserved g c =
    let old = g.K.Keeper.seen c.args.keeper.now in
    let now = g.K.Keeper.seen c.loop-number.keeper in
    let new = g.K.Keeper.seen c.is_key.new.keeper in
    reading_more old now new c.in-Ok-true.field-0 Fault c.loop-number.invariant c.in-Ok-true.ensures.read
    (one_tried old.kept now.kept c.args.tab c.args.low c.loop-number.number _ old.reads now.reads new.reads c.in-Ok-true.field-0 refl (omega (arith, c.in-Ok-true.ensures.reads)) c.loop-number.invariant.kept c.in-Ok-true.field-0-test
    c.loop-number.invariant.read c.in-Ok-true.ensures.found)
