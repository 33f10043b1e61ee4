use Rattle.std.proofs.Common.{◌≡◌, ◌≤◌, ◌<◌, false, refl, arith, rules}
use Rattle.bdb_base.specs.Limits.{most_worlds}
use Rattle.bdb_tables.specs.declared.tab.TabError.TheVariants.{Fault}
use Rattle.bdb_tables.proofs.Loops.{reading_more}
use Rattle.bdb_decode.specs.Limits.{is_shallow}
use Rattle.bdb_decode.proofs.LimitLemmas.{foreign_stores_none, shallow_more, shallow_none, too_deep, too_many, within_limits}
use Rattle.bdb_entries.proofs.ReadLemmas.{none_told, some_told}
use Rattle.bdb_decode.proofs.limits.worlds_are_within_limits.Goals as goal

pub loop-many-init : goal.loop-many-init
loop-many-init g c = record {
  goes = search rules;
  kept = search rules;
  writes = search rules;
  counts = search rules;
  read = shallow_none (g.K.Keeper.seen c.args.keeper.now).kept c.new-low.result.items 0 c.new-low.ensures.items refl;
}

pub loop-many-preserved : goal.loop-many-preserved
loop-many-preserved g c =
    let old = g.K.Keeper.seen c.args.keeper.now in
    let now = g.K.Keeper.seen c.loop-many.keeper in
    let new = g.K.Keeper.seen c.next_raw.new.keeper in
    let w = c.in-Ok-Some-Some in
    reading_more old now new w.field-0 Fault c.loop-many.invariant w.ensures.read
    (shallow_more old.kept now.kept c.loop-many.low.items c.next_raw.new.low.items c.loop-many.many w.field-0-0 w.row c.loop-many.invariant.kept w.field-0-0-is (search rules) c.loop-many.invariant.read
    (some_told _ _ w.field-0 w.field-0-0 w.field-0-is w.ensures.found))

pub returns-in-Ok-Some-None-clause-within : goal.returns-in-Ok-Some-None-clause-within
returns-in-Ok-Some-None-clause-within g c =
    let w = c.in-Ok-Some-None in
    let few : c.loop-many.many ≤ most_worlds = omega (arith, c.loop-many-test.true) in
    within_limits (g.K.Keeper.seen c.args.keeper.now).kept (g.K.Keeper.seen c.loop-many.keeper).kept c.loop-many.low.items c.next_raw.new.low.items c.loop-many.many w.field-0-0
    c.loop-many.invariant.kept w.field-0-0-is few c.loop-many.invariant.read (some_told _ _ w.field-0 w.field-0-0 w.field-0-is w.ensures.found)

pub returns-in-Ok-None-clause-within : goal.returns-in-Ok-None-clause-within
returns-in-Ok-None-clause-within g c =
    foreign_stores_none (g.K.Keeper.seen c.args.keeper.now).kept (g.K.Keeper.seen c.loop-many.keeper).kept c.loop-many.low.items c.loop-many.invariant.kept
    (none_told _ _ c.in-Ok-None.field-0 c.in-Ok-None.field-0-is c.in-Ok-None.ensures.found)

pub returns-then-not-is_shallow-clause-within : goal.returns-then-not-is_shallow-clause-within
returns-then-not-is_shallow-clause-within g c =
    let w = c.in-Ok-Some-Some in
    let deep : is_shallow w.row ≡ false = search rules in
    too_deep (g.K.Keeper.seen c.args.keeper.now).kept (g.K.Keeper.seen c.loop-many.keeper).kept c.loop-many.low.items c.next_raw.new.low.items w.field-0-0 w.row c.loop-many.invariant.kept w.field-0-0-is deep
    (some_told _ _ w.field-0 w.field-0-0 w.field-0-is w.ensures.found)

pub returns-clause-within : goal.returns-clause-within
returns-clause-within g c =
    let more : most_worlds < c.loop-many.many = omega (arith, c.loop-many-test.false) in
    too_many (g.K.Keeper.seen c.args.keeper.now).kept c.loop-many.low.items c.loop-many.many more c.loop-many.invariant.read
