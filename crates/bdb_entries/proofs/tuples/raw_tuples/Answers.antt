use Rattle.std.proofs.Common.{◌∙◌, sym, subst}
use Rattle.std.specs.List.{AllByRecursion}
use Rattle.bdb_tables.specs.InUse.{tuple_codec}
use Rattle.bdb_entries.specs.Tuples.{MayBeTurned}
use Rattle.bdb_entries.proofs.ReadLemmas.{some_told}
use Rattle.bdb_entries.proofs.TupleLemmas.{both_turned, not_numbered, not_tupled, turned_may_be}
use Rattle.bdb_entries.proofs.tuples.raw_tuples.Goals as goal

pub are_turned-requires-2 : goal.are_turned-requires-2
are_turned-requires-2 g c =
    let k = c.in-Ok-Some-raw_rows in
    subst (AllByRecursion (MayBeTurned tuple_codec)) (sym c.deref-2.ensures.value)
    (turned_may_be (g.K.Keeper.seen c.raw_rows.new.keeper).kept k.turned.items (some_told _ _ k.field-0 k.turned k.field-0-is k.ensures.rows))

pub returns-in-Ok-false-clause-tuples : goal.returns-in-Ok-false-clause-tuples
returns-in-Ok-false-clause-tuples g c =
    let r = c.in-Ok-Some in
    let k = c.in-Ok-Some-raw_rows in
    not_numbered (g.K.Keeper.seen c.args.keeper.now).kept (g.K.Keeper.seen c.raw_rows-2.new.keeper).kept r.rows.items c.deref.result.now c.in-Ok-false.field-0 (k.ensures.read.kept ∙ r.ensures.read.kept)
    c.deref.ensures.value c.in-Ok-false.field-0-test c.in-Ok-false.ensures.turned (some_told _ _ r.field-0 r.rows r.field-0-is r.ensures.rows)

pub returns-in-Ok-true-are_turned-clause-tuples : goal.returns-in-Ok-true-are_turned-clause-tuples
returns-in-Ok-true-are_turned-clause-tuples g c =
    let r = c.in-Ok-Some in
    let k = c.in-Ok-Some-raw_rows in
    let second = k.ensures.read.kept ∙ r.ensures.read.kept in
    both_turned (g.K.Keeper.seen c.args.keeper.now).kept (g.K.Keeper.seen c.raw_rows.new.keeper).kept (g.K.Keeper.seen c.raw_rows-2.new.keeper).kept (g.K.Keeper.seen c.are_turned.new.keeper).kept
    r.rows.items c.deref.result.now k.turned.items c.deref-2.result.now c.in-Ok-true.field-0 c.in-Ok-true-are_turned.field-0
    r.ensures.read.kept second (c.in-Ok-true.ensures.reading.kept ∙ second) c.deref.ensures.value c.deref-2.ensures.value
    c.in-Ok-true.field-0-test c.in-Ok-true-are_turned.field-0-test c.in-Ok-true.ensures.turned c.in-Ok-true-are_turned.ensures.turned
    (some_told _ _ r.field-0 r.rows r.field-0-is r.ensures.rows) (some_told _ _ k.field-0 k.turned k.field-0-is k.ensures.rows)

pub returns-in-Ok-false-are_turned-clause-tuples : goal.returns-in-Ok-false-are_turned-clause-tuples
returns-in-Ok-false-are_turned-clause-tuples g c =
    let r = c.in-Ok-Some in
    let k = c.in-Ok-Some-raw_rows in
    not_tupled (g.K.Keeper.seen c.args.keeper.now).kept (g.K.Keeper.seen c.raw_rows.new.keeper).kept (g.K.Keeper.seen c.are_turned.new.keeper).kept k.turned.items c.deref-2.result.now c.in-Ok-false-are_turned.field-0
    r.ensures.read.kept (c.in-Ok-true.ensures.reading.kept ∙ k.ensures.read.kept ∙ r.ensures.read.kept) c.deref-2.ensures.value c.in-Ok-false-are_turned.field-0-test c.in-Ok-false-are_turned.ensures.turned
    (some_told _ _ k.field-0 k.turned k.field-0-is k.ensures.rows)
