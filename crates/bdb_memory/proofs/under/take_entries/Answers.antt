use Rattle.bdb_memory.proofs.UnderLemmas.{entry-reached, entries-more, entries-past, entries-stopped}
use Rattle.bdb_memory.proofs.under.take_entries.Goals as goal

pub take_entry-requires : goal.take_entry-requires
take_entry-requires c = entry-reached c.args.opening.now c.args.entries.now c.loop-entry.entry-index _ c.entry-item.result c.loop-entry-test.true c.entry-item.is c.requires.above

pub loop-entry-preserved : goal.loop-entry-preserved
loop-entry-preserved c =
    entries-more c.args.opening.now c.args.entries.now c.loop-entry.entry-index c.entry-item.result _ c.args.span.now c.loop-entry.span c.take_entry.new.span c.loop-entry-test.true c.entry-item.is c.loop-entry.invariant c.in-Ok-true.ensures.rows

pub returns-in-Ok-false-clause-rows : goal.returns-in-Ok-false-clause-rows
returns-in-Ok-false-clause-rows c =
    entries-stopped c.args.opening.now c.args.entries.now c.loop-entry.entry-index c.entry-item.result _ c.args.span.now c.loop-entry.span c.take_entry.new.span c.loop-entry-test.true c.entry-item.is c.loop-entry.invariant c.in-Ok-false.ensures.rows
    c.requires.above c.requires.sorted (c.in-Ok-false.ensures.other c.in-Ok-false.field-0-test)

pub returns-in-Ok-false-clause-past : goal.returns-in-Ok-false-clause-past
returns-in-Ok-false-clause-past c _ =
    entries-past c.args.opening.now c.args.entries.now c.loop-entry.entry-index c.entry-item.result _ c.args.span.now c.loop-entry.span c.take_entry.new.span c.loop-entry-test.true c.entry-item.is c.loop-entry.invariant c.in-Ok-false.ensures.rows
    c.requires.above c.requires.sorted (c.in-Ok-false.ensures.other c.in-Ok-false.field-0-test)
