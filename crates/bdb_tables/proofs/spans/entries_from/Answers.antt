use Rattle.std.proofs.Common.{◌+◌, ◌<◌, ◌≤◌, length, refl, arith, rules}
use Rattle.bdb_tables.specs.Spans.{Spells}
use Rattle.bdb_tables.proofs.Held.{key_of_entry, row_of_entry}
use Rattle.bdb_tables.proofs.RangeLemmas.{entries_at, zip_more, zip_all, zip_none}
use Rattle.bdb_tables.proofs.spans.entries_from.Goals as goal

pub loop-index-init : goal.loop-index-init
loop-index-init g c = zip_none (Spells g.T.Tab.codec) c.args.span.now c.in_ok-rows.rows.items (search rules)

pub entry_from-requires-clause-key : goal.entry_from-requires-clause-key
entry_from-requires-clause-key g c =
    let lt : c.loop-index.index < length c.args.span.now = omega (arith, c.len-index-end.ensures, c.loop-index-test.true) in
    key_of_entry g.T.Tab.codec c.entry.result.0.now c.entry.result.1.now (entries_at g.T.Tab.codec c.args.span.now c.loop-index.index c.entry.result.0.now c.entry.result.1.now c.requires lt c.entry.ensures)

pub entry_from-requires-clause-row : goal.entry_from-requires-clause-row
entry_from-requires-clause-row g c =
    let lt : c.loop-index.index < length c.args.span.now = omega (arith, c.len-index-end.ensures, c.loop-index-test.true) in
    row_of_entry g.T.Tab.codec c.entry.result.0.now c.entry.result.1.now (entries_at g.T.Tab.codec c.args.span.now c.loop-index.index c.entry.result.0.now c.entry.result.1.now c.requires lt c.entry.ensures)

pub loop-index-preserved : goal.loop-index-preserved
loop-index-preserved g c =
    let lt : c.loop-index.index < length c.args.span.now = omega (arith, c.len-index-end.ensures, c.loop-index-test.true) in
    zip_more (Spells g.T.Tab.codec) c.args.span.now c.loop-index.rows.items c.push.new.self.items c.loop-index.index (c.loop-index.index + 1) (c.entry.result.0.now, c.entry.result.1.now) c.in_ok-entry.entry lt
    c.entry.ensures c.loop-index.invariant (record { key = c.in_ok-entry.ensures.key; row = c.in_ok-entry.ensures.row }) (search rules) refl

pub returns : goal.returns
returns g c =
    let end : length c.args.span.now ≤ c.loop-index.index = omega (arith, c.len-index-end.ensures, c.loop-index-test.false) in
    zip_all (Spells g.T.Tab.codec) c.args.span.now c.loop-index.rows.items c.loop-index.index end c.loop-index.invariant
