use Rattle.std.proofs.Common.{◌+◌, ◌<◌, ◌≤◌, length, refl, arith, rules}
use Rattle.bdb_tables.specs.GroupMarks.{IsNumbered}
use Rattle.bdb_tables.specs.InUse.{val_codec}
use Rattle.bdb_tables.proofs.RangeLemmas.{entries_at, zip_more, zip_all, zip_none}
use Rattle.bdb_tables.proofs.marks.fill_numbered.Goals as goal

pub loop-index-init : goal.loop-index-init
loop-index-init c = zip_none (λ b x. IsNumbered b.0 b.1 x) c.args.span.now c.reserve.new.self.items (search rules)

pub numbered_from-requires : goal.numbered_from-requires
numbered_from-requires c =
    let lt : c.loop-index.index < length c.args.span.now = omega (arith, c.len-index-end.ensures, c.loop-index-test.true) in
    entries_at val_codec c.args.span.now c.loop-index.index c.entry.result.0.now c.entry.result.1.now c.requires lt c.entry.ensures

pub loop-index-preserved : goal.loop-index-preserved
loop-index-preserved c =
    let lt : c.loop-index.index < length c.args.span.now = omega (arith, c.len-index-end.ensures, c.loop-index-test.true) in
    zip_more (λ b x. IsNumbered b.0 b.1 x) c.args.span.now c.loop-index.rows.items c.push.new.self.items c.loop-index.index (c.loop-index.index + 1) (c.entry.result.0.now, c.entry.result.1.now) c.numbered_from.result lt
    c.entry.ensures c.loop-index.invariant c.numbered_from.ensures (search rules) refl

pub returns : goal.returns
returns c =
    let end : length c.args.span.now ≤ c.loop-index.index = omega (arith, c.len-index-end.ensures, c.loop-index-test.false) in
    zip_all (λ b x. IsNumbered b.0 b.1 x) c.args.span.now c.loop-index.rows.items c.loop-index.index end c.loop-index.invariant
