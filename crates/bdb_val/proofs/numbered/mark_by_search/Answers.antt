use Rattle.std.proofs.Common.{◌+◌, ◌-◌, ◌/◌, ◌<◌, ◌≡◌, false, length, get_or, arith, sym}
use Rattle.bdb_base.specs.declared.kinds.Sign.TheVariants.{Plus}
use Rattle.bdb_val.proofs.NumberedLemmas.{Entry, one_place, mark_at, halved, below_middle, above_middle}
use Rattle.bdb_val.proofs.numbered.mark_by_search.Goals as goal

pub loop-low-preserved-then-row-tid : goal.loop-low-preserved-then-row-tid
loop-low-preserved-then-row-tid c =
    let rows = c.args.rows.now in
    let mid = c.loop-low.low + (c.loop-low.high - c.loop-low.low) / 2 in
    let within : mid < length rows = omega arith in
    let row = get_or rows mid (0, (Plus, false)) in
    record {
      in_order = omega arith;
      within = c.loop-low.invariant.within;
      below = below_middle rows mid row c.args.tid c.requires within (one_place rows mid (0, (Plus, false)) row within) c.if-row-tid.true;
      above = c.loop-low.invariant.above;
    }

pub loop-low-preserved : goal.loop-low-preserved
loop-low-preserved c =
    let rows = c.args.rows.now in
    let mid = c.loop-low.low + (c.loop-low.high - c.loop-low.low) / 2 in
    let within : mid < length rows = omega arith in
    let row = get_or rows mid (0, (Plus, false)) in
    record {
      in_order = omega arith;
      within = omega arith;
      below = c.loop-low.invariant.below;
      above = above_middle rows mid row c.args.tid c.requires within (one_place rows mid (0, (Plus, false)) row within) c.if-row-tid-2.true;
    }

pub returns-else-row-tid-2 : goal.returns-else-row-tid-2
returns-else-row-tid-2 c =
    let rows = c.args.rows.now in
    let mid = c.loop-low.low + (c.loop-low.high - c.loop-low.low) / 2 in
    let within : mid < length rows = omega arith in
    let row : Entry = get_or rows mid (0, (Plus, false)) in
    let same : row.0 ≡ c.args.tid = omega arith in
    sym (mark_at rows mid row c.args.tid c.requires within (one_place rows mid (0, (Plus, false)) row within) same)

pub returns : goal.returns
returns c = sym (halved c.args.rows.now c.args.tid c.loop-low.low c.loop-low.high (omega arith) c.loop-low.invariant.below c.loop-low.invariant.above)
