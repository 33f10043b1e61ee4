use Rattle.std.proofs.Common.{◌∙◌, sym, arith, ◌+◌, ◌-◌, ◌/◌, ◌<◌, length}
use Rattle.bdb_model.proofs.EndLemmas.{search_up, search_down}
use Rattle.bdb_model.proofs.ends.first_at.Goals as goal

pub loop-low-preserved-then-is_before : goal.loop-low-preserved-then-is_before
loop-low-preserved-then-is_before c =
    let mid = c.loop-low.low + (c.loop-low.high - c.loop-low.low) / 2 in
    let within : mid < length c.args.stmts.now = omega arith in
    record {
      in_order = omega arith;
      within = c.loop-low.invariant.within;
      before = search_up c.args.stmts.now c.args.path.now c.index-stmts-mid.result mid c.requires within c.index-stmts-mid.is (sym c.is_before.ensures ∙ c.if-is_before.true);
      behind = c.loop-low.invariant.behind;
    }

pub loop-low-preserved : goal.loop-low-preserved
loop-low-preserved c =
    let mid = c.loop-low.low + (c.loop-low.high - c.loop-low.low) / 2 in
    let within : mid < length c.args.stmts.now = omega arith in
    record {
      in_order = omega arith;
      within = omega arith;
      before = c.loop-low.invariant.before;
      behind = search_down c.args.stmts.now c.args.path.now c.index-stmts-mid.result mid c.requires within c.index-stmts-mid.is (sym c.is_before.ensures ∙ c.if-is_before.false);
    }
