use Rattle.std.proofs.Common.{◌+◌, sym, ap, ◌∙◌, arith, rules}
use Rattle.std.specs.Prelude.{is_some}
use Rattle.bdb_memory.specs.Blocks.{before}
use Rattle.bdb_memory.proofs.BlocksLemmas.{rest-fewer}
use Rattle.bdb_memory.proofs.ShelvesLemmas.{passed-below, passed-more, passed-all}
use Rattle.bdb_memory.proofs.finding.row_from.Goals as goal

pub loop-spot-init : goal.loop-spot-init
loop-spot-init c = (passed-below c.args.probe.now (before c.args.blocks.now c.args.start.0 c.args.start.1) c.requires.bound.below, c.requires.bound.above)

pub loop-spot-preserved : goal.loop-spot-preserved
loop-spot-preserved c =
    passed-more c.args.blocks.now c.args.probe.now c.loop-spot.bound.0 c.loop-spot.bound.1 c.in-Some.spot.0 c.in-Some.spot.1 (c.in-Some.spot.1 + 1) c.loop-spot.invariant.0 c.loop-spot.invariant.1 c.in-Some.ensures.there c.in-Some.ensures.before c.in-Some.ensures.after
    (ap (λ e. is_some e.1) (sym c.entry_of.ensures) ∙ sym c.has_row.ensures ∙ c.if-has_row.false) (omega arith)

pub loop-spot-smaller : goal.loop-spot-smaller
loop-spot-smaller c = rest-fewer c.args.blocks.now c.loop-spot.bound.0 c.loop-spot.bound.1 c.in-Some.spot.0 c.in-Some.spot.1 (c.in-Some.spot.1 + 1) c.in-Some.ensures.there c.in-Some.ensures.after (omega arith)

pub returns-clause-none : goal.returns-clause-none
returns-clause-none c = passed-all c.args.blocks.now c.args.probe.now c.loop-spot.bound.0 c.loop-spot.bound.1 c.loop-spot.invariant.0 (search rules)
