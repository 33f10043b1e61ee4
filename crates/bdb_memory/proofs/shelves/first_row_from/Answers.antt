use Rattle.std.proofs.Common.{◌+◌, arith, subst}
use Rattle.bdb_memory.specs.Blocks.{before}
use Rattle.bdb_memory.specs.Shelves.{IsFirstRow, NoRowFrom}
use Rattle.bdb_memory.proofs.ShelvesLemmas.{passed-below, shelf-below, shelf-first, shelf-passed, shelves-passed}
use Rattle.bdb_memory.proofs.shelves.first_row_from.Goals as goal

pub loop-at-init : goal.loop-at-init
loop-at-init c = passed-below c.args.probe.now (before c.args.shelves.now c.args.start 0) (shelf-below c.args.shelves.now c.args.probe.now c.args.start c.requires.sorted c.requires.shelf)

pub returns-in-Some-clause-found : goal.returns-in-Some-clause-found
returns-in-Some-clause-found c =
    shelf-first c.args.shelves.now c.args.probe.now c.loop-at.at c.in-Some.entry.now c.loop-at-test.true c.loop-at.invariant
    (subst (λ es. IsFirstRow es c.args.probe.now c.in-Some.entry.now) c.shelf_at.ensures c.in-Some.ensures.found)

pub loop-at-preserved : goal.loop-at-preserved
loop-at-preserved c =
    shelf-passed c.args.shelves.now c.args.probe.now c.loop-at.at (c.loop-at.at + 1) c.loop-at-test.true c.loop-at.invariant
    (subst (NoRowFrom c.args.probe.now) c.shelf_at.ensures c.in-None.ensures.none) (omega arith)

pub returns-clause-none : goal.returns-clause-none
returns-clause-none c = shelves-passed c.args.shelves.now c.args.probe.now c.loop-at.at c.loop-at-test.false c.loop-at.invariant
