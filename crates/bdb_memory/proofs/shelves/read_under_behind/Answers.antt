use Rattle.std.proofs.Common.{◌≡◌, ◌+◌, ◌++◌, ◌∙◌, [], get_or, refl, ap, subst}
use Rattle.bdb_memory.specs.Blocks.{after}
use Rattle.bdb_memory.specs.Under.{entries_under, HasPast}
use Rattle.bdb_memory.proofs.UnderLemmas.{left-more, left-past, left-none}
use Rattle.bdb_memory.proofs.shelves.read_under_behind.Goals as goal

pub returns-then-not-goes_on : goal.returns-then-not-goes_on
returns-then-not-goes_on c =
    let p = c.args.probe.now in
    let bs = c.args.shelves.now in
    let one : c.read_under.new.span ≡ c.loop-at.span ++ entries_under p (get_or bs c.loop-at.at []) = c.in-Ok.ensures.rows ∙ ap (λ es. c.loop-at.span ++ entries_under p es) c.shelf_at.ensures in
    left-past p bs c.loop-at.at c.loop-at.span c.read_under.new.span (c.args.span.now ++ entries_under p (after bs c.args.start 0)) c.loop-at-test.true c.loop-at.invariant one c.requires.sorted.ascends
    (subst (HasPast p) c.shelf_at.ensures (c.in-Ok.ensures.past c.if-not-goes_on.true))

pub loop-at-preserved : goal.loop-at-preserved
loop-at-preserved c =
    let p = c.args.probe.now in
    let bs = c.args.shelves.now in
    let one : c.read_under.new.span ≡ c.loop-at.span ++ entries_under p (get_or bs c.loop-at.at []) = c.in-Ok.ensures.rows ∙ ap (λ es. c.loop-at.span ++ entries_under p es) c.shelf_at.ensures in
    left-more p bs c.loop-at.at c.loop-at.span c.read_under.new.span (c.args.span.now ++ entries_under p (after bs c.args.start 0)) c.loop-at-test.true c.loop-at.invariant one (c.loop-at.at + 1) refl

pub returns : goal.returns
returns c =
    let p = c.args.probe.now in
    let bs = c.args.shelves.now in
    left-none p bs c.loop-at.at c.loop-at.span (c.args.span.now ++ entries_under p (after bs c.args.start 0)) c.loop-at-test.false c.loop-at.invariant
