use Rattle.std.proofs.Common.{◌≡◌, ◌+◌, ◌++◌, ◌∙◌, [], get_or, refl, ap, subst}
use Rattle.bdb_memory.specs.Under.{entries_under, HasPast}
use Rattle.bdb_memory.proofs.UnderLemmas.{shelf-open, shelf-closed}
use Rattle.bdb_memory.proofs.shelves.read_under_from.Goals as goal

pub returns-then-not-goes_on : goal.returns-then-not-goes_on
returns-then-not-goes_on c =
    let p = c.args.probe.now in
    let bs = c.args.shelves.now in
    let old = c.args.span.now in
    let one : c.read_under.new.span ≡ old ++ entries_under p (get_or bs c.args.start []) = c.in_ok-first.ensures.rows ∙ ap (λ es. old ++ entries_under p es) c.shelf_at-shelf.ensures in
    shelf-closed p bs c.args.start old c.read_under.new.span c.requires.sorted c.requires.shelf one (subst (HasPast p) c.shelf_at-shelf.ensures (c.in_ok-first.ensures.past c.if-not-goes_on.true))

pub returns : goal.returns
returns c =
    let p = c.args.probe.now in
    let bs = c.args.shelves.now in
    let old = c.args.span.now in
    let one : c.read_under.new.span ≡ old ++ entries_under p (get_or bs c.args.start []) = c.in_ok-first.ensures.rows ∙ ap (λ es. old ++ entries_under p es) c.shelf_at-shelf.ensures in
    shelf-open p bs c.args.start old c.read_under.new.span c.requires.sorted c.requires.shelf one c.read_under_behind.new.span (c.args.start + 1) refl c.in_ok-read_under_behind.ensures
