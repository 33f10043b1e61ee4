use Rattle.std.proofs.Common.{None, subst}
use Rattle.bdb_memory.specs.Entries.{place_at}
use Rattle.bdb_memory.specs.Blocks.{joined, StandsAt, BelongsHere}
use Rattle.bdb_memory.specs.Shelves.{IsChangedAt}
use Rattle.bdb_memory.proofs.ShelvesLemmas.{changed-taken, changed-nothing}
use Rattle.bdb_memory.proofs.shelf.Shelf.remove.Goals as goal

pub returns-in-Ok : goal.returns-in-Ok
returns-in-Ok c =
    let q = c.args.probe.now in
    let stands : StandsAt c.self.inside.blocks.items q c.in-Ok.spot.0 c.in-Ok.spot.1 = subst (λ bs. StandsAt bs q c.in-Ok.spot.0 c.in-Ok.spot.1) c.deref.ensures.value c.in-Ok.ensures.there in
    subst (λ es. IsChangedAt es (joined c.take_out.new.blocks.items) q (place_at es q) None) c.self.view_is
    (changed-taken c.self.inside.blocks.items (joined c.take_out.new.blocks.items) q c.in-Ok.spot.0 c.in-Ok.spot.1 c.self.invariant stands c.take_out.ensures.rest)

pub returns-in-Err : goal.returns-in-Err
returns-in-Err c =
    let q = c.args.probe.now in
    let gap : BelongsHere c.self.inside.blocks.items q c.in-Err.spot.0 c.in-Err.spot.1 = subst (λ bs. BelongsHere bs q c.in-Err.spot.0 c.in-Err.spot.1) c.deref.ensures.value c.in-Err.ensures.gap in
    subst (λ es. IsChangedAt es es q (place_at es q) None) c.self.view_is (changed-nothing c.self.inside.blocks.items q c.in-Err.spot.0 c.in-Err.spot.1 gap)
