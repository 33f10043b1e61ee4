use Rattle.std.proofs.Common.{Some, sym, ap, ◌∙◌, subst}
use Rattle.bdb_memory.specs.Entries.{place_at}
use Rattle.bdb_memory.specs.Blocks.{joined, StandsAt, BelongsHere}
use Rattle.bdb_memory.specs.Shelves.{IsChangedAt}
use Rattle.bdb_memory.proofs.BlocksLemmas.{place_at-stands, place_at-gap}
use Rattle.bdb_memory.proofs.ShelvesLemmas.{changed-replaced, changed-added}
use Rattle.bdb_memory.proofs.shelf.Shelf.insert.Goals as goal

pub returns-in_ok-row-in-Ok-clause-found : goal.returns-in_ok-row-in-Ok-clause-found
returns-in_ok-row-in-Ok-clause-found c =
    let q = c.args.probe.now in
    let stands : StandsAt c.self.inside.blocks.items q c.in-Ok.spot.0 c.in-Ok.spot.1 = subst (λ bs. StandsAt bs q c.in-Ok.spot.0 c.in-Ok.spot.1) c.deref.ensures.value c.in-Ok.ensures.there in
    ap (λ es. place_at es q) (sym c.self.view_is) ∙ place_at-stands c.self.inside.blocks.items q c.in-Ok.spot.0 c.in-Ok.spot.1 stands ∙ ap Some (sym c.replace_at.ensures.before)

pub returns-in_ok-row-in-Ok-clause-set : goal.returns-in_ok-row-in-Ok-clause-set
returns-in_ok-row-in-Ok-clause-set c =
    let q = c.args.probe.now in
    let stands : StandsAt c.self.inside.blocks.items q c.in-Ok.spot.0 c.in-Ok.spot.1 = subst (λ bs. StandsAt bs q c.in-Ok.spot.0 c.in-Ok.spot.1) c.deref.ensures.value c.in-Ok.ensures.there in
    subst (λ r. IsChangedAt c.args.self.now (joined c.replace_at.new.blocks.items) q (place_at c.args.self.now q) (Some (Some r))) c.in_ok-row-in-Ok.ensures
    (subst (λ es. IsChangedAt es (joined c.replace_at.new.blocks.items) q (place_at es q) (Some (Some c.in_ok-row-in-Ok.row))) c.self.view_is
    (changed-replaced c.self.inside.blocks.items (joined c.replace_at.new.blocks.items) q c.in-Ok.spot.0 c.in-Ok.spot.1 (Some c.in_ok-row-in-Ok.row) c.self.invariant stands c.replace_at.ensures.entries))

pub returns-in_ok-spot-in-Err-clause-found : goal.returns-in_ok-spot-in-Err-clause-found
returns-in_ok-spot-in-Err-clause-found c =
    let q = c.args.probe.now in
    let gap : BelongsHere c.self.inside.blocks.items q c.in-Err.spot.0 c.in-Err.spot.1 = subst (λ bs. BelongsHere bs q c.in-Err.spot.0 c.in-Err.spot.1) c.deref.ensures.value c.in-Err.ensures.gap in
    ap (λ es. place_at es q) (sym c.self.view_is) ∙ place_at-gap c.self.inside.blocks.items q c.in-Err.spot.0 c.in-Err.spot.1 gap

pub returns-in_ok-spot-in-Err-clause-set : goal.returns-in_ok-spot-in-Err-clause-set
returns-in_ok-spot-in-Err-clause-set c =
    let q = c.args.probe.now in
    let gap : BelongsHere c.self.inside.blocks.items q c.in-Err.spot.0 c.in-Err.spot.1 = subst (λ bs. BelongsHere bs q c.in-Err.spot.0 c.in-Err.spot.1) c.deref.ensures.value c.in-Err.ensures.gap in
    subst (λ es. IsChangedAt es (joined c.add.new.blocks.items) q (place_at es q) (Some (Some c.args.row.now))) c.self.view_is
    (changed-added c.self.inside.blocks.items (joined c.add.new.blocks.items) q (Some c.args.row.now) c.in-Err.spot.0 c.in-Err.spot.1 gap c.in_ok-spot-in-Err.ensures.ok)
