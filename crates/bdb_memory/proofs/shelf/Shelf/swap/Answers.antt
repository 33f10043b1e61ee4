use Rattle.std.proofs.Common.{Some, sym, ap, ◌∙◌, subst}
use Rattle.bdb_memory.specs.Entries.{place_at}
use Rattle.bdb_memory.specs.Blocks.{joined, StandsAt, BelongsHere}
use Rattle.bdb_memory.specs.Shelves.{IsChangedAt}
use Rattle.bdb_memory.proofs.BlocksLemmas.{place_at-stands, place_at-gap}
use Rattle.bdb_memory.proofs.ShelvesLemmas.{changed-replaced}
use Rattle.bdb_memory.proofs.shelf.Shelf.swap.Goals as goal

pub returns-in-Ok-clause-found : goal.returns-in-Ok-clause-found
returns-in-Ok-clause-found c =
    let q = c.args.probe.now in
    let stands : StandsAt c.self.inside.blocks.items q c.in-Ok.spot.0 c.in-Ok.spot.1 = subst (λ bs. StandsAt bs q c.in-Ok.spot.0 c.in-Ok.spot.1) c.deref.ensures.value c.in-Ok.ensures.there in
    ap (λ es. place_at es q) (sym c.self.view_is) ∙ place_at-stands c.self.inside.blocks.items q c.in-Ok.spot.0 c.in-Ok.spot.1 stands ∙ ap Some (sym c.replace_at.ensures.before)

pub returns-in-Ok-clause-set : goal.returns-in-Ok-clause-set
returns-in-Ok-clause-set c =
    let q = c.args.probe.now in
    let stands : StandsAt c.self.inside.blocks.items q c.in-Ok.spot.0 c.in-Ok.spot.1 = subst (λ bs. StandsAt bs q c.in-Ok.spot.0 c.in-Ok.spot.1) c.deref.ensures.value c.in-Ok.ensures.there in
    subst (λ es. IsChangedAt es (joined c.replace_at.new.blocks.items) q (place_at es q) (Some c.args.row)) c.self.view_is
    (changed-replaced c.self.inside.blocks.items (joined c.replace_at.new.blocks.items) q c.in-Ok.spot.0 c.in-Ok.spot.1 c.args.row c.self.invariant stands c.replace_at.ensures.entries)

pub returns-in-Err-clause-absent : goal.returns-in-Err-clause-absent
returns-in-Err-clause-absent c =
    let q = c.args.probe.now in
    let gap : BelongsHere c.self.inside.blocks.items q c.in-Err.field-0.0 c.in-Err.field-0.1 = subst (λ bs. BelongsHere bs q c.in-Err.field-0.0 c.in-Err.field-0.1) c.deref.ensures.value c.in-Err.ensures.gap in
    ap (λ es. place_at es q) (sym c.self.view_is) ∙ place_at-gap c.self.inside.blocks.items q c.in-Err.field-0.0 c.in-Err.field-0.1 gap
