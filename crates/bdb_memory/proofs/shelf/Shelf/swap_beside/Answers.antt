use Rattle.std.proofs.Common.{Some, sym, ap, ◌∙◌, subst}
use Rattle.std.specs.Prelude.{IfOk}
use Rattle.bdb_memory.specs.Entries.{place_at}
use Rattle.bdb_memory.specs.Blocks.{joined, StandsAt}
use Rattle.bdb_memory.specs.Shelves.{IsChangedAt}
use Rattle.bdb_memory.proofs.BlocksLemmas.{place_at-stands}
use Rattle.bdb_memory.proofs.ShelvesLemmas.{changed-replaced}
use Rattle.bdb_memory.proofs.shelf.Shelf.swap_beside.Goals as goal

pub returns-in-Some-Ok-clause-found : goal.returns-in-Some-Ok-clause-found
returns-in-Some-Ok-clause-found c =
    let q = c.args.probe.now in
    let i = c.in-Some-Ok.at.0 in
    let j = c.in-Some-Ok.at.1 in
    let stands : StandsAt c.self.inside.blocks.items q i j = subst (λ bs. StandsAt bs q i j) c.deref.ensures.value (subst (λ r. IfOk r (λ at. StandsAt c.deref.result.now q at.0 at.1)) c.in-Some-Ok.field-0-is c.in-Some-Ok.ensures.there) in
    ap (λ es. place_at es q) (sym c.self.view_is) ∙ place_at-stands c.self.inside.blocks.items q i j stands ∙ ap Some (sym c.replace_at.ensures.before)

pub returns-in-Some-Ok-clause-set : goal.returns-in-Some-Ok-clause-set
returns-in-Some-Ok-clause-set c =
    let q = c.args.probe.now in
    let i = c.in-Some-Ok.at.0 in
    let j = c.in-Some-Ok.at.1 in
    let stands : StandsAt c.self.inside.blocks.items q i j = subst (λ bs. StandsAt bs q i j) c.deref.ensures.value (subst (λ r. IfOk r (λ at. StandsAt c.deref.result.now q at.0 at.1)) c.in-Some-Ok.field-0-is c.in-Some-Ok.ensures.there) in
    subst (λ es. IsChangedAt es (joined c.replace_at.new.blocks.items) q (place_at es q) (Some c.args.row)) c.self.view_is
    (changed-replaced c.self.inside.blocks.items (joined c.replace_at.new.blocks.items) q i j c.args.row c.self.invariant stands c.replace_at.ensures.entries)
