use Rattle.std.proofs.Common.{Some, None, sym, ap, ◌∙◌, subst}
use Rattle.bdb_memory.specs.Entries.{place_at}
use Rattle.bdb_memory.specs.Blocks.{joined, StandsAt}
use Rattle.bdb_memory.specs.Shelves.{IsChangedAt}
use Rattle.bdb_memory.proofs.BlocksLemmas.{place_at-stands}
use Rattle.bdb_memory.proofs.ShelvesLemmas.{changed-replaced}
use Rattle.bdb_memory.proofs.shelf.Shelf.empty_behind.Goals as goal

pub returns-in-Some-clause-found : goal.returns-in-Some-clause-found
returns-in-Some-clause-found c =
    let q = c.args.probe.now in
    let i = c.in-Some.at.0 in
    let j = c.in-Some.at.1 in
    let stands : StandsAt c.self.inside.blocks.items q i j = subst (λ bs. StandsAt bs q i j) c.deref.ensures.value c.in-Some.ensures.there in
    ap (λ es. place_at es q) (sym c.self.view_is) ∙ place_at-stands c.self.inside.blocks.items q i j stands ∙ ap Some (sym c.replace_at.ensures.before)

pub returns-in-Some-clause-set : goal.returns-in-Some-clause-set
returns-in-Some-clause-set c =
    let q = c.args.probe.now in
    let i = c.in-Some.at.0 in
    let j = c.in-Some.at.1 in
    let stands : StandsAt c.self.inside.blocks.items q i j = subst (λ bs. StandsAt bs q i j) c.deref.ensures.value c.in-Some.ensures.there in
    subst (λ es. IsChangedAt es (joined c.replace_at.new.blocks.items) q (place_at es q) (Some None)) c.self.view_is
    (changed-replaced c.self.inside.blocks.items (joined c.replace_at.new.blocks.items) q i j None c.self.invariant stands c.replace_at.ensures.entries)
