use Rattle.std.proofs.Common.{sym, subst}
use Rattle.std.specs.Prelude.{IfOk, IfErr}
use Rattle.bdb_memory.specs.Blocks.{IsBoundary, StandsAt, BelongsHere}
use Rattle.bdb_memory.proofs.BesideLemmas.{bound-stands, bound-gap}
use Rattle.bdb_memory.proofs.shelf.Shelf.first_row_beside.Goals as goal

pub entry_from-requires-clause-bound : goal.entry_from-requires-clause-bound
entry_from-requires-clause-bound c =
    let q = c.args.probe.now in
    let i = c.in-Some-Ok.at.0 in
    let j = c.in-Some-Ok.at.1 in
    let bs = c.self.inside.blocks.items in
    subst (λ xs. IsBoundary xs q i j) (sym c.deref-in-Some-Ok.ensures.value) (bound-stands bs q i j c.self.invariant (subst (λ xs. StandsAt xs q i j) c.deref.ensures.value (subst (λ r. IfOk r (λ at. StandsAt c.deref.result.now q at.0 at.1)) c.in-Some-Ok.field-0-is c.in-Some-Ok.ensures.there)))

pub entry_from-requires-in-Some-Err-clause-bound : goal.entry_from-requires-in-Some-Err-clause-bound
entry_from-requires-in-Some-Err-clause-bound c =
    let q = c.args.probe.now in
    let i = c.in-Some-Err.at.0 in
    let j = c.in-Some-Err.at.1 in
    let bs = c.self.inside.blocks.items in
    subst (λ xs. IsBoundary xs q i j) (sym c.deref-in-Some-Err.ensures.value) (bound-gap bs q i j (subst (λ xs. BelongsHere xs q i j) c.deref.ensures.value (subst (λ r. IfErr r (λ at. BelongsHere c.deref.result.now q at.0 at.1)) c.in-Some-Err.field-0-is c.in-Some-Err.ensures.gap)))
