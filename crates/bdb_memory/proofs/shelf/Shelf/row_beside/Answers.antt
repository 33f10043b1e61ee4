use Rattle.std.proofs.Common.{◌≡◌, [], get_or, sym, ap, ◌∙◌, subst}
use Rattle.std.specs.Prelude.{IfOk, IfErr}
use Rattle.bdb_memory.specs.Entries.{row_of, place_at}
use Rattle.bdb_memory.specs.Blocks.{entry_at, StandsAt, BelongsHere}
use Rattle.bdb_memory.proofs.BlocksLemmas.{place_at-stands, place_at-gap}
use Rattle.bdb_memory.proofs.shelf.Shelf.row_beside.Goals as goal

pub returns-in-Some-Ok-clause-row : goal.returns-in-Some-Ok-clause-row
returns-in-Some-Ok-clause-row c =
    let q = c.args.probe.now in
    let i = c.in-Some-Ok.at.0 in
    let j = c.in-Some-Ok.at.1 in
    let stands : StandsAt c.self.inside.blocks.items q i j = subst (λ bs. StandsAt bs q i j) c.deref.ensures.value (subst (λ r. IfOk r (λ at. StandsAt c.deref.result.now q at.0 at.1)) c.in-Some-Ok.field-0-is c.in-Some-Ok.ensures.there) in
    let entry : c.entry_of.result.now ≡ entry_at (get_or c.self.inside.blocks.items i []) j = c.entry_of.ensures ∙ ap (λ bs. entry_at (get_or bs i []) j) c.deref-in-Some-Ok.ensures.value in
    c.row.ensures ∙ ap (λ e. e.1) entry ∙ sym (ap row_of (place_at-stands c.self.inside.blocks.items q i j stands)) ∙ ap (λ es. row_of (place_at es q)) c.self.view_is

pub returns-in-Some-Err-clause-row : goal.returns-in-Some-Err-clause-row
returns-in-Some-Err-clause-row c =
    let q = c.args.probe.now in
    let i = c.in-Some-Err.at.0 in
    let j = c.in-Some-Err.at.1 in
    let gap : BelongsHere c.self.inside.blocks.items q i j = subst (λ bs. BelongsHere bs q i j) c.deref.ensures.value (subst (λ r. IfErr r (λ at. BelongsHere c.deref.result.now q at.0 at.1)) c.in-Some-Err.field-0-is c.in-Some-Err.ensures.gap) in
    sym (ap row_of (place_at-gap c.self.inside.blocks.items q i j gap)) ∙ ap (λ es. row_of (place_at es q)) c.self.view_is
