use Rattle.std.proofs.Common.{◌≡◌, [], get_or, sym, ap, ◌∙◌, subst}
use Rattle.bdb_memory.specs.Entries.{row_of, place_at}
use Rattle.bdb_memory.specs.Blocks.{entry_at, StandsAt, BelongsHere}
use Rattle.bdb_memory.proofs.BlocksLemmas.{place_at-stands, place_at-gap}
use Rattle.bdb_memory.proofs.shelf.Shelf.row_at.Goals as goal

pub returns-in-Ok : goal.returns-in-Ok
returns-in-Ok c =
    let q = c.args.probe.now in
    let stands : StandsAt c.self.inside.blocks.items q c.in-Ok.spot.0 c.in-Ok.spot.1 = subst (λ bs. StandsAt bs q c.in-Ok.spot.0 c.in-Ok.spot.1) c.deref.ensures.value c.in-Ok.ensures.there in
    let entry : c.entry_of.result.now ≡ entry_at (get_or c.self.inside.blocks.items c.in-Ok.spot.0 []) c.in-Ok.spot.1 =
    c.entry_of.ensures ∙ ap (λ bs. entry_at (get_or bs c.in-Ok.spot.0 []) c.in-Ok.spot.1) c.deref-in-Ok.ensures.value in
    c.row.ensures ∙ ap (λ e. e.1) entry ∙ sym (ap row_of (place_at-stands c.self.inside.blocks.items q c.in-Ok.spot.0 c.in-Ok.spot.1 stands)) ∙ ap (λ es. row_of (place_at es q)) c.self.view_is

pub returns-in-Err : goal.returns-in-Err
returns-in-Err c =
    let q = c.args.probe.now in
    let gap : BelongsHere c.self.inside.blocks.items q c.in-Err.spot.0 c.in-Err.spot.1 = subst (λ bs. BelongsHere bs q c.in-Err.spot.0 c.in-Err.spot.1) c.deref.ensures.value c.in-Err.ensures.gap in
    sym (ap row_of (place_at-gap c.self.inside.blocks.items q c.in-Err.spot.0 c.in-Err.spot.1 gap)) ∙ ap (λ es. row_of (place_at es q)) c.self.view_is
