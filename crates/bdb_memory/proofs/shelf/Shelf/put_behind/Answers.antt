use Rattle.std.proofs.Common.{Some, sym, ap, ◌∙◌, subst}
use Rattle.bdb_memory.specs.Entries.{place_at, row_of}
use Rattle.bdb_memory.specs.Blocks.{joined, StandsAt, BelongsHere}
use Rattle.bdb_memory.specs.Shelves.{IsChangedAt}
use Rattle.bdb_memory.proofs.BlocksLemmas.{found-gap, found-stands, place_at-stands}
use Rattle.bdb_memory.proofs.ShelvesLemmas.{absent-in_gap, added-in_gap, changed-replaced, told-none, told-some}
use Rattle.bdb_memory.proofs.shelf.Shelf.put_behind.Goals as goal
use Rattle.bdb_memory.proofs.shelf.Shelf.put_behind.Goals.{After-replace_at, Joined-add, in-Ok-add, in-Err-add}

-- the place stands where it was found
stands : (c : After-replace_at) → StandsAt c.self.inside.blocks.items c.args.probe.now c.in-Some-Ok.at.0 c.in-Some-Ok.at.1
stands c = found-stands _ _ _ _ c.in-Some-Ok.at c.deref.ensures.value c.in-Some-Ok.field-0-is c.in-Some-Ok.ensures.there

pub returns-in-Ok-clause-found : goal.returns-in-Ok-clause-found
returns-in-Ok-clause-found c =
    ap row_of (ap (λ es. place_at es c.args.probe.now) (sym c.self.view_is) ∙ place_at-stands _ _ _ _ (stands c)) ∙ sym c.replace_at.ensures.before

pub returns-in-Ok-clause-set : goal.returns-in-Ok-clause-set
returns-in-Ok-clause-set c =
    let q = c.args.probe.now in
    let now = joined c.replace_at.new.blocks.items in
    subst (λ r. IsChangedAt c.args.self.now now q (place_at c.args.self.now q) (Some (Some r))) c.in-Ok.ensures
    (subst (λ es. IsChangedAt es now q (place_at es q) (Some (Some c.in-Ok.row))) c.self.view_is
    (changed-replaced _ now q _ _ (Some c.in-Ok.row) c.self.invariant (stands c) c.replace_at.ensures.entries))

-- the place belongs in the gap that was found
gap : (c : Joined-add) → BelongsHere c.self.inside.blocks.items c.args.probe.now c.in-Some-Err.at.0 c.in-Some-Err.at.1
gap c = found-gap _ _ _ _ c.in-Some-Err.at c.deref.ensures.value c.in-Some-Err.field-0-is c.in-Some-Err.ensures.gap

pub returns-after-add-clause-found : goal.returns-after-add-clause-found
returns-after-add-clause-found c = elim c.match-add.branch [
  | in-Ok-add w ↦ told-some _ _ _ w.result-is (ap row_of (absent-in_gap _ _ _ _ _ c.self.view_is (gap c)))
  | in-Err-add w ↦ told-none _ _ w.result-is
]

pub returns-after-add-clause-set : goal.returns-after-add-clause-set
returns-after-add-clause-set c = elim c.match-add.branch [
  | in-Ok-add w ↦ told-some _ _ _ w.result-is (added-in_gap _ _ _ _ _ _ _ c.self.view_is (gap c) w.in-Ok-add.ensures.ok)
  | in-Err-add w ↦ told-none _ _ w.result-is
]
