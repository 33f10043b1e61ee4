use Rattle.bdb_memory.specs.Blocks.{BelongsHere}
use Rattle.bdb_memory.proofs.BlocksLemmas.{found-gap}
use Rattle.bdb_memory.proofs.ShelvesLemmas.{absent-in_gap, added-in_gap, told-none, told-some}
use Rattle.bdb_memory.proofs.shelf.Shelf.add_beside.Goals as goal
use Rattle.bdb_memory.proofs.shelf.Shelf.add_beside.Goals.{Joined-add, in-Ok, in-Err}

-- the place belongs in the gap that was found
gap : (c : Joined-add) → BelongsHere c.self.inside.blocks.items c.args.probe.now c.in-Some-Err.at.0 c.in-Some-Err.at.1
gap c = found-gap _ _ _ _ c.in-Some-Err.at c.deref.ensures.value c.in-Some-Err.field-0-is c.in-Some-Err.ensures.gap

pub returns-after-add-clause-absent : goal.returns-after-add-clause-absent
returns-after-add-clause-absent c = elim c.match-add.branch [
  | in-Ok w ↦ told-some _ _ _ w.result-is (absent-in_gap _ _ _ _ _ c.self.view_is (gap c))
  | in-Err w ↦ told-none _ _ w.result-is
]

pub returns-after-add-clause-set : goal.returns-after-add-clause-set
returns-after-add-clause-set c = elim c.match-add.branch [
  | in-Ok w ↦ told-some _ _ _ w.result-is (added-in_gap _ _ _ _ _ _ _ c.self.view_is (gap c) w.in-Ok.ensures.ok)
  | in-Err w ↦ told-none _ _ w.result-is
]
