use Rattle.std.proofs.Common.{◌≡◌, ◌++◌, drop}
use Rattle.bdb_model.specs.Answering.{open_slots}
use Rattle.bdb_model.proofs.queries.open_slots.Given as goal

abbrev pub invariant-loop-item : goal.invariant-loop-item
invariant-loop-item l = open_slots l.items ≡ l.slots.items ++ open_slots (drop l._item-index l.items)
