use Rattle.std.proofs.Common.{◌≡◌, ◌++◌, take}
use Rattle.std.specs.List.{flat_map}
use Rattle.bdb_trans.specs.Steps.{due_step}
use Rattle.bdb_trans.proofs.items.append_due.Given as goal

abbrev pub invariant-loop-cond : goal.invariant-loop-cond
invariant-loop-cond l = l.steps ≡ l.fn.steps ++ flat_map (due_step l.set l.at) (take l.cond-index l.conds)
