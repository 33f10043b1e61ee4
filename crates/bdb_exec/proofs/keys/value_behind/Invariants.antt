use Rattle.std.proofs.Common.{◌≡◌, drop}
use Rattle.bdb_exec.specs.Keys.{value_behind}
use Rattle.bdb_exec.proofs.keys.value_behind.Given as goal

-- the steps that are left ask for what the whole asks for
abbrev pub invariant-loop-step : goal.invariant-loop-step
invariant-loop-step l = value_behind l.slots l.item l.behind l.col ≡ value_behind l.slots l.item (drop l.step-index l.behind) l.col
