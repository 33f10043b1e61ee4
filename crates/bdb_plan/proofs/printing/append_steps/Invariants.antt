use Rattle.std.proofs.Common.{◌≡◌, ◌++◌, map, take}
use Rattle.std.specs.List.{flat_map}
use Rattle.bdb_base.specs.Texts.{line}
use Rattle.bdb_plan.specs.PlanText.{step_text}
use Rattle.bdb_plan.proofs.printing.append_steps.Given as goal

abbrev pub invariant-loop-step : goal.invariant-loop-step
invariant-loop-step l = l.out.items ≡ l.initial.out.items ++ flat_map line (map (step_text l.catalog l.query) (take l.step-index l.steps))
