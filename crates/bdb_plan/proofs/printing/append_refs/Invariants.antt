use Rattle.std.proofs.Common.{◌≡◌, ◌++◌, map, take}
use Rattle.std.specs.List.{flat_map}
use Rattle.std.specs.Prelude.{codes}
use Rattle.bdb_plan.specs.PlanText.{ref_text}
use Rattle.bdb_plan.proofs.printing.append_refs.Given as goal

abbrev pub invariant-loop-r : goal.invariant-loop-r
invariant-loop-r l = l.out.items ≡ l.initial.out.items ++ flat_map (λ text. codes ", " ++ text) (map (ref_text l.catalog l.query) (take l.r-index l.rest))
