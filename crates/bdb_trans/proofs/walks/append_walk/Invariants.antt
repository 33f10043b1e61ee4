use Rattle.std.proofs.Common.{◌≡◌, ◌++◌, drop}
use Rattle.bdb_plan.specs.PlanOf.{walk_from, walk_of}
use Rattle.bdb_trans.proofs.walks.append_walk.Given as goal

abbrev pub invariant-loop-who : goal.invariant-loop-who
invariant-loop-who l = l.steps ++ walk_from l.item l.before (drop l.who-index l.path) ≡ l.fn.steps ++ walk_of l.item l.path
