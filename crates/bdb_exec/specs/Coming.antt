-- How far steps come before something is chosen.
use Rattle.std.specs.Prelude.{◌≡◌, ℕ, ◌<◌, ◌≤◌, List, [], drop, length}
use Rattle.std.specs.List.{flat_map, sum_by}
use Rattle.bdb_base.specs.declared.kinds.Ref.{Ref}
use Rattle.bdb_base.specs.declared.kinds.Value.{Value}
use Rattle.bdb_base.specs.declared.tuple.Tuple.{Tuple}
use Rattle.bdb_base.specs.Queries.{option_list}
use Rattle.bdb_queries.specs.Slots.{known_row}
use Rattle.bdb_plan.specs.declared.step.Step.{Step}
use Rattle.bdb_plan.specs.Running.{Reached, with_slot, rows_from}
use Rattle.bdb_plan.specs.Sight.{Sight}
use Rattle.bdb_exec.specs.LookUps.{looks_from}
use Rattle.bdb_exec.specs.declared.running.Came.{Came}
use Rattle.bdb_exec.specs.declared.running.Came.TheVariants.{Nothing, End, Choice}

-- the rows that come of steps once a tuple is chosen
abbrev pub rows_with : Sight → List Ref → List Step → Reached → ℕ → Tuple → List (List Value)
rows_with sight take steps s item t = rows_from sight take steps (with_slot s item t)

-- how often steps read at most once a tuple is chosen
abbrev pub looks_with : Sight → List Step → Reached → ℕ → Tuple → ℕ
looks_with sight steps s item t = looks_from sight steps (with_slot s item t)

-- the rows that come of where steps came to
abbrev pub came_rows : Sight → List Ref → List Step → Came → List (List Value)
came_rows sight take steps Nothing = []
came_rows sight take steps (End s) = option_list (known_row s.slots take)
came_rows sight take steps (Choice done item pool s) = flat_map (rows_with sight take (drop done steps) s item) pool

-- how often is read at most from there on
abbrev pub came_looks : Sight → List Step → Came → ℕ
came_looks sight steps (Choice done item pool s) = sum_by (looks_with sight (drop done steps) s item) pool
came_looks sight steps _ = 0

-- the rows of steps are those of where they came to
abbrev pub ComesTo : Sight → List Step → Reached → Came → Type 0
ComesTo sight steps s came = (take : List Ref) → rows_from sight take steps s ≡ came_rows sight take steps came

-- a choice is made behind at least one step
abbrev pub ComesOn : List Step → Came → Type 0
ComesOn steps (Choice done item pool s) = (0 < done) × (done ≤ length steps)
ComesOn steps _ = Unit {0}
