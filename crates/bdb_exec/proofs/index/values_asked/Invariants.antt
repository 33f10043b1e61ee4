use Rattle.std.proofs.Common.{◌≡◌, ◌++◌, drop}
use Rattle.std.specs.Option.{option_map}
use Rattle.bdb_exec.specs.Indexes.{values_of}
use Rattle.bdb_exec.specs.Keys.{value_behind}
use Rattle.bdb_exec.proofs.index.values_asked.Given as goal

abbrev pub invariant-loop-col : goal.invariant-loop-col
invariant-loop-col l = values_of (value_behind l.slots l.item l.behind) l.cols ≡ option_map (λ vs. l.values ++ vs) (values_of (value_behind l.slots l.item l.behind) (drop l.col-index l.cols))
