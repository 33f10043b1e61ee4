use Rattle.std.proofs.Common.{◌≡◌, ◌++◌, drop}
use Rattle.std.specs.Option.{option_map}
use Rattle.bdb_model.specs.Pools.{sourced_values}
use Rattle.bdb_model.proofs.pools.sourced_values.Given as goal

abbrev pub invariant-loop-col : goal.invariant-loop-col
invariant-loop-col l = sourced_values l.sources l.slots l.item 0 l.cols ≡ option_map (λ vs. l.vals ++ vs) (sourced_values l.sources l.slots l.item l.col (drop l.col l.cols))
