use Rattle.std.proofs.Common.{◌≡◌, ◌++◌, drop}
use Rattle.std.specs.Option.{option_map}
use Rattle.bdb_queries.specs.Slots.{known_row}
use Rattle.bdb_queries.proofs.slots.known_row.Given as goal

abbrev pub invariant-loop-r : goal.invariant-loop-r
invariant-loop-r g l = known_row (g.S.Chosen.chosen l.slots) l.take ≡ option_map (λ vs. l.row ++ vs) (known_row (g.S.Chosen.chosen l.slots) (drop l.r-index l.take))
