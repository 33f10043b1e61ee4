use Rattle.std.proofs.Common.{◌≡◌, map, take}
use Rattle.bdb_canon.specs.Canonical.{world_entry}
use Rattle.bdb_canon.proofs.worlds.worlds_of.Given as goal

abbrev pub invariant-loop-path : goal.invariant-loop-path
invariant-loop-path l = l.worlds ≡ map (world_entry l.states) (take l.path-index l.states)
