use Rattle.std.proofs.Common.{◌≡◌, map}
use Rattle.bdb_decode.specs.Parts.{path_row}
use Rattle.bdb_decode.proofs.parts.paths_of.Given as goal

abbrev pub invariant-loop-world : goal.invariant-loop-world
invariant-loop-world l = l.paths.items ≡ map path_row l.yielded
