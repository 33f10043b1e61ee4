use Rattle.std.proofs.Common.{◌≡◌, ◌++◌, drop}
use Rattle.std.specs.Option.{option_map}
use Rattle.bdb_queries.specs.Slots.{path_of}
use Rattle.bdb_queries.proofs.slots.path_of.Given as goal

abbrev pub invariant-loop-who : goal.invariant-loop-who
invariant-loop-who l = path_of l.slots l.path ≡ option_map (λ us. l.users.items ++ us) (path_of l.slots (drop l.who-index l.path))
