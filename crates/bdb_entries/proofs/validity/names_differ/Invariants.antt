use Rattle.std.proofs.Common.{◌≡◌, length}
use Rattle.bdb_entries.specs.Catalog.{names_differ}
use Rattle.bdb_entries.proofs.validity.names_differ.Given as goal

abbrev pub decreases-loop-rest : goal.decreases-loop-rest
decreases-loop-rest g l = length l.rest

abbrev pub invariant-loop-rest : goal.invariant-loop-rest
invariant-loop-rest g l = names_differ g.X.HasName.name_of l.fn.items ≡ names_differ g.X.HasName.name_of l.rest
