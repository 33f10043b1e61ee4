use Rattle.std.proofs.Common.{◌≡◌, [], take, drop}
use Rattle.bdb_bind.specs.QueryLines.{alias_twice}
use Rattle.bdb_bind.specs.Scope.{TellsItems}
use Rattle.bdb_bind.proofs.query_items.QueryItems.of.Given as goal

abbrev pub invariant-loop-at : goal.invariant-loop-at
invariant-loop-at l = (alias_twice [] l.items ≡ alias_twice (take l.at l.items) (drop l.at l.items)) × TellsItems l.places (take l.at l.items)
