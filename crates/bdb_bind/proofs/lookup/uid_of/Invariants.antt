use Rattle.std.proofs.Common.{◌≡◌, ◌+◌, drop}
use Rattle.std.specs.List.{position_from}
use Rattle.bdb_base.specs.Bases.{is_called}
use Rattle.bdb_bind.specs.Lookup.{uid_of}
use Rattle.bdb_bind.proofs.lookup.uid_of.Given as goal

abbrev pub invariant-loop-at : goal.invariant-loop-at
invariant-loop-at l = uid_of l.users l.name ≡ position_from (is_called l.name) (l.at + 1) (drop l.at l.users)
