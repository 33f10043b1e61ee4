use Rattle.std.proofs.Common.{◌≤◌, length, drop}
use Rattle.bdb_trans.specs.Names.{NameColumns}
use Rattle.bdb_trans.proofs.names.renames_of.Given as goal

abbrev pub invariant-loop-at : goal.invariant-loop-at
invariant-loop-at l = (l.at ≤ length l.conds) × NameColumns (drop l.at l.conds) l.names.items

abbrev pub decreases-loop-at : goal.decreases-loop-at
decreases-loop-at l = l.at
