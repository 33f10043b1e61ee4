use Rattle.std.proofs.Common.{◌≡◌, drop}
use Rattle.bdb_base.specs.Conditions.{changed}
use Rattle.bdb_base.proofs.changes.changed.Given as goal

-- the sets to come make of the tuple so far what all sets make of the first one
abbrev pub invariant-loop-set : goal.invariant-loop-set
invariant-loop-set l = changed l.sets l.t ≡ changed (drop l.set-index l.sets) l.tuple
