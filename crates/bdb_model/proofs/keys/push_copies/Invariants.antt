use Rattle.std.proofs.Common.{◌≡◌, ◌++◌, take}
use Rattle.bdb_model.proofs.keys.push_copies.Given as goal

abbrev pub invariant-loop-value : goal.invariant-loop-value
invariant-loop-value l = l.vals ≡ l.initial.vals ++ take l.value-index l.more
