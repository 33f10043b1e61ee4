use Rattle.std.proofs.Common.{◌≡◌, drop}
use Rattle.bdb_bind.specs.Safe.{next_known}
use Rattle.bdb_bind.proofs.safety.next_known.Given as goal

abbrev pub invariant-loop-cond : goal.invariant-loop-cond
invariant-loop-cond l = next_known l.items l.known l.conds ≡ next_known l.items l.known (drop l.cond-index l.conds)
