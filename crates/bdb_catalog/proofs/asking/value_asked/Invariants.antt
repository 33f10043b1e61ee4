use Rattle.std.proofs.Common.{◌≡◌, drop}
use Rattle.bdb_catalog.specs.Taking.{value_asked}
use Rattle.bdb_catalog.proofs.asking.value_asked.Given as goal

-- the tests that are left ask for what all ask for
abbrev pub invariant-loop-cond : goal.invariant-loop-cond
invariant-loop-cond l = value_asked l.conds l.col ≡ value_asked (drop l.cond-index l.conds) l.col
