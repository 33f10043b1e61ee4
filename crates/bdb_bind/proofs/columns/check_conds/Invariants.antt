use Rattle.std.proofs.Common.{◌≡◌, drop}
use Rattle.bdb_bind.specs.Firsts.{first_in}
use Rattle.bdb_bind.specs.QueryLines.{in_cond, column_missing}
use Rattle.bdb_bind.proofs.columns.check_conds.Given as goal

abbrev pub invariant-loop-cond : goal.invariant-loop-cond
invariant-loop-cond l = first_in (in_cond (column_missing l.rels l.items)) l.conds ≡ first_in (in_cond (column_missing l.rels l.items)) (drop l.cond-index l.conds)
