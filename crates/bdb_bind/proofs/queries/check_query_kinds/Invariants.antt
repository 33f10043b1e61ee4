use Rattle.std.proofs.Common.{◌≡◌, drop}
use Rattle.bdb_bind.specs.Firsts.{first_in}
use Rattle.bdb_bind.specs.QueryLines.{cond_kind}
use Rattle.bdb_bind.proofs.queries.check_query_kinds.Given as goal

abbrev pub invariant-loop-cond : goal.invariant-loop-cond
invariant-loop-cond l = first_in (cond_kind l.rels l.items) l.conds ≡ first_in (cond_kind l.rels l.items) (drop l.cond-index l.conds)
