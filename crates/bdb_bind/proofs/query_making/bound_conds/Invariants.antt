use Rattle.std.proofs.Common.{◌≡◌, map, take}
use Rattle.bdb_bind.specs.QueryBinding.{query_cond}
use Rattle.bdb_bind.proofs.query_making.bound_conds.Given as goal

abbrev pub invariant-loop-cond : goal.invariant-loop-cond
invariant-loop-cond l = l.bound ≡ map (query_cond l.catalog.rels l.items) (take l.cond-index l.conds)
