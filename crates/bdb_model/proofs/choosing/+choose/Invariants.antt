use Rattle.std.proofs.Common.{◌≡◌, drop, length}
use Rattle.std.specs.List.{flat_map}
use Rattle.bdb_model.specs.Choosing.{rows_with}
use Rattle.bdb_queries.specs.Collected.{with_rows}
use Rattle.bdb_model.proofs.choosing.+choose.Given as goal

abbrev pub decreases-choose : goal.decreases-choose
decreases-choose g l = length l.pools.now

-- what is left of the pool makes of the rows so far those of the whole pool
abbrev pub invariant-loop-tuple : goal.invariant-loop-tuple
invariant-loop-tuple g l = with_rows l.found (flat_map (rows_with l.conds (g.S.Stage.rows l.stage) l.at l.rest l.slots) (drop l.tuple-index l.tuple-items))
    ≡ with_rows l.fn.found (flat_map (rows_with l.conds (g.S.Stage.rows l.stage) l.at l.rest l.slots) l.tuple-items)
