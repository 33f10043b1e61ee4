use Rattle.bdb_tables.specs.declared.tab.TabError.TheVariants.{Fault}
use Rattle.bdb_session.proofs.NotingLemmas.{one_looked_at, some_may_meet}
use Rattle.bdb_session.proofs.changes.new_among.Goals as goal

pub push_new-requires-clause-base : goal.push_new-requires-clause-base
push_new-requires-clause-base g c =
    some_may_meet (g.K.Keeper.seen c.args.keeper.now) (g.K.Keeper.seen c.loop-stmt.keeper) c.args.counts.now c.args.stmts.now c.loop-stmt.stmt-index c.stmt-item.result
    c.loop-stmt-test.true c.stmt-item.is c.loop-stmt.invariant.kept c.requires.base

pub loop-stmt-preserved : goal.loop-stmt-preserved
loop-stmt-preserved g c =
    let h = c.in-Ok.ensures in
    one_looked_at (g.K.Keeper.seen c.args.keeper.now) (g.K.Keeper.seen c.loop-stmt.keeper) (g.K.Keeper.seen c.push_new.new.keeper) c.args.counts.now c.args.stmts.now
    c.loop-stmt.fresh c.push_new.new.list c.loop-stmt.stmt-index c.stmt-item.result Fault c.loop-stmt-test.true c.stmt-item.is c.loop-stmt.invariant h.pushed h.kept h.writes h.changing
