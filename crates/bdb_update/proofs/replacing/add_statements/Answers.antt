use Rattle.std.proofs.lemmas.List.{drop_all}
use Rattle.bdb_update.proofs.ReplaceLemmas.{some_to_come, coming_is_stopped, coming_more, coming_stops, coming_ends, come_through}
use Rattle.bdb_update.proofs.StayLemmas.{keeps_then}
use Rattle.bdb_update.proofs.replacing.add_statements.Goals as goal

pub add_statement-requires-clause-base : goal.add_statement-requires-clause-base
add_statement-requires-clause-base g c =
    some_to_come (g.K.Keeper.seen c.args.keeper.now) (g.K.Keeper.seen c.loop-stmt.keeper) c.args.counts.now c.loop-stmt.counts c.args.come.now
    c.loop-stmt.stmt-index c.stmt-item.result c.loop-stmt-test.true c.stmt-item.is c.loop-stmt.invariant.0 c.requires.base

pub stop_of-requires : goal.stop_of-requires
stop_of-requires g c =
    coming_is_stopped (g.K.Keeper.seen c.args.keeper.now) (g.K.Keeper.seen c.loop-stmt.keeper) c.args.counts.now c.loop-stmt.counts c.args.come.now
    c.loop-stmt.stmt-index c.stmt-item.result c.loop-stmt-test.true c.stmt-item.is c.loop-stmt.invariant.0 c.requires.base
    (g.K.Keeper.seen c.add_statement.new.keeper) c.add_statement.new.counts c.in-Err.error c.in-Err.ensures.added

pub returns-in-Err-clause-changing : goal.returns-in-Err-clause-changing
returns-in-Err-clause-changing g c =
    coming_stops (g.K.Keeper.seen c.args.keeper.now) (g.K.Keeper.seen c.loop-stmt.keeper) c.args.counts.now c.loop-stmt.counts c.args.come.now
    c.loop-stmt.stmt-index c.stmt-item.result c.loop-stmt-test.true c.stmt-item.is c.loop-stmt.invariant.0 c.requires.base
    (g.K.Keeper.seen c.add_statement.new.keeper) c.add_statement.new.counts c.in-Err.error c.stop_of.result c.stop_of.ensures c.in-Err.ensures.added
    c.in-Err.ensures.counts

pub loop-stmt-preserved : goal.loop-stmt-preserved
loop-stmt-preserved g c =
    let old = g.K.Keeper.seen c.args.keeper.now in
    let mid = g.K.Keeper.seen c.loop-stmt.keeper in
    let new = g.K.Keeper.seen c.add_statement.new.keeper in (
      coming_more old mid c.args.counts.now c.loop-stmt.counts c.args.come.now c.loop-stmt.stmt-index c.stmt-item.result c.loop-stmt-test.true
          c.stmt-item.is c.loop-stmt.invariant.0 c.requires.base new c.add_statement.new.counts c.in-Ok.field-0 c.in-Ok.ensures.added
          c.in-Ok.ensures.writes c.in-Ok.ensures.counts c.in-Ok.ensures.keeps,
      keeps_then old.kept mid.kept new.kept c.loop-stmt.invariant.1 c.in-Ok.ensures.keeps,
    )

pub returns-clause-come : goal.returns-clause-come
returns-clause-come g c =
    coming_ends (g.K.Keeper.seen c.args.keeper.now) (g.K.Keeper.seen c.loop-stmt.keeper) c.args.counts.now c.loop-stmt.counts c.args.come.now
    c.loop-stmt.stmt-index (drop_all c.loop-stmt.stmt-index c.args.come.now c.loop-stmt-test.false) c.loop-stmt.invariant.0

pub returns-clause-steps : goal.returns-clause-steps
returns-clause-steps g c =
    come_through (g.K.Keeper.seen c.args.keeper.now) (g.K.Keeper.seen c.loop-stmt.keeper) c.args.counts.now c.loop-stmt.counts c.args.come.now
    c.loop-stmt.stmt-index (drop_all c.loop-stmt.stmt-index c.args.come.now c.loop-stmt-test.false) c.loop-stmt.invariant.0
