use Rattle.std.proofs.Common.{◌+◌, drop}
use Rattle.std.proofs.lemmas.List.{drop_all}
use Rattle.bdb_update.proofs.OneLemmas.{one_more, one_gone}
use Rattle.bdb_update.proofs.ReplaceLemmas.{some_left, going_more, going_stops, going_ends, gone_through}
use Rattle.bdb_update.proofs.StayLemmas.{keeps_then}
use Rattle.bdb_update.proofs.StepLemmas.{from_place}
use Rattle.bdb_update.proofs.replacing.drop_statements.Goals as goal

pub drop_statement-requires-clause-base : goal.drop_statement-requires-clause-base
drop_statement-requires-clause-base g c =
    some_left (g.K.Keeper.seen c.args.keeper.now) (g.K.Keeper.seen c.loop-stmt.keeper) c.args.counts.now c.loop-stmt.counts c.args.gone.now
    c.loop-stmt.stmt-index c.stmt-item.result c.loop-stmt-test.true c.stmt-item.is c.loop-stmt.invariant.0 c.requires.base

pub returns-in-Err-clause-changing : goal.returns-in-Err-clause-changing
returns-in-Err-clause-changing g c =
    going_stops (g.K.Keeper.seen c.args.keeper.now) (g.K.Keeper.seen c.loop-stmt.keeper) c.args.counts.now c.loop-stmt.counts c.args.gone.now
    c.loop-stmt.stmt-index c.stmt-item.result c.loop-stmt-test.true c.stmt-item.is c.loop-stmt.invariant.0 c.requires.base
    (g.K.Keeper.seen c.drop_statement.new.keeper) c.drop_statement.new.counts c.in-Err.error c.in-Err.ensures.dropped c.in-Err.ensures.counts

pub loop-stmt-preserved : goal.loop-stmt-preserved
loop-stmt-preserved g c =
    let gone = c.args.gone.now in
    let i = c.loop-stmt.stmt-index in
    let x = c.stmt-item.result in
    let old = g.K.Keeper.seen c.args.keeper.now in
    let mid = g.K.Keeper.seen c.loop-stmt.keeper in
    let new = g.K.Keeper.seen c.drop_statement.new.keeper in (
      going_more old mid c.args.counts.now c.loop-stmt.counts gone i x c.loop-stmt-test.true c.stmt-item.is c.loop-stmt.invariant.0 c.requires.base
          new c.drop_statement.new.counts c.in-Ok.field-0 c.in-Ok.ensures.dropped c.in-Ok.ensures.writes c.in-Ok.ensures.counts c.in-Ok.ensures.keeps,
      one_more old mid new gone i x (drop (i + 1) gone) (from_place gone i x c.loop-stmt-test.true c.stmt-item.is) c.loop-stmt.invariant.1
          c.in-Ok.ensures.writes,
      keeps_then new.kept mid.kept old.kept c.in-Ok.ensures.keeps c.loop-stmt.invariant.2,
    )

pub returns-clause-gone : goal.returns-clause-gone
returns-clause-gone g c =
    going_ends (g.K.Keeper.seen c.args.keeper.now) (g.K.Keeper.seen c.loop-stmt.keeper) c.args.counts.now c.loop-stmt.counts c.args.gone.now
    c.loop-stmt.stmt-index (drop_all c.loop-stmt.stmt-index c.args.gone.now c.loop-stmt-test.false) c.loop-stmt.invariant.0

pub returns-clause-writes : goal.returns-clause-writes
returns-clause-writes g c = λ x is.
    one_gone (g.K.Keeper.seen c.args.keeper.now) (g.K.Keeper.seen c.loop-stmt.keeper) c.args.gone.now c.loop-stmt.stmt-index x
    (drop_all c.loop-stmt.stmt-index c.args.gone.now c.loop-stmt-test.false) c.loop-stmt.invariant.1 is

pub returns-clause-steps : goal.returns-clause-steps
returns-clause-steps g c =
    gone_through (g.K.Keeper.seen c.args.keeper.now) (g.K.Keeper.seen c.loop-stmt.keeper) c.args.counts.now c.loop-stmt.counts c.args.gone.now
    c.loop-stmt.stmt-index (drop_all c.loop-stmt.stmt-index c.args.gone.now c.loop-stmt-test.false) c.loop-stmt.invariant.0
