use Rattle.std.proofs.Common.{◌≡◌, ◌∙◌, ap, ◌+◌, ◌-◌, true, take, drop, length, rules}
use Rattle.bdb_model.specs.Choosing.{chosen_rows, rows_with}
use Rattle.bdb_queries.specs.Collected.{with_rows}
use Rattle.bdb_model.specs.Allowed.{may_all_hold}
use Rattle.bdb_queries.proofs.CollectedLemmas.{after_turn}
use Rattle.bdb_model.proofs.ChoosingLemmas.{rows_with_allowed}
use Rattle.bdb_model.proofs.choosing.+choose.Goals as goal

pub loop-tuple-preserved : goal.loop-tuple-preserved
loop-tuple-preserved g t c =
    let last = g.S.Stage.rows c.args.stage.now in
    let rest = take (length c.args.pools.now - 1) (drop 1 c.args.pools.now) in
    let allowed : may_all_hold c.in_ok-next-in-Some.next.items c.args.conds.now ≡ true = search rules in
    let one = rows_with_allowed c.args.conds.now last c.args.at rest c.args.slots.now c.in_ok-next-in-Some.next.items c.tuple-item.result c.in_ok-next-in-Some.ensures allowed in
    let step : c.choose-in-loop-tuple.new.found ≡ with_rows c.loop-tuple.found (chosen_rows c.args.conds.now last (c.args.at + 1) rest c.in_ok-next-in-Some.next.items) = search rules in
    after_turn (rows_with c.args.conds.now last c.args.at rest c.args.slots.now) c.loop-tuple.found c.choose-in-loop-tuple.new.found
    c.as_slice-tuple-items.result.now c.loop-tuple.tuple-index c.tuple-item.result _ c.loop-tuple-test.true c.tuple-item.is
    (step ∙ ap (with_rows c.loop-tuple.found) one) c.loop-tuple.invariant
