use Rattle.std.proofs.Common.{◌≡◌, ◌+◌, ◌*◌, ◌≤◌, length, reverse, vec_len}
use Rattle.std.specs.List.{flat_map, sum_by}
use Rattle.bdb_tables.proofs.Loops.{IsReading}
use Rattle.bdb_queries.specs.Collected.{with_rows}
use Rattle.bdb_exec.specs.Coming.{rows_with, looks_with}
use Rattle.bdb_exec.specs.Memos.{Recalls}
use Rattle.bdb_exec.specs.Seen.{sight_of}
use Rattle.bdb_exec.specs.SeenKeys.{HasSeen}
use Rattle.bdb_exec.proofs.running.+running.Given as goal

abbrev pub decreases-run : goal.decreases-run
decreases-run g l = 5 * length l.steps.now + 3

abbrev pub decreases-run_once : goal.decreases-run_once
decreases-run_once g l = 5 * length l.steps.now + 2

abbrev pub decreases-run_key : goal.decreases-run_key
decreases-run_key g l = 5 * length l.steps.now + 1

abbrev pub decreases-run_steps : goal.decreases-run_steps
decreases-run_steps g l = 5 * length l.steps.now

abbrev pub decreases-run_each : goal.decreases-run_each
decreases-run_each g l = 5 * length l.steps.now + 4

abbrev pub decreases-run_each-loop-tuple : goal.decreases-run_each-loop-tuple
decreases-run_each-loop-tuple g l = vec_len l.left

-- the tuples that are left make of the rows so far those of the whole pool, and are read often enough
abbrev pub invariant-run_each-loop-tuple : goal.invariant-run_each-loop-tuple
invariant-run_each-loop-tuple g l =
    let old = g.K.Keeper.seen l.fn.keeper in
    let sight = sight_of old.kept in
    IsReading old (g.K.Keeper.seen l.keeper) (record {
      here : l.here ≡ l.fn.choosing.state;
      rows : with_rows l.found (flat_map (rows_with sight l.plan.take l.steps l.fn.choosing.state l.fn.choosing.item) (reverse l.left.items)) ≡ with_rows l.fn.found (flat_map (rows_with sight l.plan.take l.steps l.fn.choosing.state l.fn.choosing.item) l.fn.choosing.pool);
      reads : (g.K.Keeper.seen l.keeper).reads + sum_by (looks_with sight l.steps l.fn.choosing.state l.fn.choosing.item) (reverse l.left.items) ≤ old.reads + sum_by (looks_with sight l.steps l.fn.choosing.state l.fn.choosing.item) l.fn.choosing.pool;
      memo : Recalls old.kept l.memo;
      keys : HasSeen sight l.plan l.found l.keys;
    })
