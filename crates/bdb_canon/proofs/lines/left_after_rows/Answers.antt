use Rattle.std.proofs.Common.{◌≡◌, ◌∙◌, ap, length, arith}
use Rattle.bdb_base.specs.Bases.{key_lengths}
use Rattle.bdb_base.specs.WorldRows.{world_of}
use Rattle.bdb_canon.specs.Canonical.{row_count}
use Rattle.bdb_canon.proofs.LineLemmas.{stops_early, sum_next}
use Rattle.bdb_canon.proofs.lines.left_after_rows.Goals as goal

pub returns-then-left-count : goal.returns-then-left-count
returns-then-left-count c =
    let f = row_count (key_lengths c.args.rels.now) c.args.stmts.now in
    let count : c.len-count.result ≡ f c.path-item.result = c.len-count.ensures ∙ ap length (c.in_ok-world.ensures ∙ ap (world_of (key_lengths c.args.rels.now) c.args.stmts.now) c.as_slice.ensures.users) in
    stops_early f c.args.states.now c.loop-path.path-index c.path-item.result c.args.most c.loop-path.left c.loop-path-test.true c.path-item.is c.loop-path.invariant (omega arith)

pub loop-path-preserved : goal.loop-path-preserved
loop-path-preserved c =
    let f = row_count (key_lengths c.args.rels.now) c.args.stmts.now in
    let count : c.len-count.result ≡ f c.path-item.result = c.len-count.ensures ∙ ap length (c.in_ok-world.ensures ∙ ap (world_of (key_lengths c.args.rels.now) c.args.stmts.now) c.as_slice.ensures.users) in
    let next = sum_next f c.args.states.now c.loop-path.path-index c.path-item.result c.loop-path-test.true c.path-item.is in
    omega arith
