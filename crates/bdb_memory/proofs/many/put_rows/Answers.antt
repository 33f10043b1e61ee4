use Rattle.std.proofs.Common.{◌+◌, ◌<◌, ◌≤◌, ◌∙◌, length, refl, arith}
use Rattle.bdb_memory.proofs.ManyLemmas.{put-more, put-all}
use Rattle.bdb_memory.proofs.many.put_rows.Goals as goal

pub loop-index-preserved : goal.loop-index-preserved
loop-index-preserved c =
    let lt : c.loop-index.index < length c.args.span.now = omega (arith, c.len-index-end.ensures, c.loop-index-test.true) in (
      put-more c.args.span.now c.loop-index.index (c.loop-index.index + 1) c.entry.result.0.now c.entry.result.1.now lt c.entry.ensures refl c.args.tab _ _ _ c.in_ok-put_next.ensures.rows c.loop-index.invariant.0,
      c.put_next.ensures.last ∙ c.loop-index.invariant.1,
      c.put_next.ensures.has,
    )

pub returns-clause-rows : goal.returns-clause-rows
returns-clause-rows c =
    let end : length c.args.span.now ≤ c.loop-index.index = omega (arith, c.len-index-end.ensures, c.loop-index-test.false) in
    put-all c.args.span.now c.loop-index.index c.args.tab _ _ end c.loop-index.invariant.0
