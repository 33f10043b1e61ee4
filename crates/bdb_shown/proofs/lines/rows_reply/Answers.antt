use Rattle.std.proofs.Common.{◌∙◌}
use Rattle.bdb_shown.proofs.LineLemmas.{lines_all, lines_more}
use Rattle.bdb_shown.proofs.lines.rows_reply.Goals as goal

pub loop-row-preserved : goal.loop-row-preserved
loop-row-preserved c held spelled =
    lines_more c.args.catalog.now c.args.own c.args.rows.now c.loop-row.row-index _ c.loop-row.out.items c.append_line.new.out.items c.loop-row-test.true c.loop-row.invariant c.in_ok-append_line.ensures held spelled

pub returns : goal.returns
returns c held spelled =
    c.from_vec.ensures
    ∙ lines_all c.args.catalog.now c.args.own c.args.rows.now c.loop-row.row-index c.loop-row.out.items c.append_count.new.out.items c.loop-row-test.false c.loop-row.invariant c.in_ok-append_count.ensures held spelled
