use Rattle.bdb_shown.specs.Rows.{raw}
use Rattle.bdb_shown.proofs.LineLemmas.{line_written, no_mark}
use Rattle.bdb_shown.proofs.lines.append_line.Goals as goal

pub returns-in_ok-append_mark-in-Some : goal.returns-in_ok-append_mark-in-Some
returns-in_ok-append_mark-in-Some c held spelled =
    line_written c.args.catalog.now c.args.own (raw c.args.row.now) c.in-Some.sign c.in-Some.explicit c.is_told.result c.args.out.now.items c.append_sign.new.out.items c.append_tuple.new.out.items c.append_mark.new.out.items
    c.in-Some.ensures c.in_ok-append_sign-in-Some.ensures c.in_ok-append_tuple-in-Some.ensures c.is_told.ensures c.in_ok-append_mark-in-Some.ensures held spelled

pub returns-in-None : goal.returns-in-None
returns-in-None c held spelled = absurd (no_mark (raw c.args.row.now) c.in-None.ensures held spelled)
