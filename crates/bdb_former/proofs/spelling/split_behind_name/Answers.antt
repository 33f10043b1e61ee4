use Rattle.bdb_former.proofs.SpellLemmas.{no_end_row, row_cut}
use Rattle.bdb_former.proofs.spelling.split_behind_name.Goals as goal

pub returns-then-byte-eq0 : goal.returns-then-byte-eq0
returns-then-byte-eq0 c =
    row_cut c.args.row.now c.in_ok-bytes.bytes.now c.split_at.result.0.now c.split_at.result.1.now c.loop-at.at c.in_ok-bytes.ensures c.loop-at-test.true c.if-byte-eq0.true
    c.loop-at.invariant c.split_at.ensures.front c.split_at.ensures.back

pub returns : goal.returns
returns c = no_end_row c.args.row.now c.in_ok-bytes.bytes.now c.loop-at.at c.in_ok-bytes.ensures c.loop-at-test.false c.loop-at.invariant
