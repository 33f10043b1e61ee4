use Rattle.bdb_tables.proofs.MarkLemmas.{has_four, ends_with_number, is_mark_row, is_numbered}
use Rattle.bdb_tables.proofs.marks.numbered_from.Goals as goal

pub last_four-requires : goal.last_four-requires
last_four-requires c = has_four c.args.key.now c.args.row.now c.requires

pub number_from-requires : goal.number_from-requires
number_from-requires c = ends_with_number c.args.key.now c.args.row.now c.last_four.result.now c.requires c.last_four.ensures

pub mark_from-requires : goal.mark_from-requires
mark_from-requires c = is_mark_row c.args.key.now c.args.row.now c.requires

pub returns : goal.returns
returns c = is_numbered c.args.key.now c.args.row.now c.last_four.result.now c.number_from.result c.mark_from.result c.requires c.last_four.ensures c.number_from.ensures c.mark_from.ensures
