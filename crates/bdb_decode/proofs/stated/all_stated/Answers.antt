use Rattle.std.proofs.Common.{◌∙◌}
use Rattle.bdb_decode.proofs.StatedLemmas.{tells_stated, tuples_ascend}
use Rattle.bdb_decode.proofs.stated.all_stated.Goals as goal

pub all_in-requires : goal.all_in-requires
all_in-requires c = tuples_ascend c.args.stmts.now c.as_slice.result.now (c.as_slice.ensures ∙ c.in-Ok.ensures)

pub returns-in-Ok : goal.returns-in-Ok
returns-in-Ok c = tells_stated c.args.stmts.now c.as_slice.result.now c.args.tuples.now c.all_in.result (c.as_slice.ensures ∙ c.in-Ok.ensures) c.all_in.ensures
