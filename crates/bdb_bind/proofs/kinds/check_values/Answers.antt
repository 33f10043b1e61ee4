use Rattle.std.proofs.Common.{arith}
use Rattle.std.proofs.lemmas.Slice.Zip.{either_empty_from_Zip}
use Rattle.bdb_bind.proofs.Misfits.{misfit_at_end}
use Rattle.bdb_bind.proofs.kinds.check_values.Goals as goal

pub returns : goal.returns
returns c = let ends = misfit_at_end _ _ (either_empty_from_Zip c.loop-col.col-iterator c.next.new.self _ c.in-None.is c.next.ensures.steps) in grind arith
