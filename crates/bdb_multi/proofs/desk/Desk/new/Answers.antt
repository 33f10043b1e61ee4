use Rattle.bdb_multi.proofs.DeskLemmas.{nothing_stands}
use Rattle.bdb_multi.proofs.desk.Desk.new.Goals as goal

pub returns : goal.returns
returns c = nothing_stands
