use Rattle.bdb_decode.proofs.HeldBaseLemmas.{base_statements_are_held}
use Rattle.bdb_decode.proofs.laws.base_statements_are_held.Goals as goal

pub returns : goal.returns
returns c = base_statements_are_held
