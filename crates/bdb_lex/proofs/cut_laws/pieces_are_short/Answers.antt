use Rattle.bdb_lex.proofs.CutLemmas.{pieces_are_short}
use Rattle.bdb_lex.proofs.cut_laws.pieces_are_short.Goals as goal

pub returns : goal.returns
returns c = pieces_are_short
