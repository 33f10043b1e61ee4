use Rattle.bdb_former.proofs.SpellLemmas.{relations_had_no_length}
use Rattle.bdb_former.proofs.laws.relations_had_no_length.Goals as goal

pub returns : goal.returns
returns c = relations_had_no_length
