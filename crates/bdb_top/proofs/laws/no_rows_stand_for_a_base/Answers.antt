use Rattle.bdb_top.proofs.EmptyLemmas as lemmas
use Rattle.bdb_top.proofs.laws.no_rows_stand_for_a_base.Goals as goal

pub returns : goal.returns
returns c = lemmas.no_rows_stand_for_a_base
