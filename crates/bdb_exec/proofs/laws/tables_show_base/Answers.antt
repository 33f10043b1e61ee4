use Rattle.bdb_exec.proofs.ShownLemmas as lemmas
use Rattle.bdb_exec.proofs.laws.tables_show_base.Goals as goal

pub returns : goal.returns
returns c = lemmas.tables_show_base
