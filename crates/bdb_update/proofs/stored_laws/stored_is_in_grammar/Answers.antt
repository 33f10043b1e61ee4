use Rattle.bdb_update.proofs.GrammarLemmas.{stored_is_in_grammar}
use Rattle.bdb_update.proofs.stored_laws.stored_is_in_grammar.Goals as goal

pub returns : goal.returns
returns c = stored_is_in_grammar
