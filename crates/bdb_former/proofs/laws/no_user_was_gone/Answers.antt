use Rattle.bdb_former.proofs.SpellLemmas.{no_user_was_gone}
use Rattle.bdb_former.proofs.laws.no_user_was_gone.Goals as goal

pub returns : goal.returns
returns c = no_user_was_gone
