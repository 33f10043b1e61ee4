use Rattle.bdb_undo.proofs.ChangeLemmas.{takes_lead}
use Rattle.bdb_undo.proofs.laws.takes_lead.Goals as goal

pub returns : goal.returns
returns c = takes_lead
