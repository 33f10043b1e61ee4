use Rattle.bdb_undo.proofs.ChangeLemmas.{update_leads}
use Rattle.bdb_undo.proofs.laws.update_leads.Goals as goal

pub returns : goal.returns
returns c = update_leads
