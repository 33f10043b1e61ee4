use Rattle.bdb_undo.proofs.TimelineLemmas.{last_leads_here}
use Rattle.bdb_undo.proofs.laws.last_leads_here.Goals as goal

pub returns : goal.returns
returns c = last_leads_here
