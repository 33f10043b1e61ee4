use Rattle.bdb_undo.proofs.TimelineLemmas.{coming_leads_ahead}
use Rattle.bdb_undo.proofs.laws.coming_leads_ahead.Goals as goal

pub returns : goal.returns
returns c = coming_leads_ahead
