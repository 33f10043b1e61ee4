use Rattle.bdb_canon.proofs.PlaceLemmas.{links_lead_to_states}
use Rattle.bdb_canon.proofs.laws.links_lead_to_states.Goals as goal

pub returns : goal.returns
returns c = links_lead_to_states
