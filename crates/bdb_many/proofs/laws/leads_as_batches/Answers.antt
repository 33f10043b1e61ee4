use Rattle.bdb_many.proofs.ManyLemmas.{leads_as_batches}
use Rattle.bdb_many.proofs.laws.leads_as_batches.Goals as goal

pub returns : goal.returns
returns g c = leads_as_batches
