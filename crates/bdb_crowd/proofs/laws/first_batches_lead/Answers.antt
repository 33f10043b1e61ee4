use Rattle.bdb_crowd.proofs.CountLemmas as lemmas
use Rattle.bdb_crowd.proofs.laws.first_batches_lead.Goals as goal

pub returns : goal.returns
returns c = lemmas.first_batches_lead
