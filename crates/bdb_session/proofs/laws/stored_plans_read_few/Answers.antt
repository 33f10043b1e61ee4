use Rattle.bdb_session.proofs.ReadLemmas.{stored_plans_read_few}
use Rattle.bdb_session.proofs.laws.stored_plans_read_few.Goals as goal

pub returns : goal.returns
returns c = stored_plans_read_few
