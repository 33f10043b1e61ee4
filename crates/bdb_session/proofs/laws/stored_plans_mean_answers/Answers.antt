use Rattle.bdb_session.proofs.QueryLemmas.{stored_plans_mean_answers}
use Rattle.bdb_session.proofs.laws.stored_plans_mean_answers.Goals as goal

pub returns : goal.returns
returns c = stored_plans_mean_answers
