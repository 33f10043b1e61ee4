use Rattle.bdb_session.proofs.QueryLemmas.{stored_plans_mean_choices}
use Rattle.bdb_session.proofs.laws.stored_plans_mean_choices.Goals as goal

pub returns : goal.returns
returns c = stored_plans_mean_choices
