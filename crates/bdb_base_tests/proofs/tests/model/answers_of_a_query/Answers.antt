use Rattle.bdb_base_tests.proofs.BaseSamples.{user_fits}
use Rattle.bdb_base_tests.proofs.tests.model.answers_of_a_query.Goals as goal

pub add_user-requires : goal.add_user-requires
add_user-requires g c = user_fits c.empty-base.result c.in_ok-try_new.field-0 c.empty-base.ensures c.in_ok-try_new.ensures
