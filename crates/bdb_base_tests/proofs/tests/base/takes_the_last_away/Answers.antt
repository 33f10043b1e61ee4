use Rattle.bdb_base_tests.proofs.BaseSamples.{relation_goes, user_goes, after_pop}
use Rattle.bdb_base_tests.proofs.tests.base.takes_the_last_away.Goals as goal

pub pop_relation-requires-clause-valid : goal.pop_relation-requires-clause-valid
pop_relation-requires-clause-valid g c = relation_goes c.in_ok-base.base c.in_ok-base.ensures

pub pop_user-requires-clause-valid : goal.pop_user-requires-clause-valid
pop_user-requires-clause-valid g c = user_goes c.pop_relation.new.self (after_pop c.in_ok-base.base c.pop_relation.new.self c.pop_relation.ensures c.in_ok-base.ensures)
