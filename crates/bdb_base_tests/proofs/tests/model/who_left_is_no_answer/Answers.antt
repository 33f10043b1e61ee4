use Rattle.std.proofs.Common.{ap}
use Rattle.bdb_base.specs.Bases.{Contents, is_user}
use Rattle.bdb_base_tests.proofs.BaseSamples.{after_user, user_fits}
use Rattle.bdb_base_tests.proofs.tests.model.who_left_is_no_answer.Goals as goal

pub add_user-requires : goal.add_user-requires
add_user-requires g c = user_fits c.empty-base.result c.in_ok-try_new.field-0 c.empty-base.ensures c.in_ok-try_new.ensures

pub drop_user-requires : goal.drop_user-requires
drop_user-requires g c = ap (λ (b : Contents). is_user b.catalog.users 1)
    (after_user c.empty-base.result c.add_user.new.self c.in_ok-try_new.field-0 c.in_ok-add_user.ensures.ok c.empty-base.ensures c.in_ok-try_new.ensures)
