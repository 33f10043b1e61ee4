use Rattle.bdb_base_tests.proofs.BaseSamples.{user_fits, relation_fits, statement_fits, after_user, after_relation, after_statement, user_is_there, after_leaving, user_is_gone, user_may_come_back}
use Rattle.bdb_base_tests.proofs.tests.base.who_leaves_may_come_back.Goals as goal

pub add_user-requires : goal.add_user-requires
add_user-requires g c = user_fits c.empty-base.result c.in_ok-try_new.field-0 c.empty-base.ensures c.in_ok-try_new.ensures

pub add_relation-requires : goal.add_relation-requires
add_relation-requires g c =
    let one = after_user c.empty-base.result c.add_user.new.self c.in_ok-try_new.field-0 c.in_ok-add_user.ensures.ok c.empty-base.ensures c.in_ok-try_new.ensures in
    relation_fits c.add_user.new.self c.in_ok-relation.field-0 one c.in_ok-relation.ensures

pub put-requires : goal.put-requires
put-requires g c =
    let one = after_user c.empty-base.result c.add_user.new.self c.in_ok-try_new.field-0 c.in_ok-add_user.ensures.ok c.empty-base.ensures c.in_ok-try_new.ensures in
    let two = after_relation c.add_user.new.self c.add_relation.new.self c.in_ok-relation.field-0 c.in_ok-add_relation.ensures.ok one c.in_ok-relation.ensures in
    statement_fits c.add_relation.new.self c.in_ok-statement.field-0 two c.in_ok-statement.ensures

pub drop_user-requires : goal.drop_user-requires
drop_user-requires g c =
    let one = after_user c.empty-base.result c.add_user.new.self c.in_ok-try_new.field-0 c.in_ok-add_user.ensures.ok c.empty-base.ensures c.in_ok-try_new.ensures in
    let two = after_relation c.add_user.new.self c.add_relation.new.self c.in_ok-relation.field-0 c.in_ok-add_relation.ensures.ok one c.in_ok-relation.ensures in
    user_is_there c.put.new.self (after_statement c.add_relation.new.self c.put.new.self c.in_ok-statement.field-0 c.in_ok-put.ensures.ok two c.in_ok-statement.ensures)

pub revive_user-requires-clause-gone : goal.revive_user-requires-clause-gone
revive_user-requires-clause-gone g c =
    let one = after_user c.empty-base.result c.add_user.new.self c.in_ok-try_new.field-0 c.in_ok-add_user.ensures.ok c.empty-base.ensures c.in_ok-try_new.ensures in
    let two = after_relation c.add_user.new.self c.add_relation.new.self c.in_ok-relation.field-0 c.in_ok-add_relation.ensures.ok one c.in_ok-relation.ensures in
    let three = after_statement c.add_relation.new.self c.put.new.self c.in_ok-statement.field-0 c.in_ok-put.ensures.ok two c.in_ok-statement.ensures in
    user_is_gone c.drop_user.new.self (after_leaving c.put.new.self c.drop_user.new.self c.drop_user.ensures.left three)

pub revive_user-requires-clause-valid : goal.revive_user-requires-clause-valid
revive_user-requires-clause-valid g c =
    let one = after_user c.empty-base.result c.add_user.new.self c.in_ok-try_new.field-0 c.in_ok-add_user.ensures.ok c.empty-base.ensures c.in_ok-try_new.ensures in
    let two = after_relation c.add_user.new.self c.add_relation.new.self c.in_ok-relation.field-0 c.in_ok-add_relation.ensures.ok one c.in_ok-relation.ensures in
    let three = after_statement c.add_relation.new.self c.put.new.self c.in_ok-statement.field-0 c.in_ok-put.ensures.ok two c.in_ok-statement.ensures in
    user_may_come_back c.drop_user.new.self c.in_ok-try_new-2.field-0 (after_leaving c.put.new.self c.drop_user.new.self c.drop_user.ensures.left three) c.in_ok-try_new-2.ensures
