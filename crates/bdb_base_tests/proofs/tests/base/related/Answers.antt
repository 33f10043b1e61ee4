use Rattle.bdb_base_tests.proofs.BaseSamples.{user_fits, relation_fits, after_user, after_relation}
use Rattle.bdb_base_tests.proofs.tests.base.related.Goals as goal

pub add_user-requires : goal.add_user-requires
add_user-requires c = user_fits c.empty-base.result c.in_ok-name.name c.empty-base.ensures c.in_ok-name.ensures

pub add_relation-requires : goal.add_relation-requires
add_relation-requires c =
    let one = after_user c.empty-base.result c.add_user.new.self c.in_ok-name.name c.in_ok-add_user.ensures.ok c.empty-base.ensures c.in_ok-name.ensures in
    relation_fits c.add_user.new.self c.in_ok-def.def one c.in_ok-def.ensures

pub returns : goal.returns
returns c =
    let one = after_user c.empty-base.result c.add_user.new.self c.in_ok-name.name c.in_ok-add_user.ensures.ok c.empty-base.ensures c.in_ok-name.ensures in
    after_relation c.add_user.new.self c.add_relation.new.self c.in_ok-def.def c.in_ok-add_relation.ensures.ok one c.in_ok-def.ensures
