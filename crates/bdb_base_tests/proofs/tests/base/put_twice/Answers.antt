use Rattle.bdb_base_tests.proofs.BaseSamples.{statement_fits, statement_stays, after_statement}
use Rattle.bdb_base_tests.proofs.tests.base.put_twice.Goals as goal

pub put-requires : goal.put-requires
put-requires c = statement_fits c.args.base.now c.in_ok-stmt.stmt c.requires.start c.in_ok-stmt.ensures

pub put-requires-2 : goal.put-requires-2
put-requires-2 c =
    let one = after_statement c.args.base.now c.put.new.self c.in_ok-stmt.stmt c.in_ok-added.ensures.ok c.requires.start c.in_ok-stmt.ensures in
    statement_stays c.put.new.self c.in_ok-stmt-2.stmt one c.in_ok-stmt-2.ensures
