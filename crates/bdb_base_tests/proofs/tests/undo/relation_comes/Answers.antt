use Rattle.bdb_base_tests.specs.UndoSamples.{related}
use Rattle.bdb_base_tests.proofs.UndoSamples.{relation_comes, led_from}
use Rattle.bdb_base_tests.proofs.tests.undo.relation_comes.Goals as goal

pub change_forth-requires : goal.change_forth-requires
change_forth-requires c = (related, led_from c.in_ok-change.ensures c.requires.start relation_comes)

pub returns : goal.returns
returns c = c.in_ok-change_forth.ensures related (led_from c.in_ok-change.ensures c.requires.start relation_comes)
