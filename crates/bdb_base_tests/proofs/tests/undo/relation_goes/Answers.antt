use Rattle.bdb_base_tests.specs.UndoSamples.{alone}
use Rattle.bdb_base_tests.proofs.UndoSamples.{relation_comes, led_to}
use Rattle.bdb_base_tests.proofs.tests.undo.relation_goes.Goals as goal

pub change_back-requires : goal.change_back-requires
change_back-requires c = (alone, led_to c.in_ok-change.ensures c.requires.start relation_comes)

pub returns : goal.returns
returns c = c.in_ok-change_back.ensures alone (led_to c.in_ok-change.ensures c.requires.start relation_comes)
