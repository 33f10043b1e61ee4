use Rattle.bdb_base_tests.specs.UndoSamples.{related}
use Rattle.bdb_base_tests.proofs.UndoSamples.{bob_comes, led_to}
use Rattle.bdb_base_tests.proofs.tests.undo.bob_goes.Goals as goal

pub change_back-requires : goal.change_back-requires
change_back-requires c = (related, led_to c.in_ok-change.ensures c.requires.start bob_comes)

pub returns : goal.returns
returns c = c.in_ok-change_back.ensures related (led_to c.in_ok-change.ensures c.requires.start bob_comes)
