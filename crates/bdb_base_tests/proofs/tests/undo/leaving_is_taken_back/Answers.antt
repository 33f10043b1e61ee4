use Rattle.bdb_base_tests.specs.UndoSamples.{told}
use Rattle.bdb_base_tests.proofs.UndoSamples.{bob_leaves, led_to}
use Rattle.bdb_base_tests.proofs.tests.undo.leaving_is_taken_back.Goals as goal

pub change_back-requires : goal.change_back-requires
change_back-requires c = (told, led_to c.in_ok-change.ensures c.requires.start bob_leaves)

pub returns : goal.returns
returns c = c.in_ok-change_back.ensures told (led_to c.in_ok-change.ensures c.requires.start bob_leaves)
