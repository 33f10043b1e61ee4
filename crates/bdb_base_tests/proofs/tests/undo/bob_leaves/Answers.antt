use Rattle.bdb_base_tests.specs.UndoSamples.{left_by_bob}
use Rattle.bdb_base_tests.proofs.UndoSamples.{bob_leaves, led_from}
use Rattle.bdb_base_tests.proofs.tests.undo.bob_leaves.Goals as goal

pub change_forth-requires : goal.change_forth-requires
change_forth-requires c = (left_by_bob, led_from c.in_ok-change.ensures c.requires.start bob_leaves)

pub returns : goal.returns
returns c = c.in_ok-change_forth.ensures left_by_bob (led_from c.in_ok-change.ensures c.requires.start bob_leaves)
