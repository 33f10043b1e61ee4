use Rattle.bdb_base_tests.specs.UndoSamples.{joined}
use Rattle.bdb_base_tests.proofs.UndoSamples.{bob_comes, led_from}
use Rattle.bdb_base_tests.proofs.tests.undo.bob_comes.Goals as goal

pub change_forth-requires : goal.change_forth-requires
change_forth-requires c = (joined, led_from c.in_ok-change.ensures c.requires.start bob_comes)

pub returns : goal.returns
returns c = c.in_ok-change_forth.ensures joined (led_from c.in_ok-change.ensures c.requires.start bob_comes)
