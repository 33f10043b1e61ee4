use Rattle.bdb_base_tests.specs.UndoSamples.{joined_by_carol}
use Rattle.bdb_base_tests.proofs.UndoSamples.{carol_comes, led_from}
use Rattle.bdb_base_tests.proofs.tests.undo.carol_comes.Goals as goal

pub change_forth-requires : goal.change_forth-requires
change_forth-requires c = (joined_by_carol, led_from c.in_ok-change.ensures c.requires.start carol_comes)

pub returns : goal.returns
returns c = c.in_ok-change_forth.ensures joined_by_carol (led_from c.in_ok-change.ensures c.requires.start carol_comes)
