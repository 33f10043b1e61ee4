use Rattle.bdb_base_tests.specs.UndoSamples.{joined}
use Rattle.bdb_base_tests.proofs.UndoSamples.{word_comes, led_to}
use Rattle.bdb_base_tests.proofs.tests.undo.coming_is_taken_back.Goals as goal

pub change_back-requires : goal.change_back-requires
change_back-requires c = (joined, led_to c.in_ok-change.ensures c.requires.start word_comes)

pub returns : goal.returns
returns c = c.in_ok-change_back.ensures joined (led_to c.in_ok-change.ensures c.requires.start word_comes)
