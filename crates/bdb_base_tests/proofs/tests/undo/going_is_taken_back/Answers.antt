use Rattle.bdb_base_tests.specs.UndoSamples.{told_anew}
use Rattle.bdb_base_tests.proofs.UndoSamples.{word_goes, led_to}
use Rattle.bdb_base_tests.proofs.tests.undo.going_is_taken_back.Goals as goal

pub change_back-requires : goal.change_back-requires
change_back-requires c = (told_anew, led_to c.in_ok-change.ensures c.requires.start word_goes)

pub returns : goal.returns
returns c = c.in_ok-change_back.ensures told_anew (led_to c.in_ok-change.ensures c.requires.start word_goes)
