use Rattle.bdb_base_tests.specs.UndoSamples.{told_anew}
use Rattle.bdb_base_tests.proofs.UndoSamples.{next_word_comes, led_from}
use Rattle.bdb_base_tests.proofs.tests.undo.word_changes.Goals as goal

pub change_forth-requires : goal.change_forth-requires
change_forth-requires c = (told_anew, led_from c.in_ok-change.ensures c.requires.start next_word_comes)

pub returns : goal.returns
returns c = c.in_ok-change_forth.ensures told_anew (led_from c.in_ok-change.ensures c.requires.start next_word_comes)
