use Rattle.bdb_base_tests.specs.UndoSamples.{told}
use Rattle.bdb_base_tests.proofs.UndoSamples.{word_comes, led_from}
use Rattle.bdb_base_tests.proofs.tests.undo.word_comes.Goals as goal

pub change_forth-requires : goal.change_forth-requires
change_forth-requires c = (told, led_from c.in_ok-change.ensures c.requires.start word_comes)

pub returns : goal.returns
returns c = c.in_ok-change_forth.ensures told (led_from c.in_ok-change.ensures c.requires.start word_comes)
