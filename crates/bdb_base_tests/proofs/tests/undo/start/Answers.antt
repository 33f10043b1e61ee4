use Rattle.std.proofs.Common.{rules}
use Rattle.bdb_base_tests.proofs.UndoSamples.{is_valid_alone}
use Rattle.bdb_base_tests.proofs.tests.undo.start.Goals as goal

pub from_parts-requires : goal.from_parts-requires
from_parts-requires c = is_valid_alone _ _ (search rules) (search rules)
