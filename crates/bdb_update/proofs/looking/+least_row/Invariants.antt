use Rattle.std.proofs.Common.{length}
use Rattle.bdb_update.proofs.looking.+least_row.Given as goal

abbrev pub decreases-least_row : goal.decreases-least_row
decreases-least_row l = length l.rows.now
