use Rattle.std.proofs.Common.{length}
use Rattle.bdb_base.proofs.fitting.+fits_columns.Given as goal

abbrev pub decreases-fits_columns : goal.decreases-fits_columns
decreases-fits_columns l = length l.cols.now
