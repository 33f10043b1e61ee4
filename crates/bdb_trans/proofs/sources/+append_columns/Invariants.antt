use Rattle.std.proofs.Common.{length}
use Rattle.bdb_trans.proofs.sources.+append_columns.Given as goal

abbrev pub decreases-append_columns : goal.decreases-append_columns
decreases-append_columns l = length l.cols.now
