use Rattle.std.proofs.Common.{length}
use Rattle.bdb_session.proofs.session.Session.+run_lines.Given as goal

abbrev pub decreases-run_lines : goal.decreases-run_lines
decreases-run_lines g l = length l.lines.now
