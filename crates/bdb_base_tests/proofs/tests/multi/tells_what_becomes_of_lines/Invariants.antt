use Rattle.bdb_multi.specs.Sessions.{AreSessions}
use Rattle.bdb_base_tests.proofs.tests.multi.tells_what_becomes_of_lines.Given as goal

abbrev pub invariant-loop-session : goal.invariant-loop-session
invariant-loop-session g l = AreSessions l.events
