use Rattle.bdb_multi.specs.Sessions.{AreSessions}
use Rattle.bdb_base_tests.proofs.tests.multi.no_more_commands_wait_than_may.Given as goal

abbrev pub invariant-loop-command : goal.invariant-loop-command
invariant-loop-command g l = AreSessions l.events
