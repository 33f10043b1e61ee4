use Rattle.bdb_session.proofs.AllowedLemmas.{printable_is_allowed}
use Rattle.bdb_session.proofs.reading.read_command.Goals as goal

pub returns-in-Ok-clause-fit : goal.returns-in-Ok-clause-fit
returns-in-Ok-clause-fit c = λ spelled. printable_is_allowed c.in-Ok.command (c.in-Ok.ensures.printable spelled)
