use Rattle.bdb_parse.proofs.TakesCommands as lemmas
use Rattle.bdb_parse.proofs.laws.commands_are_read.Goals as goal

pub returns : goal.returns
returns c = lemmas.commands_are_read
