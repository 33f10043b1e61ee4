-- The reading of commands meets the grammar.
use Rattle.std.specs.Prelude.{◌≡◌, ◌↔◌, List, Some}
use Rattle.bdb_lex.specs.declared.token.Token.{Token}
use Rattle.bdb_syntax.specs.declared.command.Command.{Command}
use Rattle.bdb_parse.specs.Grammar.{IsCommand}
use Rattle.bdb_parse.specs.Reading.{command_of}

-- the command that is read of tokens is the one that they spell, and there is at most one
abbrev pub CommandsAreRead : Type 0
CommandsAreRead = (ts : List Token) (c : Command) → (command_of ts ≡ Some c) ↔ IsCommand ts c
