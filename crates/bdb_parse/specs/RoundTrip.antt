-- The printed form of a command reads back.
use Rattle.std.specs.Prelude.{◌≡◌, true, List, Some}
use Rattle.bdb_lex.specs.declared.token.Token.{Token}
use Rattle.bdb_lex.specs.Tokens.{tokens_of}
use Rattle.bdb_syntax.specs.declared.command.Command.{Command}
use Rattle.bdb_syntax.specs.Printable.{IsPrintable}
use Rattle.bdb_syntax.specs.Printed.{printed}
use Rattle.bdb_parse.specs.Fits.{fits}
use Rattle.bdb_parse.specs.Reading.{command_of}

-- the printed form is a list of tokens, which are the command
pub record ReadsBack (c : Command) : Type 0 where
  pub tokens : List Token
  pub lexed : tokens_of (printed c) ≡ Some tokens
  pub parsed : command_of tokens ≡ Some c

-- a command that has a printed form, and literals in i64, reads back from it
abbrev pub PrintedReadsBack : Type 0
PrintedReadsBack = (c : Command) → IsPrintable c → fits c ≡ true → ReadsBack c
