-- What the bytes of a piece say.
use Rattle.std.specs.Prelude.{◌≡◌, ℕ, true, List, [], ◌∷◌, Option, None, Some, if◌then◌else◌}
use Rattle.bdb_lex.specs.declared.token.Token.{Token}
use Rattle.bdb_lex.specs.Tokens.{tokens_of}
use Rattle.bdb_syntax.specs.declared.command.Command.{Command}
use Rattle.bdb_parse.specs.Reading.{command_of}
use Rattle.bdb_parse.specs.Fits.{fits}
use Rattle.bdb_bind.specs.Fits.{is_allowed}
use Rattle.bdb_render.specs.declared.refusal.Refusal.TheVariants as refusal
use Rattle.bdb_session.specs.declared.reading.Reading.{Reading}
use Rattle.bdb_session.specs.declared.reading.Reading.TheVariants as reading

-- a command with literals that fit
abbrev pub reading_of_command : Option Command → Reading
reading_of_command None = reading.Refused refusal.Syntax
reading_of_command (Some c) = if fits c then reading.Says c else reading.Refused refusal.Number

-- what tokens say: the command that they spell by the grammar, by the law `commands_are_read` of `bdb_parse`
abbrev pub reading_of_tokens : Option (List Token) → Reading
reading_of_tokens None = reading.Refused refusal.Syntax
reading_of_tokens (Some []) = reading.Nothing
reading_of_tokens (Some (t ∷ ts)) = reading_of_command (command_of (t ∷ ts))

-- what the bytes of a piece say: its tokens are those that it spells, each the longest that fits, by the law `tokens_are_spelled` of
-- `bdb_lex`
abbrev pub reading_of : List ℕ → Reading
reading_of bytes = reading_of_tokens (tokens_of bytes)

-- the texts and names of a command that is said are allowed
abbrev pub IsFit : Reading → Type 0
IsFit (reading.Says c) = is_allowed c ≡ true
IsFit _ = Unit {0}
