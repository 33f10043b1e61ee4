-- Tokens whose words, texts and numbers are spelled as the tokens of a piece are.
use Rattle.std.specs.Prelude.{◌≡◌, true, List}
use Rattle.std.specs.List.{AllByRecursion}
use Rattle.bdb_lex.specs.declared.token.Token.{Token}
use Rattle.bdb_lex.specs.declared.token.Token.TheVariants.{Word, Text}
use Rattle.bdb_syntax.specs.Printable.{is_short_word, IsContent}

-- a word is a letter or '_' with letters, digits and '_' behind it, and a text is UTF-8 without control characters
abbrev pub IsWellSpelled : Token → Type 0
IsWellSpelled (Word w) = is_short_word w ≡ true
IsWellSpelled (Text t) = IsContent t
IsWellSpelled _ = Unit {0}

-- each token is
abbrev pub AreWellSpelled : List Token → Type 0
AreWellSpelled ts = AllByRecursion IsWellSpelled ts
