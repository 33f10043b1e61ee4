-- What a piece of a stream of sessions is: behind blanks and comments a session's number, blanks, and the line.
use Rattle.std.specs.Prelude.{ℕ, ◌+◌, ◌-◌, ◌*◌, ◌&&◌, cond, nat_lt, Option, Some, None, List, [], ◌∷◌, codes}
use Rattle.std.specs.Char.{is_ascii_digit}
use Rattle.bdb_base.specs.Letters.{is_blank}
use Rattle.bdb_lex.specs.Reading.{begins, behind_gaps}
use Rattle.bdb_lex.specs.Tokens.{tokens_of}
use Rattle.bdb_lex.specs.declared.token.Piece.{Piece}
use Rattle.bdb_lex.specs.declared.token.Token.{Token}
use Rattle.bdb_lex.specs.declared.token.Token.TheVariants.{Word}
use Rattle.bdb_syntax.specs.Keywords.{is_keyword}
use Rattle.bdb_multi.specs.declared.kinds.Line.{Line}
use Rattle.bdb_multi.specs.declared.kinds.Line.TheVariants.{Begin, Commit, Abort, Cmd}
use Rattle.bdb_multi.specs.Sessions.{sessions}
use Rattle.bdb_events.specs.declared.read.Read.{Read}

-- what follows the blanks at the front
abbrev pub behind_blanks : List ℕ → List ℕ
behind_blanks [] = []
behind_blanks (b ∷ bytes) = cond (is_blank b) (behind_blanks bytes) (b ∷ bytes)

-- the number of a digit: 48 is nought
abbrev pub digit_of : ℕ → Option ℕ
digit_of b = cond (is_ascii_digit b) (Some (b - 48)) None

-- the number of a session, and what is its line
pub record Numbered : Type 0 where
  pub session : ℕ
  pub line : List ℕ

abbrev pub numbered_by : ℕ → List ℕ → Numbered
numbered_by n line = record { session = n; line = line }

-- behind the number of a session there are blanks, and then the line
abbrev pub behind_number : ℕ → List ℕ → Option Numbered
behind_number n bytes = cond (nat_lt n sessions && begins is_blank bytes) (Some (numbered_by n (behind_blanks bytes))) None

-- behind a digit there may be another
abbrev pub behind_second : ℕ → Option ℕ → ℕ → List ℕ → Option Numbered
behind_second n None b bytes = behind_number n (b ∷ bytes)
behind_second n (Some m) b bytes = behind_number (10 * n + m) bytes

abbrev pub behind_first : Option ℕ → List ℕ → Option Numbered
behind_first None bytes = None
behind_first (Some n) [] = None
behind_first (Some n) (b ∷ bytes) = behind_second n (digit_of b) b bytes

-- the number of one digit or two at the front, and the line; none where there is no such number of a session
abbrev pub numbered : List ℕ → Option Numbered
numbered [] = None
numbered (b ∷ bytes) = behind_first (digit_of b) bytes

abbrev pub word_of : Token → Option (List ℕ)
word_of (Word w) = Some w
word_of t = None

-- the word, where it is the only token
abbrev pub only_word : Option (List Token) → Option (List ℕ)
only_word None = None
only_word (Some []) = None
only_word (Some (t ∷ [])) = word_of t
only_word (Some (t ∷ u ∷ ts)) = None

abbrev pub line_by : Option (List ℕ) → List ℕ → Line
line_by None bytes = Cmd bytes
line_by (Some w) bytes = cond (is_keyword (codes "begin") w) Begin
    (cond (is_keyword (codes "commit") w) Commit (cond (is_keyword (codes "abort") w) Abort (Cmd bytes)))

-- a line: begin, commit and abort where its only token is this word, in any case (`lines_are_read`); else a command. Its tokens are those
-- spelled, each the longest that fits (`tokens_are_spelled` of `bdb_lex`).
unfoldable pub line_of : List ℕ → Line
line_of bytes = line_by (only_word (tokens_of bytes)) bytes

-- what a line is, by what follows its blanks and comments
abbrev pub read_line : Numbered → List ℕ → Read
read_line f [] = Read.NoLine f.session
read_line f (b ∷ rest) = Read.Event (record { session = f.session; line = line_of f.line })

abbrev pub read_form : Option Numbered → Read
read_form None = Read.NoSession
read_form (Some f) = read_line f (behind_gaps f.line)

abbrev pub read_behind : List ℕ → Read
read_behind [] = Read.Nothing
read_behind (b ∷ bytes) = read_form (numbered (b ∷ bytes))

-- what a piece is
abbrev pub read_of : Piece → Read
read_of (Piece.Cmd bytes) = read_behind (behind_gaps bytes)
read_of Piece.Long = Read.Long
