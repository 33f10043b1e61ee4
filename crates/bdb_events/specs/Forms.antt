-- The form of a piece in the words of its parts.
use Rattle.std.specs.Prelude.{◌≡◌, ◌↔◌, ℕ, ◌<◌, ◌+◌, ◌-◌, ◌*◌, Bool, true, false, ◌&&◌, Some, List, [], ◌∷◌, ◌++◌, codes}
use Rattle.std.specs.Char.{is_ascii_digit}
use Rattle.std.specs.List.{list_all}
use Rattle.bdb_base.specs.Letters.{is_blank}
use Rattle.bdb_lex.specs.Reading.{begins, behind_gaps}
use Rattle.bdb_lex.specs.TokenGrammar.{IsGap, IsLastGap, IsTokens}
use Rattle.bdb_lex.specs.declared.token.Token.TheVariants.{Word}
use Rattle.bdb_multi.specs.Sessions.{sessions}
use Rattle.bdb_multi.specs.declared.kinds.Line.{Line}
use Rattle.bdb_multi.specs.declared.kinds.Line.TheVariants.{Begin, Commit, Abort, Cmd}
use Rattle.bdb_syntax.specs.Keywords.{is_keyword}
use Rattle.bdb_lex.specs.declared.token.Piece.{Piece}
use Rattle.bdb_events.specs.declared.read.Read.{Read}
use Rattle.bdb_events.specs.Pieces.{Numbered, numbered, line_of, read_of}

-- one digit or two that give the number: 48 is nought
abbrev pub IsNumber : List ℕ → ℕ → Type 0
IsNumber [] n = ⊥
IsNumber (a ∷ []) n = (is_ascii_digit a ≡ true) × (n ≡ a - 48)
IsNumber (a ∷ b ∷ []) n = (is_ascii_digit a ≡ true) × (is_ascii_digit b ≡ true) × (n ≡ 10 * (a - 48) + (b - 48))
IsNumber (a ∷ b ∷ c ∷ bytes) n = ⊥

-- one blank or more
abbrev pub is_blanks : List ℕ → Bool
is_blanks bytes = begins is_blank bytes && list_all is_blank bytes

-- the bytes are blanks and comments, the number of a session, blanks, and the line
pub record HasForm (bytes : List ℕ) (f : Numbered) : Type 0 where
  pub gap : List ℕ
  pub digits : List ℕ
  pub blanks : List ℕ
  pub parts : bytes ≡ gap ++ (digits ++ (blanks ++ f.line))
  pub between : IsGap gap
  pub number : IsNumber digits f.session
  pub known : f.session < sessions
  pub some : is_blanks blanks ≡ true
  pub first : begins is_blank f.line ≡ false

-- what is read of a piece is its form
abbrev pub FormsAreRead : Type 0
FormsAreRead = (bytes : List ℕ) (f : Numbered) → (numbered (behind_gaps bytes) ≡ Some f) ↔ HasForm bytes f

-- nothing is left behind blanks and comments exactly where there is nothing else
abbrev pub NothingIsGaps : Type 0
NothingIsGaps = (bytes : List ℕ) → (behind_gaps bytes ≡ []) ↔ IsLastGap bytes

-- what a piece of these bytes is: blanks and comments alone; neither these nor of the form; of the form, with a line of blanks
-- and comments alone; of the form, with another line
abbrev pub IsReadAs : List ℕ → Read → Type 0
IsReadAs bytes Read.Nothing = IsLastGap bytes
IsReadAs bytes Read.Long = ⊥
IsReadAs bytes Read.NoSession = (IsLastGap bytes → ⊥) × ((f : Numbered) → HasForm bytes f → ⊥)
IsReadAs bytes (Read.NoLine n) = (f : Numbered) × HasForm bytes f × IsLastGap f.line × (n ≡ f.session)
IsReadAs bytes (Read.Event e) = (f : Numbered) × HasForm bytes f × (IsLastGap f.line → ⊥) × (e ≡ record { session = f.session; line = line_of f.line })

-- what is read of a piece is what it is
abbrev pub PiecesAreRead : Type 0
PiecesAreRead = (bytes : List ℕ) (r : Read) → (read_of (Piece.Cmd bytes) ≡ r) ↔ IsReadAs bytes r

-- what is read names a session that there is
abbrev pub NamesSession : Read → Type 0
NamesSession Read.Nothing = Unit {0}
NamesSession Read.Long = Unit {0}
NamesSession Read.NoSession = Unit {0}
NamesSession (Read.NoLine n) = n < sessions
NamesSession (Read.Event e) = e.session < sessions

-- the only token is this keyword, in any case
pub record IsOnly (keyword line : List ℕ) : Type 0 where
  pub word : List ℕ
  pub tokens : IsTokens line (Word word ∷ [])
  pub same : is_keyword keyword word ≡ true

-- what a line is: one of three words alone, or a command of all its bytes
abbrev pub IsLine : List ℕ → Line → Type 0
IsLine line Begin = IsOnly (codes "begin") line
IsLine line Commit = IsOnly (codes "commit") line
IsLine line Abort = IsOnly (codes "abort") line
IsLine line (Cmd bytes) = (bytes ≡ line) × (IsOnly (codes "begin") line → ⊥) × (IsOnly (codes "commit") line → ⊥) × (IsOnly (codes "abort") line → ⊥)

-- what is read of a line is what it is
abbrev pub LinesAreRead : Type 0
LinesAreRead = (line : List ℕ) (l : Line) → (line_of line ≡ l) ↔ IsLine line l
