-- The tokens of a piece in the words of their spelling: 39 is the quote, 45 the dash and 10 the line feed.
use Rattle.std.specs.Prelude.{◌≡◌, ◌↔◌, ◌⊎◌, ℕ, Bool, true, false, cond, nat_eq, nat_le, ◌&&◌, Some, List, [], ◌∷◌, ◌++◌, length}
use Rattle.std.specs.List.{list_all}
use Rattle.bdb_base.specs.Limits.{longest_word}
use Rattle.bdb_base.specs.Letters.{is_blank}
use Rattle.bdb_lex.specs.declared.token.Token.{Token}
use Rattle.bdb_lex.specs.declared.token.Token.TheVariants.{Word, Text, Num, Comma, Dot, ParenL, ParenR, Eq, Ne, Lt, Le, Gt, Ge}
use Rattle.bdb_lex.specs.Reading.{is_word, is_num}
use Rattle.bdb_lex.specs.Spans.{Span, AreSpans}
use Rattle.bdb_lex.specs.Spans.Span.{comment, byte, open_comment}
use Rattle.bdb_lex.specs.Tokens.{is_allowed, tokens_of}

-- a blank or a comment
abbrev pub is_gap : Span → Bool
is_gap (byte b) = is_blank b
is_gap (comment bytes) = true
is_gap span = false

-- a blank or a comment, closed or not
abbrev pub is_last_gap : Span → Bool
is_last_gap (open_comment bytes) = true
is_last_gap span = is_gap span

-- blanks and comments
pub record IsGap (bytes : List ℕ) : Type 0 where
  pub spans : List Span
  pub are : AreSpans bytes spans
  pub gaps : list_all is_gap spans ≡ true

-- blanks and comments behind the last token
pub record IsLastGap (bytes : List ℕ) : Type 0 where
  pub spans : List Span
  pub are : AreSpans bytes spans
  pub gaps : list_all is_last_gap spans ≡ true

-- the bytes with each quote doubled
abbrev pub doubled : List ℕ → List ℕ
doubled [] = []
doubled (b ∷ bytes) = cond (nat_eq b 39) (39 ∷ 39 ∷ []) (b ∷ []) ++ doubled bytes

-- the bytes spell the token, however long a word and whatever the content of a text
abbrev pub Spells : Token → List ℕ → Type 0
Spells (Word w) s = (s ≡ w) × (is_word w ≡ true)
Spells (Num n) s = (s ≡ n) × (is_num n ≡ true)
Spells (Text content) s = s ≡ 39 ∷ (doubled content ++ 39 ∷ [])
Spells Comma s = s ≡ 44 ∷ []
Spells Dot s = s ≡ 46 ∷ []
Spells ParenL s = s ≡ 40 ∷ []
Spells ParenR s = s ≡ 41 ∷ []
Spells Eq s = s ≡ 61 ∷ []
Spells Ne s = (s ≡ 60 ∷ 62 ∷ []) ⊎ (s ≡ 33 ∷ 61 ∷ [])
Spells Lt s = s ≡ 60 ∷ []
Spells Le s = s ≡ 60 ∷ 61 ∷ []
Spells Gt s = s ≡ 62 ∷ []
Spells Ge s = s ≡ 62 ∷ 61 ∷ []

-- no token is spelled by these bytes and more of the rest
abbrev pub IsLongest : List ℕ → List ℕ → Type 0
IsLongest spelling rest = (t : Token) (more after : List ℕ) → rest ≡ more ++ after → Spells t (spelling ++ more) → more ≡ []

-- behind a gap the bytes begin with the token, the longest that fits: an allowed one
pub record Front (bytes : List ℕ) (t : Token) : Type 0 where
  pub gap : List ℕ
  pub spelling : List ℕ
  pub rest : List ℕ
  pub parts : bytes ≡ gap ++ (spelling ++ rest)
  pub between : IsGap gap
  pub spells : Spells t spelling
  pub longest : IsLongest spelling rest
  pub allowed : is_allowed t ≡ true

-- the tokens of the bytes
abbrev pub IsTokens : List ℕ → List Token → Type 0
IsTokens bytes [] = IsLastGap bytes
IsTokens bytes (t ∷ ts) = (front : Front bytes t) × IsTokens front.rest ts

-- what is found is what is spelled
abbrev pub TokensAreSpelled : Type 0
TokensAreSpelled = (piece : List ℕ) (ts : List Token) → (tokens_of piece ≡ Some ts) ↔ IsTokens piece ts

-- a word of a letter and of letters and digits, at most 255 bytes in all; a number; a text of allowed content; another token
abbrev pub is_formed : Token → Bool
is_formed (Word w) = is_word w && nat_le (length w) longest_word
is_formed (Num n) = is_num n
is_formed t = is_allowed t

-- each token that is found is well formed
abbrev pub TokensAreFormed : Type 0
TokensAreFormed = (piece : List ℕ) (ts : List Token) → tokens_of piece ≡ Some ts → list_all is_formed ts ≡ true
