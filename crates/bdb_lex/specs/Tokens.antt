-- The tokens of a piece, one step for each byte: a byte goes on with what is being read, or ends it and starts anew.
use Rattle.std.specs.Prelude.{ℕ, Bool, true, cond, nat_eq, nat_le, Option, Some, None, List, [], ◌∷◌, ◌++◌, length}
use Rattle.std.specs.Char.{is_ascii_digit}
use Rattle.bdb_base.specs.Limits.{longest_word}
use Rattle.bdb_base.specs.Bases.{is_clean}
use Rattle.bdb_base.specs.Letters.{is_blank, is_letter, is_word_byte}
use Rattle.bdb_lex.specs.declared.token.Token.{Token}
use Rattle.bdb_lex.specs.declared.token.Token.TheVariants.{Word, Text, Num, Comma, Dot, ParenL, ParenR, Eq, Ne, Lt, Le, Gt, Ge}

-- a word of at most 255 bytes, a text of allowed content, or another token
abbrev pub is_allowed : Token → Bool
is_allowed (Word w) = nat_le (length w) longest_word
is_allowed (Text content) = is_clean content
is_allowed t = true

-- what is being read: nothing; a whole token, which may go on; a text with its content so far; a dash; an exclamation mark;
-- a comment; what no token begins with
pub data Reading : Type 0 where
  between : Reading
  whole : Token → Reading
  in_text : List ℕ → Reading
  after_dash : Reading
  after_bang : Reading
  in_comment : Reading
  failed : Reading

-- what a byte starts
abbrev pub started : ℕ → Reading
started b =
    cond (is_blank b) between
    (cond (is_letter b) (whole (Word (b ∷ [])))
    (cond (is_ascii_digit b) (whole (Num (b ∷ [])))
    (cond (nat_eq b 39) (in_text [])
    (cond (nat_eq b 45) after_dash
    (cond (nat_eq b 33) after_bang
    (cond (nat_eq b 44) (whole Comma)
    (cond (nat_eq b 46) (whole Dot)
    (cond (nat_eq b 40) (whole ParenL)
    (cond (nat_eq b 41) (whole ParenR)
    (cond (nat_eq b 61) (whole Eq)
    (cond (nat_eq b 60) (whole Lt)
    (cond (nat_eq b 62) (whole Gt)
    failed))))))))))))

-- a whole token with a byte more, where it goes on with the byte
abbrev pub extended : Token → ℕ → Option Reading
extended (Word w) b = cond (is_word_byte b) (Some (whole (Word (w ++ b ∷ [])))) None
extended (Num n) b = cond (is_ascii_digit b) (Some (whole (Num (n ++ b ∷ [])))) None
extended (Text content) b = cond (nat_eq b 39) (Some (in_text (content ++ b ∷ []))) None
extended Lt b = cond (nat_eq b 61) (Some (whole Le)) (cond (nat_eq b 62) (Some (whole Ne)) None)
extended Gt b = cond (nat_eq b 61) (Some (whole Ge)) None
extended t b = None

-- what is being read with a byte more, where it goes on with the byte
abbrev pub continued : Reading → ℕ → Option Reading
continued between b = None
continued (whole t) b = extended t b
continued (in_text content) b = Some (cond (nat_eq b 39) (whole (Text content)) (in_text (content ++ b ∷ [])))
continued after_dash b =
    Some (cond (nat_eq b 45) in_comment (cond (is_ascii_digit b) (whole (Num (45 ∷ b ∷ []))) failed))
continued after_bang b = Some (cond (nat_eq b 61) (whole Ne) failed)
continued in_comment b = Some (cond (nat_eq b 10) between in_comment)
continued failed b = Some failed

-- the tokens that end where nothing goes on with what is being read; none where that is no token
abbrev pub finished : Reading → Option (List Token)
finished between = Some []
finished (whole t) = cond (is_allowed t) (Some (t ∷ [])) None
finished in_comment = Some []
finished r = None

-- one list of tokens behind another, where both are there
abbrev pub joined : Option (List Token) → Option (List Token) → Option (List Token)
joined (Some front) (Some back) = Some (front ++ back)
joined front back = None

-- the reading after a byte
abbrev pub next_reading : Option Reading → ℕ → Reading
next_reading (Some on) b = on
next_reading None b = started b

-- the tokens that end before the byte
abbrev pub ended_tokens : Option Reading → Reading → Option (List Token)
ended_tokens (Some on) r = Some []
ended_tokens None r = finished r

-- the tokens of the bytes that come after a reading; none where these are no tokens
abbrev pub tokens_from : Reading → List ℕ → Option (List Token)
tokens_from r [] = finished r
tokens_from r (b ∷ bytes) = joined (ended_tokens (continued r b) r) (tokens_from (next_reading (continued r b) b) bytes)

-- the tokens of a piece; none where it is no list of tokens
abbrev pub tokens_of : List ℕ → Option (List Token)
tokens_of piece = tokens_from between piece
