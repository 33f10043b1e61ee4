-- How tokens are read from the front of the bytes, and how they are spelled.
use Rattle.std.specs.Prelude.{◌≡◌, ℕ, ◌<◌, ◌≤◌, Bool, true, false, not, ◌&&◌, ◌||◌, cond, nat_eq, Some, None, List, [], ◌∷◌, ◌++◌, length}
use Rattle.std.specs.List.{list_all}
use Rattle.std.specs.Char.{is_ascii_digit}
use Rattle.bdb_base.specs.Letters.{is_blank, is_letter, is_word_byte}
use Rattle.bdb_lex.specs.declared.token.Token.{Token}
use Rattle.bdb_lex.specs.Tokens.{Reading, extended, finished, tokens_from, tokens_of, joined}
use Rattle.bdb_lex.specs.Tokens.Reading.{whole}

-- the bytes begin with one that passes
abbrev pub begins : (ℕ → Bool) → List ℕ → Bool
begins test [] = false
begins test (b ∷ bytes) = test b

-- one byte or more, and each is a digit
abbrev pub is_digits : List ℕ → Bool
is_digits bytes = begins is_ascii_digit bytes && list_all is_ascii_digit bytes

-- digits, or a dash and digits
abbrev pub is_num : List ℕ → Bool
is_num [] = false
is_num (b ∷ bytes) = cond (nat_eq b 45) (is_digits bytes) (is_digits (b ∷ bytes))

-- the bytes begin with a digit, or with a dash and a digit
abbrev pub begins_num : List ℕ → Bool
begins_num [] = false
begins_num (b ∷ bytes) = cond (nat_eq b 45) (begins is_ascii_digit bytes) (is_ascii_digit b)

-- a letter, and then letters and digits
abbrev pub is_word : List ℕ → Bool
is_word bytes = begins is_letter bytes && list_all is_word_byte bytes

-- the bytes begin with a blank or with a comment
abbrev pub begins_gap : List ℕ → Bool
begins_gap [] = false
begins_gap (b ∷ bytes) = is_blank b || (nat_eq b 45 && begins (λ c. nat_eq c 45) bytes)

-- what follows the blanks and comments at the front, within a comment or outside: 45 is the dash and 10 the line feed
abbrev pub behind : Bool → List ℕ → List ℕ
behind inside [] = []
behind true (b ∷ bytes) = behind (not (nat_eq b 10)) bytes
behind false (b ∷ bytes) = cond (begins_gap (b ∷ bytes)) (behind (nat_eq b 45) bytes) (b ∷ bytes)

abbrev pub behind_gaps : List ℕ → List ℕ
behind_gaps bytes = behind false bytes

-- what begins neither a gap nor a word, a number or a text
abbrev pub is_symbol_byte : ℕ → Bool
is_symbol_byte b = not (is_blank b || (is_letter b || (is_ascii_digit b || (nat_eq b 39 || nat_eq b 45))))

-- a token, which goes on with no byte
abbrev pub IsSingle : Token → Type 0
IsSingle t = (finished (whole t) ≡ Some (t ∷ [])) × ((b : ℕ) → extended t b ≡ None)

-- no quote
abbrev pub is_no_quote : ℕ → Bool
is_no_quote b = not (nat_eq b 39)

-- the bytes are a part without a quote, a quote, and the rest
pub record IsParted (bytes part rest : List ℕ) : Type 0 where
  pub whole : bytes ≡ part ++ 39 ∷ rest
  pub unquoted : list_all is_no_quote part ≡ true

-- behind a reading the bytes are those of a token, the longest, and then the rest
pub record ReadsOn (r : Reading) (bytes : List ℕ) (token : Token) (rest : List ℕ) : Type 0 where
  pub tokens : tokens_from r bytes ≡ joined (Some (token ∷ [])) (tokens_of rest)
  pub shorter : length rest ≤ length bytes

-- the bytes are those of a token, the longest, and then the rest
pub record Reads (bytes : List ℕ) (token : Token) (rest : List ℕ) : Type 0 where
  pub tokens : tokens_of bytes ≡ joined (Some (token ∷ [])) (tokens_of rest)
  pub shorter : length rest < length bytes

-- as far as the rest, these tokens were found
abbrev pub IsFound : List ℕ → List Token → List ℕ → Type 0
IsFound piece found rest = tokens_of piece ≡ joined (Some found) (tokens_of rest)
