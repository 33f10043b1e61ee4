-- Lists of tokens cut where a separator or the next clause stands. No such token stands within what a list holds.
use Rattle.std.specs.Prelude.{ℕ, Bool, true, false, List, [], ◌∷◌, Option, Some, None, if◌then◌else◌, codes}
use Rattle.bdb_lex.specs.declared.token.Token.{Token}
use Rattle.bdb_lex.specs.declared.token.Token.TheVariants.{Word, Comma, ParenR}
use Rattle.bdb_parse.specs.declared.stop.Stop.{Stop}
use Rattle.bdb_parse.specs.declared.stop.Stop.TheVariants as stops
use Rattle.bdb_syntax.specs.Keywords.{is_keyword}

-- a token is this keyword
abbrev pub is_keyword_token : List ℕ → Token → Bool
is_keyword_token keyword (Word w) = is_keyword keyword w
is_keyword_token keyword _ = false

-- a token is a comma
abbrev pub is_comma : Token → Bool
is_comma Comma = true
is_comma _ = false

-- a token is a closing parenthesis
abbrev pub is_close : Token → Bool
is_close ParenR = true
is_close _ = false

-- a token is this stop
abbrev pub is_stop : Stop → Token → Bool
is_stop stops.Comma token = is_comma token
is_stop stops.Close token = is_close token
is_stop stops.And token = is_keyword_token (codes "and") token
is_stop stops.From token = is_keyword_token (codes "from") token
is_stop stops.Where token = is_keyword_token (codes "where") token

-- the tokens before the first stop, and those after it where there is one
abbrev pub cut : Stop → List Token → List Token × Option (List Token)
cut stop [] = ([], None)
cut stop (t ∷ ts) = if is_stop stop t then ([], Some ts) else (t ∷ (cut stop ts).0, (cut stop ts).1)

-- a token in front of the first part
abbrev pub with_first : Token → List (List Token) → List (List Token)
with_first t [] = (t ∷ []) ∷ []
with_first t (part ∷ parts) = (t ∷ part) ∷ parts

-- the parts between the stops, one more than there are stops
abbrev pub parts : Stop → List Token → List (List Token)
parts stop [] = [] ∷ []
parts stop (t ∷ ts) = if is_stop stop t then [] ∷ parts stop ts else with_first t (parts stop ts)
