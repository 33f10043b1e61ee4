-- The definitions, computed on short scripts.
use Rattle.std.proofs.Common.{◌≡◌, ℕ, true, false, List, [], ◌∷◌, ◌++◌, refl, Some, None}
use Rattle.std.specs.Prelude.{codes}
use Rattle.std.specs.Str.{is_utf8, chars}
use Rattle.std.proofs.Math.Utf8.{encode}
use Rattle.bdb_lex.specs.declared.token.Piece.TheVariants.{Cmd}
use Rattle.bdb_lex.specs.declared.token.Token.TheVariants.{Word, Text, Num, Comma, Dot, ParenL, ParenR, Ne, Le}
use Rattle.bdb_lex.specs.Cut.{pieces_of, has_rest}
use Rattle.bdb_lex.specs.Tokens.{tokens_of}

-- two lines with a line feed between
abbrev pub lines : List ℕ → List ℕ → List ℕ
lines a b = a ++ 10 ∷ b

-- a semicolon ends a piece, but not within a text or a comment; between two semicolons there is an empty piece
ends : pieces_of (lines (codes "a 'b;c' -- d;") (codes "e;;f")) ≡ Cmd (lines (codes "a 'b;c' -- d;") (codes "e")) ∷ Cmd [] ∷ []
ends = refl

-- a quote within a comment begins no text, and two dashes within a text no comment
marks_within : pieces_of (lines (codes "-- it's") (codes "a '--';b;")) ≡ Cmd (lines (codes "-- it's") (codes "a '--'")) ∷ Cmd (codes "b") ∷ []
marks_within = refl

-- behind the last semicolon a text that isn't closed is something, and so is a dash; a comment is not
open_text_is_something : has_rest (codes "a;'b") ≡ true
open_text_is_something = refl

dash_is_something : has_rest (codes "a; -") ≡ true
dash_is_something = refl

comment_is_nothing : has_rest (codes "a; -- b") ≡ false
comment_is_nothing = refl

-- each token is the longest that fits, and blanks and comments are dropped
insert_tokens : tokens_of (codes "Insert INTO S values(1,-20)--x") ≡ Some (Word (codes "Insert") ∷ Word (codes "INTO") ∷ Word (codes "S")
    ∷ Word (codes "values") ∷ ParenL ∷ Num (codes "1") ∷ Comma ∷ Num (codes "-20") ∷ ParenR ∷ [])
insert_tokens = refl

test_tokens : tokens_of (codes "X.k!=Y.v<=Z") ≡ Some (Word (codes "X") ∷ Dot ∷ Word (codes "k") ∷ Ne ∷ Word (codes "Y") ∷ Dot ∷ Word (codes "v") ∷ Le ∷ Word (codes "Z") ∷ [])
test_tokens = refl

-- a dash alone is no token, and an exclamation mark alone is none
no_dash : tokens_of (codes "1 - 2") ≡ None
no_dash = refl

no_mark : tokens_of (codes "a ! b") ≡ None
no_mark = refl

-- a piece of blanks and a comment has no token
no_token : tokens_of (codes "  -- a") ≡ Some []
no_token = refl

-- a quote within a text is doubled
text_token : tokens_of (codes "'it''s' ''") ≡ Some (Text (codes "it's") ∷ Text [] ∷ [])
unfolding is_utf8 chars encode
text_token = refl

-- a text that isn't closed is no token
no_text : tokens_of (codes "'a") ≡ None
no_text = refl
