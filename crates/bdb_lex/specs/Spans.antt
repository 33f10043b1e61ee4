-- A script as a list of spans, one after the other.
use Rattle.std.specs.Prelude.{◌≡◌, ℕ, Bool, true, false, not, ◌&&◌, cond, nat_eq, nat_le, List, [], ◌∷◌, ◌++◌, length}
use Rattle.std.specs.List.{list_all, list_any, flat_map}
use Rattle.bdb_base.specs.Limits.{longest_command}
use Rattle.bdb_base.specs.Letters.{is_blank}
use Rattle.bdb_lex.specs.declared.token.Piece.{Piece}
use Rattle.bdb_lex.specs.declared.token.Piece.TheVariants.{Cmd, Long}
use Rattle.bdb_lex.specs.Cut.{pieces_of, has_rest}
use Rattle.bdb_lex.specs.Reading.{begins}

-- an end; a text and a comment, with the bytes within; a byte by itself; a text and a comment that aren't closed
pub data Span : Type 0 where
  end : Span
  text : List ℕ → Span
  comment : List ℕ → Span
  byte : ℕ → Span
  open_text : List ℕ → Span
  open_comment : List ℕ → Span

-- the bytes of a span: 59 is the semicolon, 39 the quote, 45 the dash and 10 the line feed
abbrev pub spelled : Span → List ℕ
spelled end = 59 ∷ []
spelled (text bytes) = 39 ∷ (bytes ++ 39 ∷ [])
spelled (comment bytes) = 45 ∷ 45 ∷ (bytes ++ 10 ∷ [])
spelled (byte b) = b ∷ []
spelled (open_text bytes) = 39 ∷ bytes
spelled (open_comment bytes) = 45 ∷ 45 ∷ bytes

-- the bytes of these spans
abbrev pub bytes_of : List Span → List ℕ
bytes_of spans = flat_map spelled spans

-- no byte is this one
abbrev pub lacks : ℕ → List ℕ → Bool
lacks b bytes = list_all (λ c. not (nat_eq c b)) bytes

-- the bytes begin with a dash
abbrev pub begins_dash : List ℕ → Bool
begins_dash bytes = begins (λ b. nat_eq b 45) bytes

-- no span follows
abbrev pub is_last : List Span → Bool
is_last [] = true
is_last (span ∷ spans) = false

-- the span may stand before these: a text has no quote within, a comment no line feed; a byte is no semicolon, no quote, and
-- no dash that a dash follows; what isn't closed is the last span
abbrev pub may_stand : Span → List Span → Bool
may_stand end spans = true
may_stand (text bytes) spans = lacks 39 bytes
may_stand (comment bytes) spans = lacks 10 bytes
may_stand (byte b) spans = not (nat_eq b 59) && (not (nat_eq b 39) && not (nat_eq b 45 && begins_dash (bytes_of spans)))
may_stand (open_text bytes) spans = lacks 39 bytes && is_last spans
may_stand (open_comment bytes) spans = lacks 10 bytes && is_last spans

-- each span may stand where it does
abbrev pub all_stand : List Span → Bool
all_stand [] = true
all_stand (span ∷ spans) = may_stand span spans && all_stand spans

-- the script is these spans
pub record AreSpans (script : List ℕ) (spans : List Span) : Type 0 where
  pub bytes : script ≡ bytes_of spans
  pub stand : all_stand spans ≡ true

-- the piece of these bytes
abbrev pub piece_of : List ℕ → Piece
piece_of bytes = cond (nat_le (length bytes) longest_command) (Cmd bytes) Long

-- the pieces: the bytes before each end, back to the end before it, where some came before these spans
abbrev pub pieces_between : List ℕ → List Span → List Piece
pieces_between front [] = []
pieces_between front (end ∷ spans) = piece_of front ∷ pieces_between [] spans
pieces_between front (span ∷ spans) = pieces_between (front ++ spelled span) spans

-- an end
abbrev pub is_end_span : Span → Bool
is_end_span end = true
is_end_span span = false

-- the spans behind the last end
abbrev pub after_last_end : List Span → List Span
after_last_end [] = []
after_last_end (span ∷ spans) = cond (list_any is_end_span (span ∷ spans)) (after_last_end spans) (span ∷ spans)

-- a text, closed or not, or a byte other than a blank
abbrev pub is_something : Span → Bool
is_something (text bytes) = true
is_something (open_text bytes) = true
is_something (byte b) = not (is_blank b)
is_something span = false

-- each script is a list of spans
abbrev pub EachScriptIsSpans : Type 0
EachScriptIsSpans = (script : List ℕ) → (spans : List Span) × AreSpans script spans

-- and in one way alone
abbrev pub SpansAreOneList : Type 0
SpansAreOneList = (script : List ℕ) (a b : List Span) → AreSpans script a → AreSpans script b → a ≡ b

-- the pieces of a script are those of its spans
abbrev pub PiecesAreOfSpans : Type 0
PiecesAreOfSpans = (script : List ℕ) (spans : List Span) → AreSpans script spans → pieces_of script ≡ pieces_between [] spans

-- the rest holds something exactly where a span behind the last end is something
abbrev pub RestIsOfSpans : Type 0
RestIsOfSpans = (script : List ℕ) (spans : List Span) → AreSpans script spans
    → has_rest script ≡ list_any is_something (after_last_end spans)
