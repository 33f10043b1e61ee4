-- Cutting a script into pieces, one step for each byte.
use Rattle.std.specs.Prelude.{◌≡◌, ℕ, Bool, true, false, not, ◌&&◌, ◌||◌, cond, nat_eq, nat_lt, nat_le, List, [], ◌∷◌, ◌++◌, length}
use Rattle.bdb_base.specs.Limits.{longest_command}
use Rattle.bdb_base.specs.Letters.{is_blank}
use Rattle.bdb_lex.specs.declared.mode.Mode.{Mode}
use Rattle.bdb_lex.specs.declared.mode.Mode.TheVariants.{Plain, Dash, Quoted, Comment}
use Rattle.bdb_lex.specs.declared.token.Piece.{Piece}
use Rattle.bdb_lex.specs.declared.token.Piece.TheVariants.{Cmd, Long}
use Rattle.bdb_lex.specs.declared.token.Rest.{Rest}
use Rattle.bdb_lex.specs.declared.token.Rest.TheVariants.{Nothing, Unfinished}

-- what was read since the last cut: where it ends, the piece that a semicolon would end, and whether anything stands there
-- outside blanks and comments; a last dash isn't counted before the next byte tells whether it begins a comment
pub record CutState : Type 0 where
  pub mode : Mode
  pub piece : Piece
  pub holds : Bool

-- a cutter: what was read since the last cut, and whether it is spent, as a refusal leaves it
pub record CutterState : Type 0 where
  pub state : CutState
  pub is_spent : Bool

-- a cutter that may be fed
abbrev pub ready : CutState → CutterState
ready s = record { state = s; is_spent = false }

-- nothing was read since the last cut
abbrev pub start : CutState
start = record { mode = Plain; piece = Cmd []; holds = false }

-- the mode after a byte outside texts and comments
abbrev pub outside_mode : ℕ → Mode
outside_mode b = cond (nat_eq b 39) Quoted (cond (nat_eq b 45) Dash Plain)

-- the mode after one more byte
abbrev pub next_mode : Mode → ℕ → Mode
next_mode Plain b = outside_mode b
next_mode Dash b = cond (nat_eq b 45) Comment (outside_mode b)
next_mode Quoted b = cond (nat_eq b 39) Plain Quoted
next_mode Comment b = cond (nat_eq b 10) Plain Comment

-- the byte ends a piece
abbrev pub is_end : Mode → ℕ → Bool
is_end Plain b = nat_eq b 59
is_end Dash b = nat_eq b 59
is_end Quoted b = false
is_end Comment b = false

-- the byte shows that something stands outside blanks and comments: itself, or the dash before it
abbrev pub shows : Mode → ℕ → Bool
shows Plain b = not (is_blank b) && not (nat_eq b 45)
shows Dash b = not (nat_eq b 45)
shows Quoted b = true
shows Comment b = false

-- the piece with one more byte: long from 65,537 bytes on
abbrev pub longer : Piece → ℕ → Piece
longer (Cmd bytes) b = cond (nat_lt (length bytes) longest_command) (Cmd (bytes ++ b ∷ [])) Long
longer Long b = Long

-- the state after a byte that ends no piece
abbrev pub grown : CutState → ℕ → CutState
grown s b = record { mode = next_mode s.mode b; piece = longer s.piece b; holds = s.holds || shows s.mode b }

-- the state after one more byte
abbrev pub next_state : CutState → ℕ → CutState
next_state s b = cond (is_end s.mode b) start (grown s b)

-- the piece that the byte ends, if it ends one
abbrev pub ended : CutState → ℕ → List Piece
ended s b = cond (is_end s.mode b) (s.piece ∷ []) []

-- the pieces that end in these bytes, from a state on
abbrev pub pieces_from : CutState → List ℕ → List Piece
pieces_from s [] = []
pieces_from s (b ∷ bytes) = ended s b ++ pieces_from (next_state s b) bytes

-- the state after these bytes
abbrev pub state_after : CutState → List ℕ → CutState
state_after s [] = s
state_after s (b ∷ bytes) = state_after (next_state s b) bytes

-- a dash that no dash follows
abbrev pub is_dash : Mode → Bool
is_dash Plain = false
is_dash Dash = true
is_dash Quoted = false
is_dash Comment = false

-- something stands since the last cut, outside blanks and comments
abbrev pub holds_something : CutState → Bool
holds_something s = s.holds || is_dash s.mode

-- the pieces of a script
abbrev pub pieces_of : List ℕ → List Piece
pieces_of script = pieces_from start script

-- the rest of a script holds something
abbrev pub has_rest : List ℕ → Bool
has_rest script = holds_something (state_after start script)

-- what is said of a rest that holds something, or doesn't
abbrev pub rest_of : Bool → Rest
rest_of true = Unfinished
rest_of false = Nothing

-- from a state over these bytes, the piece ends first, and then those of the rest
pub record EndsFirst (s : CutState) (bytes : List ℕ) (piece : Piece) (rest : List ℕ) : Type 0 where
  pub pieces : pieces_from s bytes ≡ piece ∷ pieces_from start rest
  pub state : state_after s bytes ≡ state_after start rest

-- the list is the other with more behind it
pub record IsFront {X : Type 0} (front all : List X) : Type 0 where
  pub rest : List X
  pub whole : all ≡ front ++ rest

-- the list grew by a front of these
pub record GrewByFront {X : Type 0} (old new items : List X) : Type 0 where
  pub more : List X
  pub front : IsFront more items
  pub grew : new ≡ old ++ more

-- a piece has at most 65,536 bytes, or is long
abbrev pub is_short : Piece → Bool
is_short (Cmd bytes) = nat_le (length bytes) longest_command
is_short Long = true
