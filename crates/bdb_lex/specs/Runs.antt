-- Runs of bytes in which no piece ends, and what feeding leaves.
use Rattle.std.specs.Prelude.{◌≡◌, ℕ, Bool, true, false, not, ◌&&◌, nat_eq, List, [], ◌∷◌, ◌++◌, take, drop}
use Rattle.bdb_lex.specs.declared.mode.Mode.{Mode}
use Rattle.bdb_lex.specs.declared.mode.Mode.TheVariants.{Plain, Dash, Quoted, Comment}
use Rattle.bdb_lex.specs.declared.run.Run.{Run}
use Rattle.bdb_lex.specs.declared.token.Piece.{Piece}
use Rattle.bdb_lex.specs.Cut.{CutState, longer, is_end, pieces_from, state_after}

-- a state by its parts
abbrev pub state_of : Mode → Piece → Bool → CutState
state_of mode piece holds = record { mode = mode; piece = piece; holds = holds }

-- the piece with more bytes
abbrev pub longer_by : Piece → List ℕ → Piece
longer_by piece [] = piece
longer_by piece (b ∷ bytes) = longer_by (longer piece b) bytes

-- no byte is left, or the next one ends a piece
abbrev pub IsAtEnd : Mode → List ℕ → Type 0
IsAtEnd mode [] = Unit {0}
IsAtEnd mode (b ∷ bytes) = is_end mode b ≡ true

-- from one state over these bytes nothing else comes than from the other over the rest
pub record LeadsAlike (s : CutState) (bytes : List ℕ) (now : CutState) (rest : List ℕ) : Type 0 where
  pub pieces : pieces_from s bytes ≡ pieces_from now rest
  pub state : state_after s bytes ≡ state_after now rest

-- from the state over these bytes the run leads on to its end
abbrev pub Runs : Mode → Bool → List ℕ → Run → Type 0
Runs mode holds bytes run = (p : Piece) → LeadsAlike (state_of mode p holds) bytes
    (state_of run.mode (longer_by p (take run.len bytes)) run.holds) (drop run.len bytes)

-- the byte changes no mode and ends no piece
abbrev pub is_quiet : Mode → ℕ → Bool
is_quiet Plain b = not (nat_eq b 59) && (not (nat_eq b 39) && not (nat_eq b 45))
is_quiet Dash b = false
is_quiet Quoted b = not (nat_eq b 39)
is_quiet Comment b = not (nat_eq b 10)

-- as far as the rest, the list grew by the pieces that ended
pub record IsFed (old : List Piece) (s : CutState) (bytes : List ℕ) (new : List Piece) (now : CutState) (rest : List ℕ) : Type 0 where
  pub more : List Piece
  pub grew : new ≡ old ++ more
  pub pieces : pieces_from s bytes ≡ more ++ pieces_from now rest
  pub state : state_after s bytes ≡ state_after now rest
