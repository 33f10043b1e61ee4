-- What a stream of sessions asks for, in order, and what comes of it.
use Rattle.std.specs.Prelude.{ℕ, ◌+◌, Bool, true, false, ◌&&◌, List, [], ◌∷◌, ◌++◌, map}
use Rattle.bdb_lex.specs.Cut.{pieces_of, has_rest, rest_of}
use Rattle.bdb_lex.specs.declared.token.Piece.{Piece}
use Rattle.bdb_lex.specs.declared.token.Rest.{Rest}
use Rattle.bdb_lex.specs.declared.token.Rest.TheVariants.{Nothing, Unfinished}
use Rattle.bdb_events.specs.Pieces.{read_of}
use Rattle.bdb_events.specs.declared.read.Read.{Read}
use Rattle.bdb_many.specs.Many.{read_reply, read_next, event_in, rest_reply}
use Rattle.bdb_multi.specs.declared.kinds.Event.{Event}
use Rattle.bdb_multi.specs.Sessions.{act_after}
use Rattle.bdb_session.specs.Outcome.{State}
use Rattle.bdb_crowd.specs.Due.{session_batches, act_is_fine, act_commits}

-- one of the things that a stream asks for: what a piece is, or that a rest be told as unfinished
pub data Asked : Type 0 where
  piece : Read → Asked
  unfinished : Asked

-- what a piece asks for
abbrev pub asked_by : Piece → Asked
asked_by p = piece (read_of p)

-- what the rest of a stream asks for: nothing, or that it be told as unfinished
abbrev pub rest_asks : Rest → List Asked
rest_asks Nothing = []
rest_asks Unfinished = unfinished ∷ []

-- what a stream asks for: its pieces, which are what stands before each end of its spans (`pieces_are_of_spans` of `bdb_lex`), and then
-- its rest where it holds something, which is a text or a byte other than a blank behind the last end (`rest_is_of_spans`)
abbrev pub asked_of : List ℕ → List Asked
asked_of script = map asked_by (pieces_of script) ++ rest_asks (rest_of (has_rest script))

-- how far a stream has come: the state that it led to, and the events so far
pub record Point : Type 0 where
  pub state : State
  pub before : List Event

-- where a stream starts
abbrev pub start_at : State → Point
start_at s = record { state = s; before = [] }

-- what is told
abbrev pub reply_of : Point → Asked → List ℕ
reply_of p (piece r) = read_reply session_batches p.state p.before r
reply_of p unfinished = rest_reply true

-- what a piece is, is told without an error
abbrev pub read_is_fine : Point → Read → Bool
read_is_fine p Read.Nothing = true
read_is_fine p Read.Long = false
read_is_fine p Read.NoSession = false
read_is_fine p (Read.NoLine n) = false
read_is_fine p (Read.Event e) = act_is_fine session_batches p.state (act_after p.before e)

-- none of the lines told tells an error
abbrev pub is_fine : Point → Asked → Bool
is_fine p (piece r) = read_is_fine p r
is_fine p unfinished = false

-- how often it commits: once where a batch is run whole
abbrev pub read_commits : Point → Read → ℕ
read_commits p Read.Nothing = 0
read_commits p Read.Long = 0
read_commits p Read.NoSession = 0
read_commits p (Read.NoLine n) = 0
read_commits p (Read.Event e) = act_commits session_batches p.state (act_after p.before e)

abbrev pub commits_by : Point → Asked → ℕ
commits_by p (piece r) = read_commits p r
commits_by p unfinished = 0

-- how far the stream has come after it
abbrev pub next_point : Point → Asked → Point
next_point p (piece r) = record { state = read_next session_batches p.state p.before r; before = p.before ++ event_in r }
next_point p unfinished = p

-- how far it has come after several
abbrev pub after : Point → List Asked → Point
after p [] = p
after p (a ∷ asked) = after (next_point p a) asked

-- what is told of them, one reply behind the other
abbrev pub replies : Point → List Asked → List ℕ
replies p [] = []
replies p (a ∷ asked) = reply_of p a ++ replies (next_point p a) asked

-- none of the replies tells an error
abbrev pub all_fine : Point → List Asked → Bool
all_fine p [] = true
all_fine p (a ∷ asked) = is_fine p a && all_fine (next_point p a) asked

-- how often they commit
abbrev pub committed : Point → List Asked → ℕ
committed p [] = 0
committed p (a ∷ asked) = commits_by p a + committed (next_point p a) asked
