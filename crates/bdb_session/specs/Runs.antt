-- Runs of the belief machine over the events of a script.
use Rattle.std.specs.Prelude.{ℕ, Bool, true, ◌&&◌, List, [], ◌∷◌, ◌++◌, map}
use Rattle.bdb_lex.specs.declared.token.Piece.{Piece}
use Rattle.bdb_lex.specs.declared.token.Piece.TheVariants as piece
use Rattle.bdb_lex.specs.declared.token.Rest.{Rest}
use Rattle.bdb_lex.specs.declared.token.Rest.TheVariants.{Nothing, Unfinished}
use Rattle.bdb_lex.specs.Cut.{pieces_of, has_rest, rest_of}
use Rattle.bdb_session.specs.declared.event.ScriptEvent.{ScriptEvent}
use Rattle.bdb_session.specs.declared.event.ScriptEvent.TheVariants as event
use Rattle.bdb_session.specs.Machine.{accepts, reply_of, next_state}
use Rattle.bdb_session.specs.Outcome.{State}

-- what a piece asks for
abbrev pub event_of : Piece → ScriptEvent
event_of (piece.Cmd bytes) = event.Piece bytes
event_of piece.Long = event.Long

-- what the rest of a script asks for: nothing, or that it be told as unfinished
abbrev pub rest_events : Rest → List ScriptEvent
rest_events Nothing = []
rest_events Unfinished = event.Unfinished ∷ []

-- the pieces of a script, and then its rest where it holds something: in the words of spans by the laws `pieces_are_of_spans` and
-- `rest_is_of_spans` of `bdb_lex`
abbrev pub events_of : List ℕ → List ScriptEvent
events_of script = map event_of (pieces_of script) ++ rest_events (rest_of (has_rest script))

-- the state after these events
abbrev pub after : State → List ScriptEvent → State
after s [] = s
after s (e ∷ es) = after (next_state s e) es

-- the replies to these events, one behind the other
abbrev pub replies : State → List ScriptEvent → List ℕ
replies s [] = []
replies s (e ∷ es) = reply_of s e ++ replies (next_state s e) es

-- none of these events is refused
abbrev pub accepts_all : State → List ScriptEvent → Bool
accepts_all s [] = true
accepts_all s (e ∷ es) = accepts s e && accepts_all (next_state s e) es
