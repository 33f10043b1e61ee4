-- Runs of the belief machine with undo and redo over the events of a script.
use Rattle.std.specs.Prelude.{ℕ, Bool, true, ◌&&◌, List, [], ◌∷◌, ◌++◌}
use Rattle.bdb_undo.specs.Timelines.{Timeline}
use Rattle.bdb_session.specs.declared.event.ScriptEvent.{ScriptEvent}
use Rattle.bdb_session.specs.Undoing.{accepts, reply_of, next_state}

-- the timeline after these events
abbrev pub after : Timeline → List ScriptEvent → Timeline
after t [] = t
after t (e ∷ es) = after (next_state t e) es

-- the replies to these events, one behind the other
abbrev pub replies : Timeline → List ScriptEvent → List ℕ
replies t [] = []
replies t (e ∷ es) = reply_of t e ++ replies (next_state t e) es

-- none of these events is refused
abbrev pub accepts_all : Timeline → List ScriptEvent → Bool
accepts_all t [] = true
accepts_all t (e ∷ es) = accepts t e && accepts_all (next_state t e) es
