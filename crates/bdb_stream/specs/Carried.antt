-- How the events of a script are carried out by a session one after the other.
use Rattle.std.specs.Prelude.{ℕ, ◌+◌, List, [], ◌∷◌, refl}
use Rattle.bdb_keep.specs.Seen.{Seen}
use Rattle.bdb_session.specs.declared.event.ScriptEvent.{ScriptEvent}
use Rattle.bdb_session.specs.Known.{Known, Remembers}
use Rattle.bdb_session.specs.Runs.{event_of, rest_events}
use Rattle.bdb_session.specs.Undoing.{reply_of, accepts, counts, next_state}
use Rattle.bdb_session.specs.UndoRuns.{after, replies, accepts_all}
use Rattle.bdb_stream.specs.Handled as handled
use Rattle.bdb_stream.specs.Handling.{Handling, IsInOrder}
use Rattle.bdb_undo.specs.Timelines.{Timeline}

-- how many of these events count
abbrev pub counted : Timeline → List ScriptEvent → ℕ
counted s [] = 0
counted s (e ∷ es) = counts s e + counted (next_state s e) es

-- How a session handles a script: it goes from timeline to timeline by the events of the script, commits for each that counts, and
-- remembers with the tables the timeline where it is.
abbrev pub by_session : Handling Known
by_session = record {
  Point = Timeline;
  Asked = ScriptEvent;
  asked_by = event_of;
  rest_asks = rest_events;
  reply_of = reply_of;
  is_fine = accepts;
  commits_by = counts;
  next_point = next_state;
  replies = replies;
  all_fine = accepts_all;
  committed = counted;
  after = after;
  session_of = λ k. k;
  Agrees = Remembers;
  StandsFor = λ _ _. Unit {0};
}

-- it handles several events one after the other
abbrev pub session_in_order : IsInOrder by_session
session_in_order = record {
  no_reply = λ _. refl;
  replies = λ _ _ _. refl;
  none_fine = λ _. refl;
  fine = λ _ _ _. refl;
  no_commit = λ _. refl;
  commits = λ _ _ _. refl;
  stays = λ _. refl;
  leads = λ _ _ _. refl;
}

-- A session and a keeper have come from a timeline, and from what the keeper told first, by these events: they remember the
-- timeline after them, and there was one commit for each event that counts.
abbrev pub Carried : Timeline → List ScriptEvent → Known → Seen → Seen → Type 0
Carried s done session first now = handled.Carried by_session s done session first now
