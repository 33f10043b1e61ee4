-- How a run ends, as the count of commits alone tells it.
use Rattle.std.specs.Prelude.{◌≡◌, ◌≢◌, ℕ, ◌-◌, ◌^◌, ◌<◌, List, ◌++◌, Option}
use Rattle.std.specs.Io.KnownBytes.{Appends}
use Rattle.bdb_catalog.specs.Opening.{StandFor}
use Rattle.bdb_keep.specs.Seen.{Seen}
use Rattle.bdb_session.specs.declared.event.ScriptEvent.{ScriptEvent}
use Rattle.bdb_session.specs.Opening.{opening}
use Rattle.bdb_undo.specs.Timelines.{Timeline}
use Rattle.bdb_session.specs.Runs.{events_of}
use Rattle.bdb_session.specs.UndoRuns.{after, replies}
use Rattle.bdb_top.specs.Counted.{before_count, up_to_count}

-- some bytes are the first of others
abbrev pub BeginsWith : List ℕ → List ℕ → Type 0
BeginsWith whole front = (rest : List ℕ) × (whole ≡ front ++ rest)

-- How a run ends, by the number k of its commits that are of events that count. The tables stand for the base after the first k.
-- What was written is the first bytes of the replies before that of the next one. It has whole every reply before that
-- of number k, and unless the sink failed that one too.
pub record EndsByCount (s : Timeline) (events : List ScriptEvent) (now : Seen) (old new : Option (List ℕ)) (status k : ℕ) : Type 0 where
  pub stands : StandFor now.last (after s (before_count k s events)).now
  pub text : List ℕ
  pub written : Appends old new text
  pub no_more : BeginsWith (replies s (before_count k s events)) text
  pub before : k ≢ 0 → BeginsWith text (replies s (before_count (k - 1) s events))
  pub whole : status ≢ 4 → BeginsWith text (replies s (up_to_count k s events))

-- how many of the commits between two states of a keeper are of events that count: all but the one of opening, which comes where
-- the tables had no row or were of the format before this one
abbrev pub commits_between : Seen → Seen → ℕ
commits_between first now = now.commits - first.commits - opening first.kept

-- the count of commits, unless it stands at the end of its type, tells how a run over a script ends
abbrev pub CommitsTell : Timeline → List ℕ → Seen → Seen → Option (List ℕ) → Option (List ℕ) → ℕ → Type 0
CommitsTell s text first now old new status = now.commits < 2 ^ 64 - 1 → EndsByCount s (events_of text) now old new status
    (commits_between first now)
