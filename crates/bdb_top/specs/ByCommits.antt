-- How a run over a stream of sessions ends, as the count of commits alone tells it.
use Rattle.std.specs.Prelude.{◌≢◌, ℕ, ◌-◌, ◌^◌, ◌<◌, List, Option}
use Rattle.std.specs.Io.KnownBytes.{Appends}
use Rattle.bdb_catalog.specs.Opening.{StandFor}
use Rattle.bdb_crowd.specs.Asked.{Asked, Point, asked_of, replies, start_at}
use Rattle.bdb_crowd.specs.Counted.{after_first, before_commit, up_to_commit}
use Rattle.bdb_keep.specs.Seen.{Seen}
use Rattle.bdb_session.specs.Outcome.{State}
use Rattle.bdb_top.specs.ByCount.{BeginsWith, commits_between}

-- What was written, where k batches were committed: the first bytes of the replies before that of the next one. It has whole every reply
-- before that of number k, and unless the sink failed that one too.
pub record IsWrittenBy (p : Point) (asked : List Asked) (old new : Option (List ℕ)) (status k : ℕ) : Type 0 where
  pub text : List ℕ
  pub written : Appends old new text
  pub no_more : BeginsWith (replies p (before_commit k p asked)) text
  pub before : k ≢ 0 → BeginsWith text (replies p (before_commit (k - 1) p asked))
  pub whole : status ≢ 4 → BeginsWith text (replies p (up_to_commit k p asked))

-- How a run over a stream ends, by the number k of its commits that are of batches. The tables stand for the base after the first k
-- committed batches, run one after the other.
pub record EndsByCommits (s : State) (script : List ℕ) (now : Seen) (old new : Option (List ℕ)) (status k : ℕ) : Type 0 where
  pub stands : StandFor now.last (after_first k s script).base
  pub replied : IsWrittenBy (start_at s) (asked_of script) old new status k

-- the count of commits, unless it stands at the end of its type, tells how a run over a stream ends
abbrev pub CommitsTellMany : State → List ℕ → Seen → Seen → Option (List ℕ) → Option (List ℕ) → ℕ → Type 0
CommitsTellMany s script first now old new status = now.commits < 2 ^ 64 - 1 → EndsByCommits s script now old new status
    (commits_between first now)
