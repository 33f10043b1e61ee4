-- What a stream of sessions comes to, in the words of its replies and batches. Each law is the contract of a function of `laws`.
use Rattle.std.specs.Prelude.{◌≡◌, ℕ, ◌+◌, List, [], ◌∷◌}
use Rattle.std.specs.List.{concat}
use Rattle.bdb_many.specs.Many.{Batches, many_replies, many_last}
use Rattle.bdb_multi.specs.Batches.{RanBatch}
use Rattle.bdb_session.specs.Outcome.{State}
use Rattle.bdb_crowd.specs.Asked.{Asked, Point, after, asked_of, committed, replies, start_at}
use Rattle.bdb_crowd.specs.Counted.{after_first, batches_of, before_commit, up_to_commit}
use Rattle.bdb_crowd.specs.Due.{commits_of, session_batches}
use Rattle.bdb_stream.specs.Handling.{IsFrontOf}

-- how many of these batches are committed, where they are run one after the other
abbrev pub committed_of : {S : Type 0} → Batches S → S → List RanBatch → ℕ
committed_of m s [] = 0
committed_of m s (b ∷ batches) = commits_of m s b.commands + committed_of m (m.next s b.commands) batches

-- A stream is told one reply for each piece, and one for its rest; it leads where its batches lead, run one after the other, and commits
-- as often as these do.
pub record ComesToBatches (s : State) (script : List ℕ) : Type 0 where
  pub told : replies (start_at s) (asked_of script) ≡ concat (many_replies session_batches s script)
  pub leads : (after (start_at s) (asked_of script)).state ≡ many_last session_batches s script
  pub commits : committed (start_at s) (asked_of script) ≡ committed_of session_batches s (batches_of script)

abbrev pub StreamsComeTo : Type 0
StreamsComeTo = (s : State) (script : List ℕ) → ComesToBatches s script

-- Where the first of what is asked for is done and has committed k times, the state is the one after what comes before the batch that is
-- number k + 1 of those committed; what is done has number k in it, and goes no further than up to the next.
pub record IsToldByCommits (p : Point) (asked done : List Asked) (k : ℕ) : Type 0 where
  pub state : (after p done).state ≡ (after p (before_commit k p asked)).state
  pub all_of : IsFrontOf (up_to_commit k p asked) done
  pub no_more : IsFrontOf done (before_commit k p asked)

abbrev pub CommitsTellTheState : Type 0
CommitsTellTheState = (p : Point) (asked done : List Asked) → IsFrontOf done asked → IsToldByCommits p asked done (committed p done)

-- what comes before the batch that is number k + 1 of those committed leads where the first k of them lead, run one after the other
abbrev pub FirstBatchesLead : Type 0
FirstBatchesLead = (k : ℕ) (s : State) (script : List ℕ) → (after (start_at s) (before_commit k (start_at s) (asked_of script))).state
    ≡ after_first k s script
