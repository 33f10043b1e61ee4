-- The batches of a stream that are committed, and what it asks for before and up to one of them.
use Rattle.std.specs.Prelude.{ℕ, List, [], ◌∷◌, if◌then◌else◌, take}
use Rattle.bdb_many.specs.Many.{Batches, after_batches, events_of}
use Rattle.bdb_multi.specs.Batches.{RanBatch, ran_from}
use Rattle.bdb_multi.specs.Sessions.{acts_of}
use Rattle.bdb_session.specs.Outcome.{State}
use Rattle.bdb_stream.specs.Commits as commits
use Rattle.bdb_crowd.specs.Asked.{Asked, Point}
use Rattle.bdb_crowd.specs.Carried.{by_crowd}
use Rattle.bdb_crowd.specs.Due.{session_batches}

-- what is asked for up to and without the batch that is number k + 1 of those committed; all of it, where there is none
abbrev pub before_commit : ℕ → Point → List Asked → List Asked
before_commit k p asked = commits.before_commit by_crowd k p asked

-- what is asked for up to and with the batch that is number k of those committed; nothing, where k is 0
abbrev pub up_to_commit : ℕ → Point → List Asked → List Asked
up_to_commit k p asked = commits.up_to_commit by_crowd k p asked

-- the batches of a stream
abbrev pub batches_of : List ℕ → List RanBatch
batches_of script = ran_from 0 (events_of script) (acts_of (events_of script))

-- of these batches, where they are run one after the other, those that are committed
abbrev pub committed_among : {S : Type 0} → Batches S → S → List RanBatch → List RanBatch
committed_among m s [] = []
committed_among m s (b ∷ batches) =
    if m.is_whole s b.commands then b ∷ committed_among m (m.next s b.commands) batches else committed_among m s batches

-- the first so many of those
abbrev pub first_committed : {S : Type 0} → Batches S → ℕ → S → List RanBatch → List RanBatch
first_committed m k s batches = take k (committed_among m s batches)

-- the state after the first k committed batches of a stream, run one after the other
abbrev pub after_first : ℕ → State → List ℕ → State
after_first k s script = after_batches session_batches s (first_committed session_batches k s (batches_of script))
