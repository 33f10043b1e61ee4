-- What is due to an act of a stream of sessions, over the states of the belief machine.
use Rattle.std.specs.Prelude.{◌≡◌, ℕ, ◌+◌, ◌≤◌, Bool, true, false, if◌then◌else◌, List, [], ◌∷◌, ◌++◌, codes, length, take, Option, Result, Ok, Err}
use Rattle.std.specs.Fmt.{decimal}
use Rattle.std.specs.Io.KnownBytes.{Appends}
use Rattle.bdb_base.specs.Causes.{Rises}
use Rattle.bdb_keep.specs.Seen.{Seen}
use Rattle.bdb_many.specs.Many.{Batches, act_reply, act_next}
use Rattle.bdb_many.specs.Labels.{told}
use Rattle.bdb_multi.specs.declared.kinds.Act.{Act}
use Rattle.bdb_multi.specs.declared.kinds.Act.TheVariants.{Begun, Queued, Aborted, ErrBegun, ErrNotBegun, ErrBatch, One, Batch}
use Rattle.bdb_multi.specs.Sessions.{Commands, most_queued}
use Rattle.bdb_session.specs.Batches.{pieces, before_refused, batch_text, batch_state, batch_commits, IsBatchReply}
use Rattle.bdb_session.specs.Known.{Known, Agrees}
use Rattle.bdb_session.specs.Outcome.{State}
use Rattle.bdb_session.specs.Runs.{accepts_all}
use Rattle.bdb_session.specs.declared.batch.BatchReply.{BatchReply}
use Rattle.bdb_stream.specs.declared.error.RunError.{RunError}
use Rattle.bdb_stream.specs.declared.error.RunError.TheVariants.{Sink}

-- how the belief machine runs batches
abbrev pub session_batches : Batches State
session_batches = record {
  text = λ s q. batch_text s (pieces q);
  is_whole = λ s q. accepts_all s (pieces q);
  accepted = λ s q. before_refused s (pieces q);
  next = λ s q. batch_state s (pieces q);
}

-- an act is told without an error: a batch that is run, where none of its commands is refused
abbrev pub act_is_fine : {S : Type 0} → Batches S → S → Act → Bool
act_is_fine m s Begun = true
act_is_fine m s Queued = true
act_is_fine m s Aborted = true
act_is_fine m s ErrBegun = false
act_is_fine m s ErrNotBegun = false
act_is_fine m s ErrBatch = false
act_is_fine m s (One c) = m.is_whole s (c ∷ [])
act_is_fine m s (Batch q) = m.is_whole s q

-- how often a batch is committed: once where none of its commands is refused
abbrev pub commits_of : {S : Type 0} → Batches S → S → Commands → ℕ
commits_of m s q = if m.is_whole s q then 1 else 0

-- how often an act commits
abbrev pub act_commits : {S : Type 0} → Batches S → S → Act → ℕ
act_commits m s Begun = 0
act_commits m s Queued = 0
act_commits m s Aborted = 0
act_commits m s ErrBegun = 0
act_commits m s ErrNotBegun = 0
act_commits m s ErrBatch = 0
act_commits m s (One c) = commits_of m s (c ∷ [])
act_commits m s (Batch q) = commits_of m s q

-- what is due: the reply, whether it has no line that tells an error, the state after, and how often it commits
pub record Due : Type 0 where
  pub reply : List ℕ
  pub fine : Bool
  pub next : State
  pub commits : ℕ

-- what is due to an act of a session
abbrev pub due_to : State → ℕ → Act → Due
due_to s n act = record {
  reply = act_reply session_batches s n act;
  fine = act_is_fine session_batches s act;
  next = act_next session_batches s act;
  commits = act_commits session_batches s act;
}

-- a session and a keeper have come to a state with so many commits
pub record Lands (next : State) (commits : ℕ) (session : Known) (first now : Seen) : Type 0 where
  pub agrees : Agrees now.kept session next
  pub rises : Rises commits first.commits now.commits

-- How what is due was done: with an Ok whole, and the reply is written; where the sink failed it was done, and a part of the reply is
-- written; after another Err nothing was done or written.
abbrev pub IsDone : State → Due → Known → Seen → Seen → Option (List ℕ) → Option (List ℕ) → Result Bool RunError → Type 0
IsDone s d session first now old new (Ok fine) = Lands d.next d.commits session first now × (fine ≡ d.fine) × Appends old new d.reply
IsDone s d session first now old new (Err Sink) = Lands d.next d.commits session first now
    × ((part : ℕ) × Appends old new (take part d.reply))
IsDone s d session first now old new (Err _) = Lands s 0 session first now × Appends old new []

-- how a text was told, which tells an error or doesn't: whole, or where the sink failed a part of it
abbrev pub IsTextTold : List ℕ → Bool → Option (List ℕ) → Option (List ℕ) → Result Bool RunError → Type 0
IsTextTold text fine old new (Ok is) = (is ≡ fine) × Appends old new text
IsTextTold text fine old new (Err Sink) = (part : ℕ) × Appends old new (take part text)
IsTextTold text fine old new (Err _) = ⊥

-- how commands were run as one batch
abbrev pub IsRunBy : State → Commands → Known → Seen → Seen → Result BatchReply RunError → Type 0
IsRunBy s q session first now (Ok r) = IsBatchReply s (pieces q) r
    × Lands (batch_state s (pieces q)) (batch_commits s (pieces q)) session first now
IsRunBy s q session first now (Err _) = Lands s 0 session first now

-- the line that tells how a batch of so many commands ended, by whether one was refused, and how many come before it
abbrev pub end_line : ℕ → Bool → ℕ → ℕ → List ℕ
end_line n refused accepted count =
    told n (if refused then codes "aborted " ++ decimal (accepted + 1) else codes "committed " ++ decimal count)

-- no more commands wait than may
abbrev pub IsWaiting : Act → Type 0
IsWaiting (Batch q) = length q ≤ most_queued
IsWaiting _ = Unit {0}
