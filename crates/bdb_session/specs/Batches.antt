-- A batch: lines that are pieces, applied one after the other, all or none of them.
use Rattle.std.specs.Prelude.{◌≡◌, ℕ, ◌+◌, Bool, true, false, not, ◌&&◌, ◌||◌, nat_lt, List, [], ◌∷◌, ◌++◌, length, map, Result, IfOk, OnOk, MatchBool, if◌then◌else◌}
use Rattle.bdb_base.specs.Causes.{Rises}
use Rattle.bdb_keep.specs.Seen.{Seen, Unchanged}
use Rattle.bdb_undo.specs.Histories.{Kept, nothing_kept}
use Rattle.bdb_undo.specs.Same.{same_contents}
use Rattle.bdb_undo.specs.Timelines.{Timeline, started}
use Rattle.bdb_session.specs.declared.batch.BatchReply.{BatchReply}
use Rattle.bdb_session.specs.declared.event.ScriptEvent.{ScriptEvent}
use Rattle.bdb_session.specs.declared.event.ScriptEvent.TheVariants.{Piece}
use Rattle.bdb_session.specs.declared.error.StopError.{StopError}
use Rattle.bdb_session.specs.Known.{Known, Agrees}
use Rattle.bdb_session.specs.Machine.{accepts, next_state, reply_of}
use Rattle.bdb_session.specs.Outcome.{State, Outcome, start_from, state_after}
use Rattle.bdb_session.specs.Runs.{accepts_all, after, replies}
use Rattle.bdb_session.specs.Served.{Ends}
use Rattle.bdb_session.specs.Within.{IsKept, IsUndone}

-- each line asks for what it asks for as a piece
abbrev pub pieces : List (List ℕ) → List ScriptEvent
pieces lines = map (λ line. Piece line) lines

-- the first of these events, up to and with the first that is refused
abbrev pub up_to_refused : State → List ScriptEvent → List ScriptEvent
up_to_refused s [] = []
up_to_refused s (e ∷ es) = e ∷ (if accepts s e then up_to_refused (next_state s e) es else [])

-- how many events come before the first that is refused
abbrev pub before_refused : State → List ScriptEvent → ℕ
before_refused s [] = 0
before_refused s (e ∷ es) = if accepts s e then before_refused (next_state s e) es + 1 else 0

-- what a batch tells: the replies up to and with the first event that is refused
abbrev pub batch_text : State → List ScriptEvent → List ℕ
batch_text s es = replies s (up_to_refused s es)

-- the state after a batch: that after all its events where none of them is refused, and else as it was
abbrev pub batch_state : State → List ScriptEvent → State
batch_state s es = if accepts_all s es then after s es else s

-- how often a batch is committed: once where none of its events is refused
abbrev pub batch_commits : State → List ScriptEvent → ℕ
batch_commits s es = if accepts_all s es then 1 else 0

-- some of these events leads from the base before it to another one
abbrev pub alters_some : State → List ScriptEvent → Bool
alters_some s [] = false
alters_some s (e ∷ es) = not (same_contents s.base (next_state s e).base) || alters_some (next_state s e) es

-- The timeline after a batch: where none of its events is refused and some of them leads to another base, undo and redo lead nowhere from
-- the base after all of them. Else it is as it was.
abbrev pub batch_timeline : Timeline → List ScriptEvent → Timeline
batch_timeline t es = if accepts_all (start_from t.now) es && alters_some (start_from t.now) es then started (after (start_from t.now) es).base else t

-- ---- within its transaction

-- what a session knows that has made no change yet
abbrev pub without_changes : Known → Known
without_changes k = record k { history = nothing_kept }

-- a session has made changes
abbrev pub is_altered : Known → Bool
is_altered k = nat_lt 0 (length k.history.undos)

-- the changes that are left to take back and make again: none where a batch made some
abbrev pub left_by : Bool → Kept → Kept
left_by altered history = if altered then nothing_kept else history

-- what a session knows that takes over what its copy came to know by a batch
abbrev pub taken_over : Known → Known → Known
taken_over k copy = record copy { history = left_by (is_altered copy) k.history }

-- What comes of an event alters the base exactly where the session made a change, whichever state it agrees on with the tables.
abbrev pub Alters : {T : Type 0} → (State → Outcome) → Known → Known → Seen → Result T StopError → Type 0
Alters outcome was now old result = (s : State) → Agrees old.kept was s
    → OnOk result (is_altered now ≡ (is_altered was || not (same_contents s.base (state_after s (outcome s)).base)))

-- Where none of these events is refused, some of them altered the base exactly where the session made a change.
abbrev pub AlterSome : {T : Type 0} → List ScriptEvent → Known → Known → Seen → Result T StopError → Type 0
AlterSome es was now old result = (s : State) → Agrees old.kept was s
    → OnOk result (accepts_all s es ≡ true → is_altered now ≡ (is_altered was || alters_some s es))

-- An event was carried out, or refused: its reply is told behind what was told before, and the session agrees with the tables on the
-- state after.
pub record IsRun (s : State) (e : ScriptEvent) (before told : List ℕ) (accepted : Bool) (now : Known) (new : Seen) : Type 0 where
  pub text : told ≡ before ++ reply_of s e
  pub accepted_is : accepted ≡ accepts s e
  pub next : Agrees new.kept now (next_state s e)

-- Events were carried out, up to and with the first that is refused. So much is told behind what was told before, and where none is
-- refused the session agrees with the tables on the state after.
pub record AreRun (s : State) (es : List ScriptEvent) (before told : List ℕ) (accepted : ℕ) (refused : Bool) (now : Known) (new : Seen) : Type 0 where
  pub text : told ≡ before ++ batch_text s es
  pub accepted_is : accepted ≡ before_refused s es
  pub refused_is : refused ≡ not (accepts_all s es)
  pub next : accepts_all s es ≡ true → Agrees new.kept now (after s es)

-- how the transaction of a batch ends, which a copy of the session ran
abbrev pub ClosesBatch : Known → BatchReply → Known → Known → Seen → Seen → Result BatchReply StopError → Type 0
ClosesBatch copy told before now old new result =
    MatchBool told.refused (IsUndone told before now old new result) (IsKept (taken_over before copy) told before now old new result)

-- ---- as a whole

-- what is answered to a batch
pub record IsBatchReply (s : State) (es : List ScriptEvent) (r : BatchReply) : Type 0 where
  pub refused : r.refused ≡ not (accepts_all s es)
  pub accepted : r.accepted ≡ before_refused s es
  pub text : r.text ≡ batch_text s es

-- How a session serves a batch in a state. Where an event of it is refused, tables and session are as they were.
pub record IsBatch (s : State) (es : List ScriptEvent) (before now : Known) (old new : Seen) (result : Result BatchReply StopError) : Type 0 where
  pub reply : IfOk result (λ r. IsBatchReply s es r)
  pub next : OnOk result (Agrees new.kept now (batch_state s es))
  pub commits : OnOk result (Rises (batch_commits s es) old.commits new.commits)
  pub alone : OnOk result (accepts_all s es ≡ false → Unchanged old new)
  pub known : OnOk result (accepts_all s es ≡ false → now ≡ before)

-- how a session serves a batch, whichever state it agrees on with the tables
pub record ServesBatch (es : List ScriptEvent) (before now : Known) (old new : Seen) (result : Result BatchReply StopError) : Type 0 where
  pub served : (s : State) → Agrees old.kept before s → IsBatch s es before now old new result
  pub ends : Ends before now old new result
