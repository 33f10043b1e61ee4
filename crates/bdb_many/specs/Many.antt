-- A stream of sessions: what is told of each of its pieces, and what it comes to.
use Rattle.std.specs.Prelude.{◌≡◌, ℕ, ◌+◌, Bool, if◌then◌else◌, List, [], ◌∷◌, ◌++◌, length, map, codes}
use Rattle.std.specs.Fmt.{decimal}
use Rattle.std.specs.List.{flat_map}
use Rattle.bdb_base.specs.Texts.{line}
use Rattle.bdb_lex.specs.Cut.{pieces_of, has_rest}
use Rattle.bdb_multi.specs.declared.kinds.Event.{Event}
use Rattle.bdb_multi.specs.declared.kinds.Act.{Act}
use Rattle.bdb_multi.specs.declared.kinds.Act.TheVariants.{Begun, Queued, Aborted, ErrBegun, ErrNotBegun, ErrBatch, One, Batch}
use Rattle.bdb_multi.specs.Sessions.{Commands, act_after, acts_of}
use Rattle.bdb_multi.specs.Batches.{RanBatch, ran_from}
use Rattle.bdb_events.specs.declared.read.Read.{Read}
use Rattle.bdb_events.specs.Pieces.{read_of}
use Rattle.bdb_many.specs.Labels.{told, labelled}

-- How batches are run in a state: what is told of the commands, up to and with the first that is refused; whether none is; how many
-- come before the first that is; and the state after, as it was where one is refused.
pub record Batches (S : Type 0) : Type 0 where
  pub text : S → Commands → List ℕ
  pub is_whole : S → Commands → Bool
  pub accepted : S → Commands → ℕ
  pub next : S → Commands → S

-- how a batch ended: committed, and how many commands it had; or aborted, and which was refused
abbrev pub end_text : {S : Type 0} → Batches S → S → Commands → List ℕ
end_text m s q = if m.is_whole s q then codes "committed " ++ decimal (length q) else codes "aborted " ++ decimal (m.accepted s q + 1)

-- what a session is told of an act
abbrev pub act_reply : {S : Type 0} → Batches S → S → ℕ → Act → List ℕ
act_reply m s n Begun = told n (codes "begun")
act_reply m s n Queued = told n (codes "queued")
act_reply m s n Aborted = told n (codes "aborted")
act_reply m s n ErrBegun = told n (codes "error begun")
act_reply m s n ErrNotBegun = told n (codes "error not begun")
act_reply m s n ErrBatch = told n (codes "error batch")
act_reply m s n (One c) = labelled n (m.text s (c ∷ []))
act_reply m s n (Batch q) = labelled n (m.text s q) ++ told n (end_text m s q)

-- the state after an act
abbrev pub act_next : {S : Type 0} → Batches S → S → Act → S
act_next m s Begun = s
act_next m s Queued = s
act_next m s Aborted = s
act_next m s ErrBegun = s
act_next m s ErrNotBegun = s
act_next m s ErrBatch = s
act_next m s (One c) = m.next s (c ∷ [])
act_next m s (Batch q) = m.next s q

-- what is told of what a piece is, behind events
abbrev pub read_reply : {S : Type 0} → Batches S → S → List Event → Read → List ℕ
read_reply m s before Read.Nothing = []
read_reply m s before Read.Long = line (codes "error long")
read_reply m s before Read.NoSession = line (codes "error session")
read_reply m s before (Read.NoLine n) = told n (codes "error line")
read_reply m s before (Read.Event e) = act_reply m s e.session (act_after before e)

-- the state after it
abbrev pub read_next : {S : Type 0} → Batches S → S → List Event → Read → S
read_next m s before Read.Nothing = s
read_next m s before Read.Long = s
read_next m s before Read.NoSession = s
read_next m s before (Read.NoLine n) = s
read_next m s before (Read.Event e) = act_next m s (act_after before e)

-- the event that a piece is, where it is one
abbrev pub event_in : Read → List Event
event_in Read.Nothing = []
event_in Read.Long = []
event_in Read.NoSession = []
event_in (Read.NoLine n) = []
event_in (Read.Event e) = e ∷ []

-- what the pieces of a script are, each what stands before an end of its spans (`pieces_are_of_spans` of `bdb_lex`), in the words of
-- their parts (`pieces_are_read` of `bdb_events`); and the events among them
abbrev pub reads_of : List ℕ → List Read
reads_of script = map read_of (pieces_of script)

abbrev pub events_in : List Read → List Event
events_in reads = flat_map event_in reads

abbrev pub events_of : List ℕ → List Event
events_of script = events_in (reads_of script)

-- what is told of a rest that holds something
abbrev pub rest_reply : Bool → List ℕ
rest_reply holds = if holds then line (codes "error unfinished") else []

-- the replies to pieces behind events, one for each
abbrev pub replies_from : {S : Type 0} → Batches S → S → List Event → List Read → List (List ℕ)
replies_from m s before [] = []
replies_from m s before (r ∷ rs) = read_reply m s before r ∷ replies_from m (read_next m s before r) (before ++ event_in r) rs

-- the state after pieces behind events
abbrev pub after_from : {S : Type 0} → Batches S → S → List Event → List Read → S
after_from m s before [] = s
after_from m s before (r ∷ rs) = after_from m (read_next m s before r) (before ++ event_in r) rs

-- all replies to a script: one for each piece, and one for its rest, which holds something where a text or a byte other than a blank
-- stands behind the last end (`rest_is_of_spans` of `bdb_lex`)
abbrev pub many_replies : {S : Type 0} → Batches S → S → List ℕ → List (List ℕ)
many_replies m s script = replies_from m s [] (reads_of script) ++ rest_reply (has_rest script) ∷ []

-- the state that a script leads to
abbrev pub many_last : {S : Type 0} → Batches S → S → List ℕ → S
many_last m s script = after_from m s [] (reads_of script)

-- the state after batches, run one after the other
abbrev pub after_batches : {S : Type 0} → Batches S → S → List RanBatch → S
after_batches m s [] = s
after_batches m s (b ∷ batches) = after_batches m (m.next s b.commands) batches

-- a script leads where the batches of its events lead, run one after the other, however the lines of sessions stand between each other
abbrev pub LeadsAsBatches : Type 0 → Type 0
LeadsAsBatches S = (m : Batches S) (s : S) (script : List ℕ)
    → many_last m s script ≡ after_batches m s (ran_from 0 (events_of script) (acts_of (events_of script)))
