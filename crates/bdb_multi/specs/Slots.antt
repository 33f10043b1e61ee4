-- What is kept of each session's open batch.
use Rattle.std.specs.Prelude.{◌≡◌, ℕ, ◌<◌, cond, nat_lt, Option, Some, None, List, [], ◌∷◌, ◌++◌, length, get_or, take}
use Rattle.bdb_multi.specs.declared.kinds.Line.{Line}
use Rattle.bdb_multi.specs.declared.kinds.Line.TheVariants.{Begin, Commit, Abort, Cmd}
use Rattle.bdb_multi.specs.declared.kinds.Event.{Event}
use Rattle.bdb_multi.specs.declared.kinds.Act.{Act}
use Rattle.bdb_multi.specs.declared.kinds.Act.TheVariants.{Begun, Queued, Aborted, ErrBegun, ErrNotBegun, ErrBatch, One, Batch}
use Rattle.bdb_multi.specs.Sessions.{Commands, sessions, most_queued, mine, open_batch}

-- of an open batch its first commands are kept, as many as may wait
abbrev pub queue_of : Option Commands → Option Commands
queue_of None = None
queue_of (Some q) = Some (take most_queued q)

-- what is kept for a session
abbrev pub slot : List (Option Commands) → ℕ → Option Commands
slot slots n = get_or slots n None

-- the slots stand for events: each has what is kept of the batch that these leave open
abbrev pub AreSlotsOf : List (Option Commands) → List Event → Type 0
AreSlotsOf slots events = (n : ℕ) → n < sessions → slot slots n ≡ queue_of (open_batch (mine n events))

-- what becomes of a line, by what is kept
abbrev pub slot_act : Option Commands → Line → Act
slot_act None Begin = Begun
slot_act None Commit = ErrNotBegun
slot_act None Abort = ErrNotBegun
slot_act None (Cmd c) = One c
slot_act (Some q) Begin = ErrBegun
slot_act (Some q) Commit = Batch q
slot_act (Some q) Abort = Aborted
slot_act (Some q) (Cmd c) = cond (nat_lt (length q) most_queued) Queued ErrBatch

-- what is kept with a command more
abbrev pub with_command : Commands → List ℕ → Commands
with_command q c = cond (nat_lt (length q) most_queued) (q ++ c ∷ []) q

-- what is kept after a line
abbrev pub slot_after : Option Commands → Line → Option Commands
slot_after None Begin = Some []
slot_after None Commit = None
slot_after None Abort = None
slot_after None (Cmd c) = None
slot_after (Some q) Begin = Some q
slot_after (Some q) Commit = None
slot_after (Some q) Abort = None
slot_after (Some q) (Cmd c) = Some (with_command q c)
