-- Sessions: what becomes of a line, by the lines of its own session before it.
use Rattle.std.specs.Prelude.{ℕ, ◌<◌, Bool, true, false, cond, nat_eq, nat_lt, Option, Some, None, List, [], ◌∷◌, ◌++◌, length, map, filter, take}
use Rattle.std.specs.List.{list_any}
use Rattle.std.specs.Option.{option_map}
use Rattle.bdb_multi.specs.declared.kinds.Line.{Line}
use Rattle.bdb_multi.specs.declared.kinds.Line.TheVariants.{Begin, Commit, Abort, Cmd}
use Rattle.bdb_multi.specs.declared.kinds.Event.{Event}
use Rattle.bdb_multi.specs.declared.kinds.Act.{Act}
use Rattle.bdb_multi.specs.declared.kinds.Act.TheVariants.{Begun, Queued, Aborted, ErrBegun, ErrNotBegun, ErrBatch, One, Batch}

-- how many sessions there are, numbered from 0
abbrev pub sessions : ℕ
sessions = 16

-- how many commands wait in a batch, at most
abbrev pub most_queued : ℕ
most_queued = 64

-- commands, in order
abbrev pub Commands : Type 0
Commands = List (List ℕ)

-- the lines of a session
abbrev pub mine : ℕ → List Event → List Line
mine n events = map (λ e. e.line) (filter (λ e. nat_eq e.session n) events)

-- commit and abort close a batch
abbrev pub closes : Line → Bool
closes Begin = false
closes Commit = true
closes Abort = true
closes (Cmd c) = false

-- the lines behind the last one that closes a batch; all of them where none does
abbrev pub since_close : List Line → List Line
since_close [] = []
since_close (l ∷ ls) = cond (list_any closes (l ∷ ls)) (since_close ls) (l ∷ ls)

-- the lines behind the first begin
abbrev pub behind_begin : List Line → Option (List Line)
behind_begin [] = None
behind_begin (Begin ∷ ls) = Some ls
behind_begin (l ∷ ls) = behind_begin ls

-- the commands among lines
abbrev pub commands : List Line → Commands
commands [] = []
commands (Cmd c ∷ ls) = c ∷ commands ls
commands (l ∷ ls) = commands ls

-- the batch that is open after lines of one session: the commands behind the first begin since the last batch was closed
unfoldable pub open_batch : List Line → Option Commands
open_batch ls = option_map commands (behind_begin (since_close ls))

-- what becomes of a line of a session, by its open batch
abbrev pub act_by : Option Commands → Line → Act
act_by None Begin = Begun
act_by None Commit = ErrNotBegun
act_by None Abort = ErrNotBegun
act_by None (Cmd c) = One c
act_by (Some q) Begin = ErrBegun
act_by (Some q) Commit = Batch (take most_queued q)
act_by (Some q) Abort = Aborted
act_by (Some q) (Cmd c) = cond (nat_lt (length q) most_queued) Queued ErrBatch

-- what becomes of an event behind others: the lines of its own session decide
abbrev pub act_after : List Event → Event → Act
act_after before e = act_by (open_batch (mine e.session before)) e.line

-- what becomes of events behind others
abbrev pub acts_from : List Event → List Event → List Act
acts_from before [] = []
acts_from before (e ∷ es) = act_after before e ∷ acts_from (before ++ e ∷ []) es

-- what becomes of events, one act for each
abbrev pub acts_of : List Event → List Act
acts_of events = acts_from [] events

-- each event is of a session that there is
abbrev pub AreSessions : List Event → Type 0
AreSessions [] = Unit {0}
AreSessions (e ∷ es) = (e.session < sessions) × AreSessions es
