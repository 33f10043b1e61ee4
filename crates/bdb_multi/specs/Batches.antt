-- The batches that are run, each by the lines of its own session.
use Rattle.std.specs.Prelude.{◌≡◌, ℕ, Bool, true, ◌&&◌, suc, nat_eq, nat_le, if◌then◌else◌, Option, Some, None, List, [], ◌∷◌, ◌++◌, map, filter, take}
use Rattle.bdb_multi.specs.declared.kinds.Line.{Line}
use Rattle.bdb_multi.specs.declared.kinds.Line.TheVariants.{Begin, Commit, Abort, Cmd}
use Rattle.bdb_multi.specs.declared.kinds.Event.{Event}
use Rattle.bdb_multi.specs.declared.kinds.Act.{Act}
use Rattle.bdb_multi.specs.declared.kinds.Act.TheVariants.{Begun, Queued, Aborted, ErrBegun, ErrNotBegun, ErrBatch, One, Batch}
use Rattle.bdb_multi.specs.Sessions.{Commands, most_queued, mine, open_batch, act_by, acts_of}

-- what becomes of the lines of one session behind others of it
abbrev pub acts_alone_from : List Line → List Line → List Act
acts_alone_from before [] = []
acts_alone_from before (l ∷ ls) = act_by (open_batch before) l ∷ acts_alone_from (before ++ l ∷ []) ls

-- what becomes of the lines of one session, where it is alone
abbrev pub acts_alone : List Line → List Act
acts_alone ls = acts_alone_from [] ls

-- of acts, each at the place of its event, those of a session
abbrev pub acts_of_session : ℕ → List Event → List Act → List Act
acts_of_session n [] acts = []
acts_of_session n (e ∷ es) [] = []
acts_of_session n (e ∷ es) (a ∷ acts) = if nat_eq e.session n then a ∷ acts_of_session n es acts else acts_of_session n es acts

-- the acts of a session are those of its own lines alone
abbrev pub OwnLinesDecide : Type 0
OwnLinesDecide = (n : ℕ) (events : List Event) → acts_of_session n events (acts_of events) ≡ acts_alone (mine n events)

-- a line of a session, and its place among the events
pub record Placed : Type 0 where
  pub place : ℕ
  pub line : Line

-- the lines of a session, each with its place, where the first event has this one
abbrev pub mine_from : ℕ → ℕ → List Event → List Placed
mine_from n place [] = []
mine_from n place (e ∷ es) = if nat_eq e.session n then record { place = place; line = e.line } ∷ mine_from n (suc place) es else mine_from n (suc place) es

-- a batch: its session, the place of the line that closed it, and its commands
pub record RanBatch : Type 0 where
  pub place : ℕ
  pub session : ℕ
  pub commands : Commands

-- the batches with these commands, of one session at one place
abbrev pub ran_at : ℕ → ℕ → List Commands → List RanBatch
ran_at place n batches = map (λ q. record { place = place; session = n; commands = q }) batches

-- the batches that a line closes: at a commit the first commands that wait, and each command outside a batch by itself
abbrev pub closed_by : Option Commands → Line → List Commands
closed_by None Begin = []
closed_by None Commit = []
closed_by None Abort = []
closed_by None (Cmd c) = (c ∷ []) ∷ []
closed_by (Some q) Begin = []
closed_by (Some q) Commit = take most_queued q ∷ []
closed_by (Some q) Abort = []
closed_by (Some q) (Cmd c) = []

-- the batch that is open behind a line: a begin opens one where none is, and the next commit or abort closes it
abbrev pub open_by : Option Commands → Line → Option Commands
open_by None Begin = Some []
open_by None Commit = None
open_by None Abort = None
open_by None (Cmd c) = None
open_by (Some q) Begin = Some q
open_by (Some q) Commit = None
open_by (Some q) Abort = None
open_by (Some q) (Cmd c) = Some (q ++ c ∷ [])

-- the batches that lines of one session close, behind an open batch
abbrev pub batches_in : ℕ → Option Commands → List Placed → List RanBatch
batches_in n q [] = []
batches_in n q (p ∷ ps) = ran_at p.place n (closed_by q p.line) ++ batches_in n (open_by q p.line) ps

-- the batches that an act runs
abbrev pub run_of : Act → List Commands
run_of Begun = []
run_of Queued = []
run_of Aborted = []
run_of ErrBegun = []
run_of ErrNotBegun = []
run_of ErrBatch = []
run_of (One c) = (c ∷ []) ∷ []
run_of (Batch q) = q ∷ []

-- the batches that acts run, in order, each at the place of its event
abbrev pub ran_from : ℕ → List Event → List Act → List RanBatch
ran_from place [] acts = []
ran_from place (e ∷ es) [] = []
ran_from place (e ∷ es) (a ∷ acts) = ran_at place e.session (run_of a) ++ ran_from (suc place) es acts

-- from a place on, no batch stands at the place of another, nor before it
abbrev pub ascends_from : ℕ → List RanBatch → Bool
ascends_from low [] = true
ascends_from low (r ∷ rs) = nat_le low r.place && ascends_from (suc r.place) rs

-- the batches of events: of each session those that its own lines close, and all by the place of the line that closed them
pub record AreBatches (events : List Event) (batches : List RanBatch) : Type 0 where
  pub own : (n : ℕ) → filter (λ r. nat_eq r.session n) batches ≡ batches_in n None (mine_from n 0 events)
  pub in_order : ascends_from 0 batches ≡ true

-- what the acts run, in order, are the batches of the events
abbrev pub BatchesAreRun : Type 0
BatchesAreRun = (events : List Event) → AreBatches events (ran_from 0 events (acts_of events))

-- events have one list of batches alone
abbrev pub BatchesAreOne : Type 0
BatchesAreOne = (events : List Event) (a b : List RanBatch) → AreBatches events a → AreBatches events b → a ≡ b
