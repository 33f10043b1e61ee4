-- Counting the replies to events, one event after the other.
use Rattle.std.proofs.Common.{◌≡◌, ◌∙◌, ℕ, ◌≤◌, false, List, [], ◌∷◌, ◌++◌, map, refl, ap, sym, subst, arith}
use Rattle.bdb_keep.specs.Seen.{Seen, IsStill}
use Rattle.bdb_keep.specs.Tables.{Tables}
use Rattle.bdb_lex.specs.Cut.{CutState, CutterState, EndsFirst, holds_something, pieces_from, ready, rest_of, start, state_after}
use Rattle.bdb_lex.specs.declared.token.Piece.{Piece}
use Rattle.bdb_lex.specs.declared.token.Rest.{Rest}
use Rattle.bdb_session.specs.declared.event.ScriptEvent.{ScriptEvent}
use Rattle.bdb_session.specs.declared.reply.Reply.{Reply}
use Rattle.bdb_session.specs.Known.{Known, Remembers, RemembersSome}
use Rattle.bdb_session.specs.Undoing.{accepts, answers_to, next_state, reply_of}
use Rattle.bdb_undo.specs.Timelines.{Timeline}
use Rattle.bdb_session.specs.Runs.{event_of, events_of, rest_events}
use Rattle.bdb_session.specs.UndoRuns.{after}
use Rattle.bdb_top.specs.declared.tally.ReplyCounts.{ReplyCounts}
use Rattle.bdb_top.specs.Generated.{no_replies, tally_from, tally_reply, tally_with}

-- a reply that is the one to an event makes the tally with that event
pub tallied : (t next : ReplyCounts) (s : Timeline) (e : ScriptEvent) (r : Reply) → next ≡ tally_reply t r.text r.accepted r.answers
    → r.text ≡ reply_of s e → r.accepted ≡ accepts s e → r.answers ≡ answers_to s e → next ≡ tally_with t s e
tallied t next s e r is text accepted answers =
    is ∙ ap (λ x. tally_reply t x r.accepted r.answers) text ∙ ap (λ x. tally_reply t (reply_of s e) x r.answers) accepted ∙ ap (tally_reply t (reply_of s e) (accepts s e)) answers

-- Some of the events from a state were answered, and others are left: the session agrees with the tables on a state from
-- which these lead on, and what was counted goes on to the tally of all.
pub record Tallies (s : Timeline) (events left : List ScriptEvent) (t : Tables) (k : Known) (tally : ReplyCounts) : Type 0 where
  now : Timeline
  agrees : Remembers t k now
  state : after s events ≡ after now left
  goes_on : tally_from no_replies s events ≡ tally_from tally now left

-- none was answered yet
pub tallies_none : (s : Timeline) (events : List ScriptEvent) (t : Tables) (k : Known) → Remembers t k s → Tallies s events events t k no_replies
tallies_none s events t k a = record { now = s; agrees = a; state = refl; goes_on = refl }

-- one more was answered
tallies_one : (s : Timeline) (events left more : List ScriptEvent) (e : ScriptEvent) (t u : Tables) (k next : Known) (tally sum : ReplyCounts) → left ≡ e ∷ more → Tallies s events left t k tally
    → ((x : Timeline) → Remembers t k x → sum ≡ tally_with tally x e) → ((x : Timeline) → Remembers t k x → Remembers u next (next_state x e)) → Tallies s events more u next sum
tallies_one s events left more e t u k next tally sum is h counted agrees = record {
  now = next_state h.now e;
  agrees = agrees h.now h.agrees;
  state = h.state ∙ ap (after h.now) is;
  goes_on = h.goes_on ∙ ap (tally_from tally h.now) is ∙ ap (λ (x : ReplyCounts). tally_from x (next_state h.now e) more) (sym (counted h.now h.agrees));
}

-- the events that are left where these bytes are left
abbrev pub events_left : CutState → List ℕ → List ScriptEvent
events_left s bytes = map event_of (pieces_from s bytes) ++ rest_events (rest_of (holds_something (state_after s bytes)))

-- the next of them is that of the piece that ends first
next_left : (s : CutState) (rest others : List ℕ) (piece : Piece) (cutter : CutterState) → EndsFirst s rest piece others → cutter ≡ ready start
    → events_left s rest ≡ event_of piece ∷ events_left cutter.state others
next_left s rest others piece cutter first is =
    ap (λ (l : List Piece). map event_of l ++ rest_events (rest_of (holds_something (state_after s rest)))) first.pieces
    ∙ ap (λ (x : CutState). (event_of piece ∷ map event_of (pieces_from start others)) ++ rest_events (rest_of (holds_something x))) first.state
    ∙ ap (λ (c : CutterState). event_of piece ∷ events_left c.state others) (sym is)

-- The first pieces of a script were answered, and a cutter has the rest at hand: their replies are counted, from whichever state the session agreed
-- on with the tables, and it agrees with them on the state after these.
pub record HasTallied (script : List ℕ) (before k : Known) (first now : Seen) (tally : ReplyCounts) (cutter : CutterState) (rest : List ℕ) : Type 0 where
  pub come : (s : Timeline) → Remembers first.kept before s → Tallies s (events_of script) (events_left cutter.state rest) now.kept k tally
  pub ready : cutter.is_spent ≡ false
  pub still : IsStill now
  pub agrees : RemembersSome now.kept k
  pub faults : first.faults ≤ now.faults

-- one piece more was answered
pub tallies_piece : {script : List ℕ} {before k next : Known} {first mid last : Seen} {tally sum : ReplyCounts} {at cutter : CutterState} {rest others : List ℕ} {piece : Piece}
    → HasTallied script before k first mid tally at rest → EndsFirst at.state rest piece others → cutter ≡ ready start
    → ((x : Timeline) → Remembers mid.kept k x → sum ≡ tally_with tally x (event_of piece))
    → ((x : Timeline) → Remembers mid.kept k x → Remembers last.kept next (next_state x (event_of piece))) → IsStill last → RemembersSome last.kept next → mid.faults ≤ last.faults
    → HasTallied script before next first last sum cutter others
tallies_piece {script} {k = k} {next} {mid = mid} {last} {tally} {sum} {at} {cutter} {rest} {others} {piece} h ends is counted agrees still some later = record {
  come = λ s a. tallies_one s (events_of script) (events_left at.state rest) (events_left cutter.state others) (event_of piece) mid.kept last.kept k next tally sum
      (next_left at.state rest others piece cutter ends is) (h.come s a) counted agrees;
  ready = ap (λ (c : CutterState). c.is_spent) is;
  still = still;
  agrees = some;
  faults = omega (arith, h.faults, later);
}

-- where no piece ends, it is what the rest asks for
pub rest_left : (s : CutState) (bytes : List ℕ) (cutter : CutterState) (rest : Rest) → pieces_from s bytes ≡ [] → cutter ≡ ready (state_after s bytes)
    → rest ≡ rest_of (holds_something cutter.state) → events_left s bytes ≡ rest_events rest
rest_left s bytes cutter rest none is told =
    ap (λ (l : List Piece). map event_of l ++ rest_events (rest_of (holds_something (state_after s bytes)))) none
    ∙ sym (ap rest_events (told ∙ ap (λ (c : CutterState). rest_of (holds_something c.state)) is))

-- with the rest all are answered
pub tally_ends : (s : Timeline) (events left : List ScriptEvent) (t : Tables) (k : Known) (tally whole : ReplyCounts) (rest : Rest) → left ≡ rest_events rest → Tallies s events left t k tally
    → ((x : Timeline) → Remembers t k x → whole ≡ tally_from tally x (rest_events rest)) → whole ≡ tally_from no_replies s events
tally_ends s events left t k tally whole rest is h counted = counted h.now h.agrees ∙ sym (h.goes_on ∙ ap (tally_from tally h.now) is)

pub agrees_at_end : (s : Timeline) (events left : List ScriptEvent) (t u : Tables) (k next : Known) (tally : ReplyCounts) (rest : Rest) → left ≡ rest_events rest → Tallies s events left t k tally
    → ((x : Timeline) → Remembers t k x → Remembers u next (after x (rest_events rest))) → Remembers u next (after s events)
agrees_at_end s events left t u k next tally rest is h agrees = subst (Remembers u next) (sym (h.state ∙ ap (after h.now) is)) (agrees h.now h.agrees)
