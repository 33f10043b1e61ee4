-- How a session answered one event.
use Rattle.std.proofs.Common.{◌≡◌, ℕ, ◌+◌, ◌≤◌, Bool, List, [], ◌∷◌, take, length, sym, subst, arith, Option, Result, Ok, Err, IfOk, OnOk, OnErr, ◌∙◌}
use Rattle.std.specs.Io.KnownBytes.{Appends}
use Rattle.bdb_base.specs.Causes.{Rises}
use Rattle.bdb_keep.specs.Seen.{Seen, Unchanged}
use Rattle.bdb_keep.specs.Tables.{Tables}
use Rattle.bdb_lex.specs.declared.token.Piece.{Piece}
use Rattle.bdb_lex.specs.declared.token.Piece.TheVariants as piece
use Rattle.bdb_session.specs.Known.{Known, Remembers, RemembersSome}
use Rattle.bdb_session.specs.Runs.{event_of}
use Rattle.bdb_session.specs.Undoing.{accepts, counts, next_state, reply_of}
use Rattle.bdb_session.specs.declared.event.ScriptEvent.{ScriptEvent}
use Rattle.bdb_session.specs.declared.event.ScriptEvent.TheVariants as event
use Rattle.bdb_session.specs.declared.reply.Reply.{Reply}
use Rattle.bdb_session.specs.declared.error.StopError.{StopError}
use Rattle.bdb_stream.specs.Carried.{Carried, by_session}
use Rattle.bdb_stream.specs.Handled.{TellsAnswer}
use Rattle.bdb_stream.specs.Handling.{IsAt, IsAtSome}
use Rattle.bdb_stream.specs.declared.error.RunError.{RunError}
use Rattle.bdb_stream.specs.Told.{TellsReply}
use Rattle.bdb_stream.specs.declared.error.RunError.TheVariants.{Source, Sink, Keeper, Memory, Large}
use Rattle.bdb_undo.specs.Timelines.{Timeline}

-- nothing was carried out
carries_none : (s : Timeline) (before now : Known) (first last : Seen) → now ≡ before → Unchanged first last → Remembers first.kept before s → Carried s [] now first last
carries_none s before now first last is same a = record {
  agrees = subst (λ (t : Tables). Remembers t now s) (sym same.kept) (subst (λ (k : Known). Remembers first.kept k s) (sym is) a);
  commits = λ _. let e = same.commits in omega arith;
}

-- one event was carried out
carries_one : (s : Timeline) (e : ScriptEvent) (now : Known) (first last : Seen)
    → Remembers last.kept now (next_state s e) → Rises (counts s e) first.commits last.commits → Carried s (e ∷ []) now first last
carries_one s e now first last agrees commits = record {
  agrees = agrees;
  commits = subst (λ (n : ℕ). Rises n first.commits last.commits) (and_none (counts s e)) commits;
}
  where
    and_none : (n : ℕ) → n ≡ n + 0
    and_none n = omega arith

-- and the reply was written, or a part of it
answers_one : (s : Timeline) (e : ScriptEvent) (accepted : Bool) (text : List ℕ) (now : Known) (first last : Seen) (old new : Option (List ℕ)) → Carried s (e ∷ []) now first last
    → accepted ≡ accepts s e → text ≡ reply_of s e → Appends old new text → TellsAnswer by_session s e now first last old new (Ok accepted)
answers_one s e accepted text now first last old new carried fine is written = record {
  carried = carried;
  stands = tt;
  written = subst (λ (x : List ℕ). Appends old new x) is written;
  told_fine = fine;
}

answers_part : (s : Timeline) (e : ScriptEvent) (text : List ℕ) (now : Known) (first last : Seen) (old new : Option (List ℕ)) → Carried s (e ∷ []) now first last
    → text ≡ reply_of s e → (k : ℕ) × (k ≤ length text) × Appends old new (take k text) → TellsAnswer by_session s e now first last old new (Err Sink)
answers_part s e text now first last old new carried is written = (carried, (written.0, subst (λ (x : List ℕ). Appends old new (take written.0 x)) is written.2))

-- what comes of an event, once what the session answered is written
pub answers_by : (s : Timeline) (e : ScriptEvent) (reply : Result Reply StopError) (before now : Known) (first last : Seen) (old new : Option (List ℕ)) (result : Result Bool RunError)
    → Remembers first.kept before s → OnOk reply (Remembers last.kept now (next_state s e)) → OnOk reply (Rises (counts s e) first.commits last.commits)
    → IfOk reply (λ r. r.accepted ≡ accepts s e) → IfOk reply (λ r. r.text ≡ reply_of s e) → OnErr reply (now ≡ before) → OnErr reply (Unchanged first last)
    → TellsReply reply old new result → TellsAnswer by_session s e now first last old new result
answers_by s e (Ok r) before now first last old new (Ok fine) a next commits accepted text same err told =
    answers_one s e fine r.text now first last old new (carries_one s e now first last next commits) (told.0 ∙ accepted) text told.1
answers_by s e (Ok r) before now first last old new (Err Sink) a next commits accepted text same err told =
    answers_part s e r.text now first last old new (carries_one s e now first last next commits) text told
answers_by s e (Ok r) before now first last old new (Err Source) a next commits accepted text same err told =
    absurd told
answers_by s e (Ok r) before now first last old new (Err Keeper) a next commits accepted text same err told =
    absurd told
answers_by s e (Ok r) before now first last old new (Err Memory) a next commits accepted text same err told =
    absurd told
answers_by s e (Ok r) before now first last old new (Err Large) a next commits accepted text same err told =
    absurd told
answers_by s e (Err stop) before now first last old new (Ok fine) a next commits accepted text same err told =
    absurd told
answers_by s e (Err stop) before now first last old new (Err Sink) a next commits accepted text same err told =
    absurd told
answers_by s e (Err stop) before now first last old new (Err Source) a next commits accepted text same err told =
    (carries_none s before now first last same err a, told)
answers_by s e (Err stop) before now first last old new (Err Keeper) a next commits accepted text same err told =
    (carries_none s before now first last same err a, told)
answers_by s e (Err stop) before now first last old new (Err Memory) a next commits accepted text same err told =
    (carries_none s before now first last same err a, told)
answers_by s e (Err stop) before now first last old new (Err Large) a next commits accepted text same err told =
    (carries_none s before now first last same err a, told)

-- a session that remembers a timeline with tables is at it, and one that remembers some is at some
pub at_timeline : (t : Tables) (k : Known) (s : Timeline) → Remembers t k s → IsAt by_session t k s
at_timeline t k s a = record { agrees = a; stands = tt }

pub at_some : (t : Tables) (k : Known) → RemembersSome t k → IsAtSome by_session t k
at_some t k some = record { point = some.timeline; at = at_timeline t k some.timeline some.remembers; remembers = some }

-- a piece is answered as the event for which it asks
module _ (s : Timeline) (p : Piece) (next : Known) (first last : Seen) (old new : Option (List ℕ)) (result : Result Bool RunError) where
  pub command_answers : (bytes text : List ℕ) → p ≡ piece.Cmd text → bytes ≡ text → TellsAnswer by_session s (event.Piece bytes) next first last old new result
      → TellsAnswer by_session s (event_of p) next first last old new result
  command_answers bytes text is same answer =
      subst (λ (x : Piece). TellsAnswer by_session s (event_of x) next first last old new result) (sym is)
      (subst (λ (b : List ℕ). TellsAnswer by_session s (event.Piece b) next first last old new result) same answer)

  pub long_answers : p ≡ piece.Long → TellsAnswer by_session s event.Long next first last old new result → TellsAnswer by_session s (event_of p) next first last old new result
  long_answers is answer = subst (λ (x : Piece). TellsAnswer by_session s (event_of x) next first last old new result) (sym is) answer
