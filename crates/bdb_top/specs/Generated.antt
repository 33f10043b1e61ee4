-- The summary of the run over a generated script.
use Rattle.std.specs.Prelude.{◌≡◌, ◌⊎◌, ℕ, ◌+◌, Bool, not, ◌&&◌, nat_lt, List, [], ◌∷◌, ◌++◌, length, take, Option, codes, if◌then◌else◌}
use Rattle.std.specs.Io.KnownBytes.{Appends}
use Rattle.bdb_base.specs.Bases.{Contents, empty_contents}
use Rattle.bdb_canon.specs.Sizes.{counts_of}
use Rattle.bdb_gen.specs.Scripts.{script}
use Rattle.bdb_session.specs.declared.event.ScriptEvent.{ScriptEvent}
use Rattle.bdb_session.specs.Undoing.{accepts, answers_to, next_state, reply_of}
use Rattle.bdb_undo.specs.Timelines.{Timeline, started}
use Rattle.bdb_session.specs.Runs.{events_of}
use Rattle.bdb_session.specs.UndoRuns.{after}
use Rattle.bdb_top.specs.Lines.{line_with}
use Rattle.bdb_top.specs.declared.tally.ReplyCounts.{ReplyCounts}

-- one, where this holds
abbrev pub one_if : Bool → ℕ
one_if test = if test then 1 else 0

-- nothing was replied yet
abbrev pub no_replies : ReplyCounts
no_replies = record { accepted = 0; refused = 0; answers = 0 }

-- the tally with one more reply: its text, whether it accepts, and how many answers it has; an empty one counts as none
abbrev pub tally_reply : ReplyCounts → List ℕ → Bool → ℕ → ReplyCounts
tally_reply t text accepted answers = record {
  accepted = t.accepted + one_if (accepted && nat_lt 0 (length text));
  refused = t.refused + one_if (not accepted);
  answers = t.answers + answers;
}

-- the tally with the reply to one more event
abbrev pub tally_with : ReplyCounts → Timeline → ScriptEvent → ReplyCounts
tally_with t s e = tally_reply t (reply_of s e) (accepts s e) (answers_to s e)

-- the tally with the replies to more events
abbrev pub tally_from : ReplyCounts → Timeline → List ScriptEvent → ReplyCounts
tally_from t s [] = t
tally_from t s (e ∷ es) = tally_from (tally_with t s e) (next_state s e) es

-- the lines that tell of a tally and of the base at the end
abbrev pub summary_text : ReplyCounts → ℕ → ℕ → List ℕ
summary_text t worlds rows =
    line_with (codes "accepted ") t.accepted ++ line_with (codes "refused ") t.refused ++ line_with (codes "worlds ") worlds
    ++ line_with (codes "rows ") rows ++ line_with (codes "answers ") t.answers

-- the base after events from the empty one
abbrev pub base_after : List ScriptEvent → Contents
base_after events = (after (started empty_contents) events).now

-- the summary of events from the empty base
abbrev pub summary_of : List ScriptEvent → List ℕ
summary_of events = summary_text (tally_from no_replies (started empty_contents) events)
    (counts_of (base_after events)).worlds (counts_of (base_after events)).rows

-- the summary of the script of a seed and a size
abbrev pub summary : ℕ → ℕ → List ℕ
summary seed size = summary_of (events_of (script seed size))

-- How a run that generates a script ends: with 0 the summary is written, with 4 a part of it, with 6 nothing.
pub record IsSummarized (seed size : ℕ) (old new : Option (List ℕ)) (status : ℕ) : Type 0 where
  pub statuses : (status ≡ 0) ⊎ ((status ≡ 4) ⊎ (status ≡ 6))
  pub whole : status ≡ 0 → Appends old new (summary seed size)
  pub part : status ≡ 4 → (n : ℕ) × Appends old new (take n (summary seed size))
  pub none : status ≡ 6 → Appends old new []
