-- What holds of stored bases and of batches, in the subject's own words. Each law is the contract of a function of `laws`.
use Rattle.std.specs.Prelude.{◌≡◌, ℕ, ◌≤◌, true, false, List, [], ◌∷◌, ◌++◌, length, MatchBool}
use Rattle.bdb_base.specs.Bases.{Contents}
use Rattle.bdb_base.specs.Queries.{answers_of}
use Rattle.bdb_base.specs.Safety.{query_fits, IsSafe}
use Rattle.bdb_base.specs.declared.kinds.Query.{Query}
use Rattle.bdb_catalog.specs.Bases.{StoresValid}
use Rattle.bdb_exec.specs.Seen.{sight_of}
use Rattle.bdb_keep.specs.Tables.{Tables}
use Rattle.bdb_plan.specs.PlanLaws.{AreChoices}
use Rattle.bdb_plan.specs.PlanOf.{plan_of}
use Rattle.bdb_plan.specs.Running.{meaning_of, reads_from, start_of}
use Rattle.bdb_session.specs.Batches.{before_refused, batch_text, batch_state, batch_commits}
use Rattle.bdb_session.specs.Machine.{accepts}
use Rattle.bdb_session.specs.Outcome.{State}
use Rattle.bdb_session.specs.QueryReads.{HasFewRows}
use Rattle.bdb_session.specs.Runs.{accepts_all, after, replies}
use Rattle.bdb_session.specs.declared.event.ScriptEvent.{ScriptEvent}
use Rattle.bdb_trans.specs.Bounds.{product_of}

-- Whichever tables store a valid base, the plan of each safe query that fits means over them the query's answers over the base.
abbrev pub StoredPlansMeanAnswers : Type 0
StoredPlansMeanAnswers = (t : Tables) (b : Contents) (q : Query) → StoresValid t b → query_fits b.catalog q ≡ true → IsSafe b.catalog.rels q
    → meaning_of (sight_of t) (plan_of b.catalog.rels q) ≡ answers_of b q

-- Whichever tables store a valid base, the plan of each safe query that fits means over them the rows of all choices with which each of
-- its steps holds, in order, each once.
abbrev pub StoredPlansMeanChoices : Type 0
StoredPlansMeanChoices = (t : Tables) (b : Contents) (q : Query) → StoresValid t b → query_fits b.catalog q ≡ true → IsSafe b.catalog.rels q
    → AreChoices (sight_of t) (plan_of b.catalog.rels q) (meaning_of (sight_of t) (plan_of b.catalog.rels q))

-- Whichever tables store a valid base, the plan of each query that fits reads over them at most the product of one factor for each
-- item: twice the users and 8 for a `Users` item; for another one the length of its path, three times the most signed tuples that
-- a world which the path names has in the base, and 8.
abbrev pub StoredPlansReadFew : Type 0
StoredPlansReadFew = (t : Tables) (b : Contents) (q : Query) (rows : ℕ → ℕ) → StoresValid t b → query_fits b.catalog q ≡ true → HasFewRows b q rows
    → reads_from (sight_of t) (plan_of b.catalog.rels q).steps (start_of (length q.items)) ≤ product_of (length b.catalog.users) rows 0 q.items

-- A batch is whole: it tells what its events tell one after the other, as single ones, leads where they lead, and is committed once.
pub record IsWhole (s : State) (es : List ScriptEvent) : Type 0 where
  pub text : batch_text s es ≡ replies s es
  pub accepted : before_refused s es ≡ length es
  pub next : batch_state s es ≡ after s es
  pub commits : batch_commits s es ≡ 1

-- A batch breaks off: after events that are accepted one after the other, as single ones, comes one that is refused. It tells what these
-- tell; nothing is committed, and all is as it was.
pub record BreaksOff (s : State) (es : List ScriptEvent) : Type 0 where
  pub front : List ScriptEvent
  pub refused : ScriptEvent
  pub rest : List ScriptEvent
  pub are : es ≡ front ++ (refused ∷ rest)
  pub are_accepted : accepts_all s front ≡ true
  pub is_refused : accepts (after s front) refused ≡ false
  pub text : batch_text s es ≡ replies s (front ++ refused ∷ [])
  pub accepted : before_refused s es ≡ length front
  pub next : batch_state s es ≡ s
  pub commits : batch_commits s es ≡ 0

-- A batch is whole exactly where none of its events is refused, one after the other, as single ones. Else it breaks off at the first that
-- is refused.
abbrev pub BatchesAreWholeOrBreakOff : Type 0
BatchesAreWholeOrBreakOff = (s : State) (es : List ScriptEvent) → MatchBool (accepts_all s es) (IsWhole s es) (BreaksOff s es)
