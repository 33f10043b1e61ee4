-- How a run of the top call over a stream of sessions ends.
use Rattle.std.specs.Prelude.{ℕ, List, Option}
use Rattle.bdb_crowd.specs.Asked.{start_at}
use Rattle.bdb_crowd.specs.Carried.{by_crowd}
use Rattle.bdb_keep.specs.Seen.{Seen}
use Rattle.bdb_session.specs.Outcome.{State}
use Rattle.bdb_top.specs.Ran.{RanBy}

-- A run over a stream of sessions from a state has ended with a status: 0 tells that no reply tells an error, and 1 that one
-- does. There was one commit for each batch that was run whole.
abbrev pub RanMany : State → List ℕ → Option (List ℕ) → Seen → Seen → Option (List ℕ) → Option (List ℕ) → ℕ → Type 0
RanMany s text left first now old new status = RanBy by_crowd (λ p. p.state.base) (start_at s) text left first now old new status
