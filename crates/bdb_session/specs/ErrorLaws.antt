-- What is refused is told by an error, and nothing else is. Each law is the contract of a function of `error_laws`.
use Rattle.std.specs.Prelude.{◌≡◌, Bool, not, List, ℕ}
use Rattle.bdb_base.specs.Bases.{IsValid}
use Rattle.bdb_session.specs.ErrorLines.{has_error_line, tells_error}
use Rattle.bdb_session.specs.Machine.{accepts, next_state, reply_of}
use Rattle.bdb_session.specs.Outcome.{State}
use Rattle.bdb_session.specs.Runs.{accepts_all, replies}
use Rattle.bdb_session.specs.declared.event.ScriptEvent.{ScriptEvent}

-- the base of a state is a valid one
abbrev pub HasValidBase : State → Type 0
HasValidBase s = IsValid s.base.catalog s.base.stmts

-- a reply begins with `error ` exactly where nothing was accepted, and so does a line of it
pub record TellsRefusal (accepted : Bool) (reply : List ℕ) : Type 0 where
  pub begins : tells_error reply ≡ not accepted
  pub lines : has_error_line reply ≡ not accepted

-- over a valid base an event is refused exactly where its reply begins with `error `, and exactly where a line of it does
abbrev pub RefusalsAreErrors : Type 0
RefusalsAreErrors = (s : State) (e : ScriptEvent) → HasValidBase s → TellsRefusal (accepts s e) (reply_of s e)

-- whatever comes, a valid base is followed by a valid one
abbrev pub BasesStayValid : Type 0
BasesStayValid = (s : State) (e : ScriptEvent) → HasValidBase s → HasValidBase (next_state s e)

-- over a valid base one of several events is refused exactly where a line of their replies begins with `error `
abbrev pub RunsTellErrors : Type 0
RunsTellErrors = (s : State) (events : List ScriptEvent) → HasValidBase s → has_error_line (replies s events) ≡ not (accepts_all s events)
