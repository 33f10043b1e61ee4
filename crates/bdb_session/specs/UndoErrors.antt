-- What is refused is told by an error, and nothing else is: with undo and redo, over a timeline of valid bases. Each law is the
-- contract of a function of `error_laws`.
use Rattle.std.specs.Prelude.{◌≡◌, not, List}
use Rattle.std.specs.List.{AllByRecursion}
use Rattle.bdb_base.specs.Bases.{Contents, IsValid}
use Rattle.bdb_undo.specs.Timelines.{Timeline}
use Rattle.bdb_session.specs.ErrorLaws.{TellsRefusal}
use Rattle.bdb_session.specs.ErrorLines.{has_error_line}
use Rattle.bdb_session.specs.UndoRuns.{accepts_all, replies}
use Rattle.bdb_session.specs.Undoing.{accepts, next_state, reply_of}
use Rattle.bdb_session.specs.declared.event.ScriptEvent.{ScriptEvent}

abbrev pub IsValidBase : Contents → Type 0
IsValidBase b = IsValid b.catalog b.stmts

-- each base of a timeline is valid
pub record HasValidBases (t : Timeline) : Type 0 where
  pub before : AllByRecursion IsValidBase t.before
  pub now : IsValidBase t.now
  pub ahead : AllByRecursion IsValidBase t.ahead

-- over valid bases an event is refused exactly where its reply begins with `error `, and exactly where a line of it does
abbrev pub UndoRefusalsAreErrors : Type 0
UndoRefusalsAreErrors = (t : Timeline) (e : ScriptEvent) → HasValidBases t → TellsRefusal (accepts t e) (reply_of t e)

-- whatever comes, valid bases are followed by valid ones
abbrev pub TimelinesStayValid : Type 0
TimelinesStayValid = (t : Timeline) (e : ScriptEvent) → HasValidBases t → HasValidBases (next_state t e)

-- over valid bases one of several events is refused exactly where a line of their replies begins with `error `
abbrev pub UndoRunsTellErrors : Type 0
UndoRunsTellErrors = (t : Timeline) (events : List ScriptEvent) → HasValidBases t → has_error_line (replies t events) ≡ not (accepts_all t events)
