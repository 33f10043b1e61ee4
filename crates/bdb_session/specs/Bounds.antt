-- How often a command reads and writes at most, where that is told of it.
use Rattle.std.specs.Prelude.{◌≡◌, ℕ, ◌+◌, Bool, true, false, List, length, map, None, is_none, Result, IfOk, OnOk}
use Rattle.bdb_base.specs.Bases.{Contents, stands}
use Rattle.bdb_base.specs.Changes.{changed_statement, taken_by}
use Rattle.bdb_base.specs.declared.kinds.Catalog.{Catalog}
use Rattle.bdb_base.specs.declared.kinds.SetCol.{SetCol}
use Rattle.bdb_base.specs.declared.kinds.Stmt.{Stmt}
use Rattle.bdb_bind.specs.declared.bound.Bound.{Bound}
use Rattle.bdb_bind.specs.declared.bound.Bound.TheVariants.{CreateUser, CreateRelation, DropUser, Insert, Delete, Update, Select, Explain, ShowWorld, Why, ShowTables, Undo, Redo}
use Rattle.bdb_bind.specs.Binding.{bound_of}
use Rattle.bdb_bind.specs.Refusal.{refusal_of}
use Rattle.bdb_keep.specs.Seen.{Seen}
use Rattle.bdb_leaving.specs.Leaving.{WritesLeaving}
use Rattle.bdb_syntax.specs.declared.command.Command.{Command}
use Rattle.bdb_update.specs.Bounds.{WritesWithinMore}
use Rattle.bdb_update.specs.Steps.{WritesThrough, steps_of, steps_without}
use Rattle.bdb_session.specs.declared.event.ScriptEvent.{ScriptEvent}
use Rattle.bdb_session.specs.declared.event.ScriptEvent.TheVariants as event
use Rattle.bdb_session.specs.declared.reading.Reading.{Reading}
use Rattle.bdb_session.specs.declared.reading.Reading.TheVariants as reading
use Rattle.bdb_session.specs.declared.reply.Reply.{Reply}
use Rattle.bdb_session.specs.declared.error.StopError.{StopError}
use Rattle.bdb_session.specs.Known.{Known, Agrees}
use Rattle.bdb_session.specs.Outcome.{State}
use Rattle.bdb_session.specs.QueryReads.{ReadsAsBounded}
use Rattle.bdb_session.specs.Reading.{reading_of}
use Rattle.bdb_session.specs.Telling.{ReadsWithin, WritesNothing, world_reads, why_reads}

-- The world of a path is read by its users and its rows, whatever else the tables have; why a path believes something, by its users
-- and the rows of the key at the states among its ends; a query by the product of one factor for each item; and a plan is told
-- without a read.
abbrev pub ReadsAsTold : Bound → Known → Seen → Seen → Result Reply StopError → Type 0
ReadsAsTold (ShowWorld path) k old new result = ReadsWithin (λ s. world_reads s.base path) k old new result
ReadsAsTold (Select q) k old new result = ReadsAsBounded q k old new result
ReadsAsTold (Explain q) k old new result = ReadsWithin (λ s. 0) k old new result
ReadsAsTold (Why x) k old new result = ReadsWithin (λ s. why_reads s.base x) k old new result
ReadsAsTold _ k old new result = Unit {0}

-- what is refused wrote nothing
abbrev pub RefusedUnwritten : Seen → Seen → Result Reply StopError → Type 0
RefusedUnwritten old new result = IfOk result (λ r. r.accepted ≡ false → new.writes ≡ old.writes)

-- what stands already was added without a write
abbrev pub StandsUnwritten : Stmt → Known → Seen → Seen → Result Reply StopError → Type 0
StandsUnwritten x k old new result = (s : State) → Agrees old.kept k s → stands s.base.stmts x ≡ true → OnOk result (new.writes ≡ old.writes)

-- A statement is added. That takes no more writes, for each place at which the rows differ, than its path has users, and two; and eight
-- more in all. Where it is refused, or stands already, nothing is written.
pub record InsertsWithin (x : Stmt) (k : Known) (old new : Seen) (result : Result Reply StopError) : Type 0 where
  pub within : OnOk result (WritesWithinMore (length x.path + 2) 8 old new)
  pub refused : RefusedUnwritten old new result
  pub already : StandsUnwritten x k old new result

-- Statements of a path are taken away. One alone takes no more writes, for each place at which the rows differ, than its path has
-- users, and two; and eight more in all. Several take as many each, one after the other, and none takes no write. It is never refused.
pub record DeletesThrough (b : Contents) (path : List ℕ) (gone : List Stmt) (old new : Seen) (result : Result Reply StopError) : Type 0 where
  pub one : length gone ≡ 1 → OnOk result (WritesWithinMore (length path + 2) 8 old new)
  pub steps : OnOk result (WritesThrough old (steps_without b gone) new)
  pub accepted : IfOk result (λ r. r.accepted ≡ true)

-- Statements are changed. Where that is accepted, each that goes and then each that comes takes as many writes as one alone; where it
-- is refused nothing is written, and the rows stay.
pub record UpdatesThrough (b : Contents) (gone : List Stmt) (sets : List SetCol) (old new : Seen) (result : Result Reply StopError) : Type 0 where
  pub steps : IfOk result (λ r. r.accepted ≡ true → WritesThrough old (steps_of b gone (map (changed_statement sets) gone)) new)
  pub refused : IfOk result (λ r. r.accepted ≡ false → WritesNothing old new result)

-- A user leaves. The statements that name him go one after the other, each with as many writes as one alone; two writes are made for
-- each world that is left, and one more. It is never refused.
pub record LeavesAsTold (b : Contents) (uid : ℕ) (old new : Seen) (result : Result Reply StopError) : Type 0 where
  pub steps : OnOk result (WritesLeaving b uid old new)
  pub accepted : IfOk result (λ r. r.accepted ≡ true)

-- A statement is added within its bound. Statements are taken away or changed step by step, whichever base the tables store. What is
-- shown, answered, explained or asked for its reasons writes nothing, nor does a user, a relation, an undo or a redo that is refused.
abbrev pub WritesAsTold : Bound → Known → Seen → Seen → Result Reply StopError → Type 0
WritesAsTold (CreateUser name) k old new result = RefusedUnwritten old new result
WritesAsTold (CreateRelation def) k old new result = RefusedUnwritten old new result
WritesAsTold (DropUser uid) k old new result = (s : State) → Agrees old.kept k s → LeavesAsTold s.base uid old new result
WritesAsTold (Insert x) k old new result = InsertsWithin x k old new result
WritesAsTold (Delete path sign rel conds) k old new result =
    (s : State) → Agrees old.kept k s → DeletesThrough s.base path (taken_by path sign rel conds s.base.stmts) old new result
WritesAsTold (Update path sign rel sets conds) k old new result =
    (s : State) → Agrees old.kept k s → UpdatesThrough s.base (taken_by path sign rel conds s.base.stmts) sets old new result
WritesAsTold (Select q) k old new result = WritesNothing old new result
WritesAsTold (Explain q) k old new result = WritesNothing old new result
WritesAsTold (ShowWorld path) k old new result = WritesNothing old new result
WritesAsTold (Why x) k old new result = WritesNothing old new result
WritesAsTold ShowTables k old new result = WritesNothing old new result
WritesAsTold Undo k old new result = RefusedUnwritten old new result
WritesAsTold Redo k old new result = RefusedUnwritten old new result

-- a command reads and writes so, where binding it is not refused
abbrev pub CommandReads : Command → Known → Seen → Seen → Result Reply StopError → Type 0
CommandReads c k old new result = refusal_of k.catalog c ≡ None → ReadsAsTold (bound_of k.catalog c) k old new result

abbrev pub CommandWrites : Command → Known → Seen → Seen → Result Reply StopError → Type 0
CommandWrites c k old new result = refusal_of k.catalog c ≡ None → WritesAsTold (bound_of k.catalog c) k old new result

-- ---- what is answered without the keeper

-- what is said asks for the keeper, unless it is nothing, or refused as it is read or bound
abbrev pub reading_asks : Catalog → Reading → Bool
reading_asks catalog reading.Nothing = false
reading_asks catalog (reading.Says c) = is_none (refusal_of catalog c)
reading_asks catalog (reading.Refused r) = false

-- an event asks for the keeper where its piece does; one that is too long, and a rest, don't
abbrev pub asks_keeper : Catalog → ScriptEvent → Bool
asks_keeper catalog (event.Piece bytes) = reading_asks catalog (reading_of bytes)
asks_keeper catalog event.Long = false
asks_keeper catalog event.Unfinished = false
