-- What comes of trying to add a statement to a base.
use Rattle.std.specs.Prelude.{◌≡◌, false, Option, Some, None, Result, Ok, Err}
use Rattle.bdb_base.specs.Bases.{Contents, stands}
use Rattle.bdb_base.specs.declared.kinds.Stmt.{Stmt}
use Rattle.bdb_canon.specs.Sizes.{counts_of}
use Rattle.bdb_canon.specs.declared.sizes.Counts.{Counts}
use Rattle.bdb_keep.specs.Seen.{Seen, GoesOn}
use Rattle.bdb_tables.specs.declared.tab.TabError.{TabError}
use Rattle.bdb_tables.specs.declared.tab.TabError.TheVariants as stop
use Rattle.bdb_update.specs.Calls.{MayMeet, IsAlready, IsClashing, IsFull, HasFailed, HasStopped, clash_of, size_passed, with_one}
use Rattle.bdb_tables.specs.Stored.{Stores}
use Rattle.bdb_update.specs.declared.answer.UpdateError.{UpdateError}
use Rattle.bdb_update.specs.declared.answer.UpdateError.TheVariants.{Clash, Full, Fault, Memory}

-- why nothing is changed, where tables could not be read or written
abbrev pub stopped_by : TabError → UpdateError
stopped_by stop.Fault = Fault
stopped_by stop.Memory = Memory

-- a statement that neither stood nor clashes is added, and no limit is passed
pub record HasJoined (b : Contents) (x : Stmt) (next : Counts) (old new : Seen) : Type 0 where
  pub fresh : stands b.stmts x ≡ false
  pub apart : clash_of b x ≡ None
  pub room : size_passed (counts_of (with_one b x)) ≡ None
  pub stored : Stores new.kept (with_one b x)
  pub counted : next ≡ counts_of (with_one b x)
  pub goes_on : GoesOn old new

-- what comes of it, by the answer: the sizes after it, or none where it stood
abbrev pub IsTrying : Contents → Stmt → Seen → Seen → Counts → Result (Option Counts) UpdateError → Type 0
IsTrying b x old new c (Ok None) = IsAlready b x old new c c
IsTrying b x old new c (Ok (Some next)) = HasJoined b x next old new
IsTrying b x old new c (Err (Clash least)) = IsClashing b x least old new c c
IsTrying b x old new c (Err (Full what)) = IsFull b x what old new c c
IsTrying b x old new c (Err Fault) = HasFailed old new c c
IsTrying b x old new c (Err Memory) = HasStopped old new c c

abbrev pub Tries : Seen → Seen → Counts → Stmt → Result (Option Counts) UpdateError → Type 0
Tries old new c x result = (b : Contents) → MayMeet old.kept c x b → IsTrying b x old new c result
