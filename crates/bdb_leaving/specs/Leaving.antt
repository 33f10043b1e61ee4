-- A user leaves a stored base. Tables are told of by whichever base they store.
use Rattle.std.specs.Prelude.{◌≡◌, ℕ, ◌+◌, ◌*◌, true, List}
use Rattle.bdb_base.specs.Bases.{Contents, is_user, without_user, world_count}
use Rattle.bdb_base.specs.Causes.{Rises}
use Rattle.bdb_base.specs.Changes.{statements_naming, without_statements_of}
use Rattle.bdb_base.specs.declared.kinds.Stmt.{Stmt}
use Rattle.bdb_canon.specs.declared.sizes.Counts.{Counts}
use Rattle.bdb_keep.specs.Seen.{Seen}
use Rattle.bdb_keep.specs.Tables.{Tables}
use Rattle.bdb_update.specs.Calls.{StoresSized}
use Rattle.bdb_update.specs.Steps.{WritesThrough, steps_without}

-- tables store a valid base of these sizes, of which a number is that of a user
pub record MayDropUser (t : Tables) (counts : Counts) (uid : ℕ) (b : Contents) : Type 0 where
  pub base : StoresSized t counts b
  pub user : is_user b.catalog.users uid ≡ true

-- there is such a base
pub record SomeMayDropUser (t : Tables) (counts : Counts) (uid : ℕ) : Type 0 where
  pub base : Contents
  pub may : MayDropUser t counts uid base

-- the base without a user, and without each statement whose path names him
abbrev pub base_without_user : Contents → ℕ → Contents
base_without_user b uid = record { catalog = without_user b.catalog uid; stmts = without_statements_of uid b.stmts }

-- these are the statements that named him, and tables store the base without him and them, of these sizes
pub record IsWithoutUser (b : Contents) (uid : ℕ) (u : Tables) (after : Counts) (went : List Stmt) : Type 0 where
  pub gone : went ≡ statements_naming uid b.stmts
  pub base : StoresSized u after (base_without_user b uid)

-- whichever base the tables stored, he has left it
abbrev pub UserLeaves : Tables → Tables → Counts → Counts → ℕ → List Stmt → Type 0
UserLeaves t u before after uid went = (b : Contents) → MayDropUser t before uid b → IsWithoutUser b uid u after went

-- The statements that name him go one after the other, each with as many writes as are told of taking it away by itself. Then two
-- writes are made for each world that is left, and one more.
pub record WritesLeaving (b : Contents) (uid : ℕ) (old new : Seen) : Type 0 where
  pub between : Seen
  pub gone : WritesThrough old (steps_without b (statements_naming uid b.stmts)) between
  pub left : Rises (2 * world_count (without_statements_of uid b.stmts) + 1) between.writes new.writes

-- whichever base the tables stored
abbrev pub LeavesThrough : Counts → ℕ → Seen → Seen → Type 0
LeavesThrough counts uid old new = (b : Contents) → MayDropUser old.kept counts uid b → WritesLeaving b uid old new
