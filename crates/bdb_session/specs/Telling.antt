-- What becomes of a keeper where something is told, and nothing changes: what is read and written.
use Rattle.std.specs.Prelude.{◌≡◌, ℕ, ◌+◌, ◌*◌, List, length, Result, OnOk}
use Rattle.std.specs.List.{sum_by}
use Rattle.bdb_base.specs.Bases.{Contents, key_lengths}
use Rattle.bdb_base.specs.States.{is_state}
use Rattle.bdb_base.specs.WorldRows.{world_of}
use Rattle.bdb_base.specs.declared.kinds.Stmt.{Stmt}
use Rattle.bdb_keep.specs.Seen.{Seen}
use Rattle.bdb_session.specs.declared.error.StopError.{StopError}
use Rattle.bdb_session.specs.Known.{Known, Agrees}
use Rattle.bdb_session.specs.Outcome.{State}
use Rattle.bdb_why.specs.Ends.{ends_in}
use Rattle.bdb_why.specs.Stored.{reads_at}
use Rattle.bdb_worlds.specs.Bounds.{EndsWithin}

-- Nothing is written, and the rows stay.
pub record WritesNothing {T : Type 0} (old new : Seen) (result : Result T StopError) : Type 0 where
  pub kept : OnOk result (new.kept ≡ old.kept)
  pub writes : new.writes ≡ old.writes

-- how often is read at most to show the world of a path: once for each user of the path, and twice for each of its rows
abbrev pub world_reads : Contents → List ℕ → ℕ
world_reads b path = length path + 2 * length (world_of (key_lengths b.catalog.rels) b.stmts path) + 8

-- how often is read at most to tell why a path believes a signed tuple, or why not: once for each user of the path, and at each state
-- among its ends four times, and four for each row of the tuple's relation and key in its world
abbrev pub why_reads : Contents → Stmt → ℕ
why_reads b x = length x.path + sum_by (reads_at (key_lengths b.catalog.rels) b.stmts x.tuple) (ends_in (is_state b.stmts) x.path)

-- whichever state a session agrees on with the tables, an answer reads no more than this
abbrev pub ReadsWithin : {T : Type 0} → (State → ℕ) → Known → Seen → Seen → Result T StopError → Type 0
ReadsWithin most k old new result = (s : State) → Agrees old.kept k s → OnOk result (EndsWithin (most s) old.reads new.reads)
