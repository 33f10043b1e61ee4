-- How the calls of a keeper end: what each tells of the keeper before and after it, whatever its result's types and whichever
-- error stands for a fault. Calls that are made of keeper calls end in the same ways.
use Rattle.std.specs.Prelude.{◌≡◌, true, false, Result, OnOk, OnErr}
use Rattle.bdb_base.specs.Causes.{HasCause, RoseBy}
use Rattle.bdb_keep.specs.Seen.{Seen, NeverFall, IsAtRest, IsDropped, Steps}

-- A transaction begins. The rows and what is committed stay.
pub record IsBegin {T E : Type 0} (old new : Seen) (result : Result T E) (fault : E) : Type 0 where
  pub rest : old.kept ≡ old.last
  pub running : OnOk result (new.running ≡ true)
  pub kept : OnOk result (new.kept ≡ old.kept)
  pub last : new.last ≡ old.last
  pub commits : new.commits ≡ old.commits
  pub reads : new.reads ≡ old.reads
  pub writes : new.writes ≡ old.writes
  pub counts : NeverFall old new
  pub cause : HasCause old.faults new.faults result fault
  pub err : OnErr result (IsDropped old new)

-- Rows are read: an Ok leaves them as they were, and nothing is written. How many were read, its own clause says.
pub record IsRead {T E : Type 0} (old new : Seen) (result : Result T E) (fault : E) : Type 0 where
  pub rest : IsAtRest old
  pub kept : OnOk result (new.kept ≡ old.kept)
  pub writes : new.writes ≡ old.writes
  pub counts : NeverFall old new
  pub steps : Steps old new result fault

-- Rows are written while a transaction runs, and none is read. Which and how many were written, its own clauses say.
pub record IsWrite {T E : Type 0} (old new : Seen) (result : Result T E) (fault : E) : Type 0 where
  pub reads : new.reads ≡ old.reads
  pub counts : NeverFall old new
  pub steps : Steps old new result fault

-- A transaction is committed: an Ok makes the rows those last committed. Nothing runs after it in any case.
pub record IsCommit {T E : Type 0} (old new : Seen) (result : Result T E) (fault : E) : Type 0 where
  pub kept : OnOk result (new.kept ≡ old.kept)
  pub last : OnOk result (new.last ≡ old.kept)
  pub commits : OnOk result (RoseBy 1 old.commits new.commits)
  pub stopped : new.running ≡ false
  pub reads : new.reads ≡ old.reads
  pub writes : new.writes ≡ old.writes
  pub counts : NeverFall old new
  pub cause : HasCause old.faults new.faults result fault
  pub err : OnErr result (IsDropped old new)

-- A transaction, if one ran, is undone. No count changes.
pub record IsUndo (old new : Seen) : Type 0 where
  pub rest : IsAtRest old
  pub dropped : IsDropped old new
  pub faults : new.faults ≡ old.faults
  pub reads : new.reads ≡ old.reads
  pub writes : new.writes ≡ old.writes
  pub counts : NeverFall old new
