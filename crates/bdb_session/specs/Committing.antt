-- How a transaction ends that is begun, changes rows and is committed.
use Rattle.std.specs.Prelude.{Result, OnOk, OnErr}
use Rattle.bdb_base.specs.Causes.{HasCause, Rises}
use Rattle.bdb_keep.specs.Seen.{Seen, IsStill, NeverFall, Unchanged}

-- An Ok is committed once. Nothing runs after it in any case, and after an Err all is as it was.
pub record IsCommitted {T E : Type 0} (old new : Seen) (result : Result T E) (fault : E) : Type 0 where
  pub commits : OnOk result (Rises 1 old.commits new.commits)
  pub still : IsStill new
  pub never_fall : NeverFall old new
  pub cause : HasCause old.faults new.faults result fault
  pub err : OnErr result (Unchanged old new)
