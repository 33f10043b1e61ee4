-- How calls that look at tables end.
use Rattle.std.specs.Prelude.{◌≡◌, Result, OnOk, IsErrOf}
use Rattle.bdb_base.specs.Causes.{HasCause}
use Rattle.bdb_keep.specs.Seen.{Seen, NeverFall, IsDropped}
use Rattle.bdb_exec.specs.declared.errors.ExecError.{ExecError}
use Rattle.bdb_exec.specs.declared.errors.ExecError.TheVariants.{TooMany, Fault, Memory}

-- the rows, the rows last committed, the count of commits and a transaction that runs are as before
pub record StaysAll (old new : Seen) : Type 0 where
  pub kept : new.kept ≡ old.kept
  pub last : new.last ≡ old.last
  pub commits : new.commits ≡ old.commits
  pub running : new.running ≡ old.running

-- A plan is run: nothing is written, and nothing changes where it ends or has too many rows. After any other error
-- nothing runs, and the rows are those last committed. It tells a fault only where the count of faults rose.
pub record IsExecuted {T : Type 0} (old new : Seen) (result : Result T ExecError) : Type 0 where
  pub ok : OnOk result (StaysAll old new)
  pub many : IsErrOf result TooMany → StaysAll old new
  pub fault : IsErrOf result Fault → IsDropped old new
  pub memory : IsErrOf result Memory → IsDropped old new
  pub writes : new.writes ≡ old.writes
  pub counts : NeverFall old new
  pub cause : HasCause old.faults new.faults result Fault
