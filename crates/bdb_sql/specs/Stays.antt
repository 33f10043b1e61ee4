-- What stays of a connection.
use Rattle.std.specs.Prelude.{◌≡◌}
use Rattle.sqlite.specs.State.{State}

-- a connection sees the file as it did: its database and the one last committed, the transaction that runs, and what it counts
pub record StaysAs (old new : State) : Type 0 where
  pub now_is : new.now ≡ old.now
  pub committed_is : new.committed ≡ old.committed
  pub mode : new.in_transaction ≡ old.in_transaction
  pub marks_are : new.marks ≡ old.marks
  pub open_is : new.is_open ≡ old.is_open
  pub changes_are : new.changes ≡ old.changes
  pub rowid_is : new.last_rowid ≡ old.last_rowid
