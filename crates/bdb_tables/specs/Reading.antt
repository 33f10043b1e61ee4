-- How calls end that only read tables.
use Rattle.std.specs.Prelude.{◌≡◌, Result, OnOk}
use Rattle.bdb_keep.specs.Seen.{Seen, NeverFall, Steps}

-- Any number of reads is made, or none: an Ok leaves the rows as they were, and nothing is written. How many are made, a clause of
-- its own says, where one does.
pub record OnlyReads {T E : Type 0} (old new : Seen) (result : Result T E) (fault : E) : Type 0 where
  pub kept : OnOk result (new.kept ≡ old.kept)
  pub writes : new.writes ≡ old.writes
  pub counts : NeverFall old new
  pub steps : Steps old new result fault
