-- What a keeper tells that fails by itself besides the one within it.
use Rattle.std.specs.Prelude.{ℕ, ◌+◌}
use Rattle.bdb_keep.specs.Seen.{Seen}

-- so many faults more
abbrev pub with_faults : Seen → ℕ → Seen
with_faults s n = record s { faults = s.faults + n }
