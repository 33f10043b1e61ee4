use Rattle.std.proofs.Common.{◌≡◌, take}
use Rattle.bdb_stored.specs.Structure.{live_keys}
use Rattle.bdb_stored.proofs.users.live_keys.Given as goal

abbrev pub invariant-loop-row : goal.invariant-loop-row
invariant-loop-row l = l.keys.items ≡ live_keys (take l.row-index l.rows)
