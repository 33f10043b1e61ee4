use Rattle.std.proofs.Common.{◌≡◌, true, take}
use Rattle.std.specs.List.{list_all}
use Rattle.bdb_shown.specs.Rows.{stands_alone}
use Rattle.bdb_shown.proofs.values.run_length.Given as goal

abbrev pub invariant-loop-count : goal.invariant-loop-count
invariant-loop-count l = list_all stands_alone (take l.count l.bytes) ≡ true
