use Rattle.std.proofs.Common.{◌≡◌, ◌+◌, drop}
use Rattle.bdb_paths.specs.Shared.{shared_length}
use Rattle.bdb_paths.proofs.counts.shared_length.Given as goal

abbrev pub invariant-loop-x : goal.invariant-loop-x
invariant-loop-x l = record {
  count : l.count ≡ l.x-index;
  shared : shared_length l.a l.b ≡ l.count + shared_length (drop l.x-index l.a) l.rest;
}
