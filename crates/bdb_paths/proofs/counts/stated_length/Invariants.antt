use Rattle.std.proofs.Common.{◌≡◌, ◌≤◌, length, drop, max}
use Rattle.bdb_paths.specs.Shared.{stated_length}
use Rattle.bdb_paths.proofs.counts.stated_length.Given as goal

abbrev pub invariant-loop-x : goal.invariant-loop-x
invariant-loop-x l = record {
  within : l.most ≤ length l.path;
  rest : stated_length l.stmts l.path ≡ max l.most (stated_length (drop l.x-index l.stmts) l.path);
}
