use Rattle.std.proofs.Common.{◌≡◌, ◌+◌, take, sum_by}
use Rattle.bdb_canon.specs.Canonical.{edge_count}
use Rattle.bdb_canon.proofs.lines.left_after_edges.Given as goal

abbrev pub invariant-loop-path : goal.invariant-loop-path
invariant-loop-path l = l.most ≡ l.left + sum_by (edge_count l.users) (take l.path-index l.states)
