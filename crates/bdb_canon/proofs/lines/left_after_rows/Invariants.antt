use Rattle.std.proofs.Common.{◌≡◌, ◌+◌, take, sum_by}
use Rattle.bdb_base.specs.Bases.{key_lengths}
use Rattle.bdb_canon.specs.Canonical.{row_count}
use Rattle.bdb_canon.proofs.lines.left_after_rows.Given as goal

abbrev pub invariant-loop-path : goal.invariant-loop-path
invariant-loop-path l = l.most ≡ l.left + sum_by (row_count (key_lengths l.rels) l.stmts) (take l.path-index l.states)
