use Rattle.std.proofs.Common.{◌≡◌, drop}
use Rattle.bdb_val.specs.GroupChanges.{mark_under}
use Rattle.bdb_val.proofs.numbered.first_mark.Given as goal

-- the mark is that among the rows that are left
abbrev pub invariant-loop-row : goal.invariant-loop-row
invariant-loop-row l = mark_under l.rows l.tid ≡ mark_under (drop l.row-index l.rows) l.tid
