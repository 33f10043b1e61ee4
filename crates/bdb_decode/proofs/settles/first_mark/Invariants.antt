use Rattle.std.proofs.Common.{◌≡◌, drop}
use Rattle.bdb_val.specs.Settling.{mark_in}
use Rattle.bdb_decode.proofs.settles.first_mark.Given as goal

-- the mark is that among the rows that are left
abbrev pub invariant-loop-row : goal.invariant-loop-row
invariant-loop-row l = mark_in l.rows l.tid ≡ mark_in (drop l.row-index l.rows) l.tid
