use Rattle.std.proofs.Common.{◌≡◌, drop}
use Rattle.bdb_bind.specs.Lookup.{kind_at}
use Rattle.bdb_bind.proofs.lookup.kind_at.Given as goal

abbrev pub invariant-loop-col : goal.invariant-loop-col
invariant-loop-col l = kind_at l.cols l.name ≡ kind_at (drop l.col-index l.cols) l.name
