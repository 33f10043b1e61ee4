use Rattle.std.proofs.Common.{◌≡◌, drop}
use Rattle.std.specs.List.{position_from}
use Rattle.bdb_base.specs.Same.{same_text}
use Rattle.bdb_bind.specs.Lookup.{column_at}
use Rattle.bdb_bind.proofs.lookup.column_at.Given as goal

abbrev pub invariant-loop-at : goal.invariant-loop-at
invariant-loop-at l = column_at l.cols l.name ≡ position_from (λ c. same_text c.name l.name) l.at (drop l.at l.cols)
