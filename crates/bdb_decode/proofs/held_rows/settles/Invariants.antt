use Rattle.std.proofs.Common.{◌≡◌, filter}
use Rattle.bdb_decode.specs.Settles.{is_explicit, is_inherited}
use Rattle.bdb_decode.proofs.held_rows.settles.Given as goal

-- the explicit rows and the inherited ones so far
abbrev pub invariant-loop-row : goal.invariant-loop-row
invariant-loop-row l = (l.stated.items ≡ filter is_explicit l.yielded) × (l.inherited.items ≡ filter is_inherited l.yielded)
