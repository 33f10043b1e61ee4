use Rattle.std.proofs.Common.{◌≡◌, take}
use Rattle.std.specs.List.{flat_map}
use Rattle.bdb_base.specs.Bases.{key_lengths}
use Rattle.bdb_canon.specs.Canonical.{rows_from}
use Rattle.bdb_canon.proofs.rows.rows_of.Given as goal

abbrev pub invariant-loop-at : goal.invariant-loop-at
invariant-loop-at l = l.rows ≡ flat_map (rows_from (key_lengths l.rels) l.stmts l.states l.tuples) (take l.at l.states)
