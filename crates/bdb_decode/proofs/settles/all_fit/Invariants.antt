use Rattle.std.proofs.Common.{◌≡◌, drop}
use Rattle.std.specs.List.{list_all}
use Rattle.bdb_base.specs.Bases.{key_lengths}
use Rattle.bdb_decode.specs.Settles.{is_fitting}
use Rattle.bdb_decode.proofs.settles.all_fit.Given as goal

-- the answer is that for the rows that are left
abbrev pub invariant-loop-row : goal.invariant-loop-row
invariant-loop-row l = list_all (is_fitting (key_lengths l.catalog.rels) l.stated l.from) l.inherited ≡ list_all (is_fitting (key_lengths l.catalog.rels) l.stated l.from) (drop l.row-index l.inherited)
