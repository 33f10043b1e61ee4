use Rattle.std.proofs.Common.{◌≡◌, drop}
use Rattle.std.specs.List.{list_all}
use Rattle.bdb_base.specs.Bases.{key_lengths}
use Rattle.bdb_decode.specs.Settles.{is_passed}
use Rattle.bdb_decode.proofs.settles.all_passed.Given as goal

-- the answer is that for the rows that are left
abbrev pub invariant-loop-row : goal.invariant-loop-row
invariant-loop-row l = list_all (is_passed (key_lengths l.catalog.rels) l.stated l.inherited) l.from ≡ list_all (is_passed (key_lengths l.catalog.rels) l.stated l.inherited) (drop l.row-index l.from)
