use Rattle.std.proofs.Common.{◌≡◌, drop}
use Rattle.std.specs.List.{position_from}
use Rattle.bdb_base.specs.Same.{same_text}
use Rattle.bdb_bind.specs.Lookup.{relation_number, columns_of}
use Rattle.bdb_bind.proofs.found.search.Given as goal

abbrev pub invariant-loop-at : goal.invariant-loop-at
invariant-loop-at l = record {
  place : relation_number l.rels l.name ≡ position_from (λ r. same_text r.name l.name) l.at (drop l.at l.rels);
  cols : columns_of l.rels l.name ≡ columns_of (drop l.at l.rels) l.name;
}
