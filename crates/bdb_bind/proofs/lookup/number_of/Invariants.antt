use Rattle.std.proofs.Common.{◌≡◌, drop}
use Rattle.std.specs.List.{position_from}
use Rattle.bdb_base.specs.Same.{same_text}
use Rattle.bdb_bind.specs.Lookup.{relation_number}
use Rattle.bdb_bind.proofs.lookup.number_of.Given as goal

abbrev pub invariant-loop-at : goal.invariant-loop-at
invariant-loop-at l = relation_number l.rels l.name ≡ position_from (λ r. same_text r.name l.name) l.at (drop l.at l.rels)
