use Rattle.std.proofs.Common.{◌≡◌, ℕ, List, take}
use Rattle.std.specs.BTreeMap.{get_by_text}
use Rattle.bdb_bind.specs.Lookup.{relation_number}
use Rattle.bdb_bind.proofs.index.places_of_relations.Given as goal

abbrev pub invariant-loop-at : goal.invariant-loop-at
invariant-loop-at l = (q : List ℕ) → get_by_text l.places q ≡ relation_number (take l.at l.rels) q
