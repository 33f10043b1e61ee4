use Rattle.std.proofs.Common.{◌≡◌, drop}
use Rattle.bdb_bind.specs.Firsts.{first_in}
use Rattle.bdb_bind.specs.QueryLines.{item_relation}
use Rattle.bdb_bind.proofs.queries.check_query_relations.Given as goal

abbrev pub invariant-loop-item : goal.invariant-loop-item
invariant-loop-item l = first_in (item_relation l.rels) l.items ≡ first_in (item_relation l.rels) (drop l.item-index l.items)
