use Rattle.std.proofs.Common.{rules, of_calls}
use Rattle.std.proofs.Math.Dec.{ltb}
use Rattle.std.proofs.lemmas.List.Sorted.{IsPartitionPoint-from_clause, IsPartitionedBy-ltb}
use Rattle.bdb_val.specs.Visits.{led_to}
use Rattle.bdb_val.proofs.FoundLinks.{first_skipped}
use Rattle.bdb_val.proofs.links.first_from.Goals as goal

pub returns-clause-skipped : goal.returns-clause-skipped
returns-clause-skipped c =
    let links = c.args.links.now in
    let parted = IsPartitionedBy-ltb led_to links c.args.wid c.requires in
    first_skipped c.args.wid links c.partition_point.result
    (IsPartitionPoint-from_clause (λ y. ltb (led_to y) c.args.wid) links c.partition_point.result c.partition_point.ensures.partitioned parted (λ a r f k. search (rules, of_calls)))
