use Rattle.std.proofs.Common.{rules, of_calls}
use Rattle.std.specs.Ordering.{is_lt}
use Rattle.std.proofs.lemmas.List.Sorted.{IsPartitionPoint-from_clause}
use Rattle.bdb_base.specs.Order.{tuple_cmp}
use Rattle.bdb_update.proofs.HoldingLemmas.{parted, found_from}
use Rattle.bdb_update.proofs.holding.place_from.Goals as goal

pub returns-clause-found : goal.returns-clause-found
returns-clause-found c =
    let t = c.args.tuple.now in
    let xs = c.args.stmts.now in
    found_from t xs c.partition_point.result c.requires
    (IsPartitionPoint-from_clause (λ x. is_lt (tuple_cmp x.tuple t)) xs c.partition_point.result c.partition_point.ensures.partitioned (parted t xs c.requires) (λ a r f k. search (rules, of_calls)))
