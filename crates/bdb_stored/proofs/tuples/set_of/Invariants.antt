use Rattle.std.proofs.Common.{◌≡◌, ℕ, true, [], map, take}
use Rattle.bdb_base.specs.Order.{tuple_cmp}
use Rattle.bdb_base.specs.SortedSet.{ascending, put_all}
use Rattle.bdb_base.specs.declared.tuple.Tuple.{Tuple}
use Rattle.bdb_stored.proofs.tuples.set_of.Given as goal

abbrev pub invariant-loop-row : goal.invariant-loop-row
invariant-loop-row l = record {
  set : l.tuples ≡ put_all tuple_cmp [] (map (λ (e : ℕ × Tuple). e.1) (take l.row-index l.rows));
  sorted : ascending tuple_cmp l.tuples ≡ true;
}
