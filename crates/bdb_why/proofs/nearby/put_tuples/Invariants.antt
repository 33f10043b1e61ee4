use Rattle.std.proofs.Common.{◌≡◌, true, map}
use Rattle.bdb_base.specs.Order.{statement_cmp}
use Rattle.bdb_base.specs.SortedSet.{ascending, put_all}
use Rattle.bdb_why.proofs.NearSetLemmas.{made}
use Rattle.bdb_why.proofs.nearby.put_tuples.Given as goal

abbrev pub invariant-loop-tuple : goal.invariant-loop-tuple
invariant-loop-tuple l = record {
  sorted : ascending statement_cmp l.stmts ≡ true;
  put : l.stmts ≡ put_all statement_cmp l.fn.stmts (map (made l.fn.path l.sign) l.yielded);
}
