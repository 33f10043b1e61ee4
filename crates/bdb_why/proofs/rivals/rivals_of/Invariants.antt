use Rattle.std.proofs.Common.{◌≡◌, true, [], drop, filter, map}
use Rattle.bdb_base.specs.Order.{tuple_cmp}
use Rattle.bdb_base.specs.SortedSet.{ascending, put_all}
use Rattle.bdb_why.specs.Certificates.{is_rival_near}
use Rattle.bdb_why.proofs.rivals.rivals_of.Given as goal

-- the tuples so far are in order, and those of the statements to come make of them the whole set
abbrev pub invariant-loop-x : goal.invariant-loop-x
invariant-loop-x l = record {
  sorted : ascending tuple_cmp l.tuples ≡ true;
  rest : put_all tuple_cmp l.tuples (map (λ x. x.tuple) (filter (is_rival_near (λ _. l.fn.n) l.path l.fn.t) (drop l.x-index l.stmts)))
      ≡ put_all tuple_cmp [] (map (λ x. x.tuple) (filter (is_rival_near (λ _. l.fn.n) l.path l.fn.t) l.stmts));
}
