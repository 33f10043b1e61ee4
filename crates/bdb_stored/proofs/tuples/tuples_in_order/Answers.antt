use Rattle.std.proofs.Common.{◌∙◌, ℕ, map, ap, ◌≡◌, List, length, sym, arith}
use Rattle.bdb_base.specs.Order.{tuple_cmp}
use Rattle.bdb_base.specs.SortedSet.{sorted_set}
use Rattle.bdb_base.specs.WorldRows.{tuples_of}
use Rattle.bdb_base.specs.declared.tuple.Tuple.{Tuple}
use Rattle.bdb_stored.proofs.CountingLemmas.{tuples_as_many, tuples_told}
use Rattle.bdb_stored.proofs.tuples.tuples_in_order.Goals as goal

pub returns-in-Ok-set_of-clause-tuples : goal.returns-in-Ok-set_of-clause-tuples
returns-in-Ok-set_of-clause-tuples g c b v =
    c.in-Ok-set_of.ensures ∙ ap (λ es. sorted_set tuple_cmp (map (λ (e : ℕ × Tuple). e.1) es)) c.deref.ensures.value
    ∙ tuples_told (g.K.Keeper.seen c.args.keeper.now).kept b v c.in-Ok.rows.items c.in-Ok.ensures.rows

pub returns-in-Ok-set_of-clause-reads : goal.returns-in-Ok-set_of-clause-reads
returns-in-Ok-set_of-clause-reads g c =
    let t = (g.K.Keeper.seen c.args.keeper.now).kept in
    let b = c.requires.base.base in
    let v = c.requires.base.stores in
    let told : c.in-Ok-set_of.tuples ≡ tuples_of b.stmts =
    c.in-Ok-set_of.ensures ∙ ap (λ es. sorted_set tuple_cmp (map (λ (e : ℕ × Tuple). e.1) es)) c.deref.ensures.value
    ∙ tuples_told t b v c.in-Ok.rows.items c.in-Ok.ensures.rows in
    let many : length c.in-Ok-set_of.tuples ≡ length c.in-Ok.rows.items = ap (λ (xs : List Tuple). length xs) told ∙ sym (tuples_as_many t b v c.in-Ok.rows.items c.in-Ok.ensures.rows) in
    omega (arith, many, c.in-Ok.ensures.reads)
