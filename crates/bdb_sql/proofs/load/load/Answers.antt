use Rattle.std.proofs.Common.{rules, arith, ◌≡◌, false, IsTrue}
use Rattle.sqlite.specs.Held.{state}
use Rattle.bdb_memory.specs.StoreContents.{StoreContents}
use Rattle.bdb_sql.proofs.OrderLemmas.{on_ok, ties_if, whole_if}
use Rattle.bdb_sql.proofs.load.load.Goals as goal

pub returns-clause-tied : goal.returns-clause-tied
returns-clause-tied g c clean whole =
    let new = c.load_found.new.conn in
    let old = state g.S.Store c.args.conn.now in
    let alone : c.args.conn.now.in_transaction ≡ false = search rules in
    let asked : IsTrue c.is_autocommit.result = search rules in
    ties_if g.S.Store new (g.met.S.Store.broken_if_shut new.store) (g.met.S.Store.ordered new.store) (g.met.S.Alter.listed new.store) (g.met.S.Store.settled new.store)
    old c.schema_of-found.ensures.live alone (c.is_autocommit.ensures.settled asked) (λ (s : StoreContents). s.kept) c.load_found.result
    (on_ok c.load_found.result whole) c.load_found.ensures.found (c.load_found.ensures.rows clean) (c.load_found.ensures.same clean)

pub returns-clause-adopted : goal.returns-clause-adopted
returns-clause-adopted g c clean was =
    let new = c.load_found.new.conn in
    let conn = c.args.conn.now in
    let old = state g.S.Store conn in
    let alone : conn.in_transaction ≡ false = search rules in
    let asked : IsTrue c.is_autocommit.result = search rules in
    let whole = was (omega (arith, c.load_found.ensures.survives.clean)) in
    let still = whole_if g.S.Store conn (g.met.S.Store.broken_if_shut conn.store) (g.met.S.Store.ordered conn.store) (g.met.S.Alter.listed conn.store) new c.load_found.result whole
    c.schema_of-found.ensures.live c.load_found.ensures.found (c.load_found.ensures.same clean) in
    ties_if g.S.Store new (g.met.S.Store.broken_if_shut new.store) (g.met.S.Store.ordered new.store) (g.met.S.Alter.listed new.store) (g.met.S.Store.settled new.store)
    old c.schema_of-found.ensures.live alone (c.is_autocommit.ensures.settled asked) (λ (s : StoreContents). s.kept) c.load_found.result
    still c.load_found.ensures.found (c.load_found.ensures.rows clean) (c.load_found.ensures.same clean)
