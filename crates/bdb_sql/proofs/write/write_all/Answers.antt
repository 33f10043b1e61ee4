use Rattle.std.proofs.Common.{arith}
use Rattle.sqlite.specs.State.{HasCleanDisk}
use Rattle.sqlite.specs.Held.{state}
use Rattle.bdb_sql.proofs.BatchLemmas.{turns_if}
use Rattle.bdb_sql.proofs.write.write_all.Goals as goal

pub returns-clause-turns : goal.returns-clause-turns
returns-clause-turns g c clean inside ready =
    let old = state g.S.Store c.args.transaction.now.conn.now in
    let mid = state g.S.Store c.make_table.new.transaction.conn.now in
    let new = state g.S.Store c.write_each.new.transaction.conn.now in
    let then_clean : HasCleanDisk mid = omega (arith, c.write_each.ensures.survives.clean) in
    let made = c.in_ok-make_table.ensures.table then_clean inside ready in
    turns_if c.write_each.result c.args.store.now.changes c.args.store.now.last c.args.store.now.kept old mid new c.write_each.ensures.all made (c.write_each.ensures.set clean made.mode made.table)
