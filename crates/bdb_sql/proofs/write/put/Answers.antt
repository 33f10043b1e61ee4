use Rattle.std.proofs.Common.{arith}
use Rattle.sqlite.specs.Held.{state}
use Rattle.bdb_sql.proofs.PlaceLemmas.{puts_place}
use Rattle.bdb_sql.proofs.write.put.Goals as goal

pub returns-clause-set : goal.returns-clause-set
returns-clause-set g c clean inside holds table =
    puts_place (state g.S.Store c.args.transaction.now.conn.now) (state g.S.Store c.execute.new.self.conn.now) c.args.tab c.args.key.now c.args.row.now c.execute.result table
    (omega (arith, c.if-key-gt-LONGEST.false), omega (arith, c.if-row-gt-LONGEST.false)) holds
    (rw (c.params-to_sql.ensures, c.params-to_sql-2.ensures, c.params-to_sql-3.ensures) at (c.execute.ensures.runs clean inside))
