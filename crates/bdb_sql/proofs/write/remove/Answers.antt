use Rattle.sqlite.specs.Held.{state}
use Rattle.bdb_sql.proofs.PlaceLemmas.{removes_place}
use Rattle.bdb_sql.proofs.write.remove.Goals as goal

pub returns-clause-set : goal.returns-clause-set
returns-clause-set g c clean inside holds =
    removes_place (state g.S.Store c.args.transaction.now.conn.now) (state g.S.Store c.execute.new.self.conn.now) c.args.tab c.args.key.now c.execute.result holds
    (rw (c.params-to_sql.ensures, c.params-to_sql-2.ensures) at (c.execute.ensures.runs clean inside))
