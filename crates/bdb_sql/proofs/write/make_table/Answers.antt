use Rattle.sqlite.specs.Held.{state}
use Rattle.bdb_sql.proofs.MakeLemmas.{makes_inside}
use Rattle.bdb_sql.proofs.write.make_table.Goals as goal

pub returns-clause-table : goal.returns-clause-table
returns-clause-table g c clean inside ready =
    makes_inside (state g.S.Store c.args.transaction.now.conn.now) (state g.S.Store c.execute.new.self.conn.now) c.execute.result ready (c.execute.ensures.runs clean inside)
