use Rattle.bdb_tables.proofs.Loops.{IsReading}
use Rattle.bdb_leaving.proofs.ReadsLemmas.{FirstReads}
use Rattle.bdb_leaving.proofs.WorldLemmas.{FirstNaming}
use Rattle.bdb_leaving.proofs.naming.read_naming.Given as goal

abbrev pub invariant-loop-world : goal.invariant-loop-world
invariant-loop-world g l = IsReading (g.K.Keeper.seen l.fn.keeper) (g.K.Keeper.seen l.keeper) (record {
  said : FirstNaming l.world-index (g.K.Keeper.seen l.fn.keeper).kept l.uid l.stmts;
  reads : FirstReads l.world-index l.uid (g.K.Keeper.seen l.fn.keeper) (g.K.Keeper.seen l.keeper);
})
