use Rattle.bdb_tables.proofs.Loops.{IsReading}
use Rattle.bdb_update.proofs.KeyLemmas.{AreFirst}
use Rattle.bdb_update.proofs.keys.stored_relations.Given as goal

abbrev pub invariant-loop-rel : goal.invariant-loop-rel
invariant-loop-rel g l = IsReading (g.K.Keeper.seen l.fn.keeper) (g.K.Keeper.seen l.keeper) (AreFirst (g.K.Keeper.seen l.fn.keeper).kept l.rel-counter l.rels)
