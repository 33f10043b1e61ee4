use Rattle.std.proofs.Common.{◌≡◌, true, length}
use Rattle.bdb_base.specs.Alternation.{alternates}
use Rattle.bdb_base.specs.Order.{statement_cmp}
use Rattle.bdb_base.specs.SortedSet.{ascending}
use Rattle.bdb_tables.proofs.Loops.{IsReading}
use Rattle.bdb_worlds.specs.Holding.{EndsAt}
use Rattle.bdb_why.proofs.NearbyLemmas.{LeftNear, LeftReads}
use Rattle.bdb_why.proofs.nearby.near_statements.Given as goal

-- the number and depth are those of the deepest state that the rest of the path ends in, and what is left to be read there
-- makes of the statements so far all that are near the path
abbrev pub invariant-loop-rest : goal.invariant-loop-rest
invariant-loop-rest g l = IsReading (g.K.Keeper.seen l.fn.keeper) (g.K.Keeper.seen l.keeper) (record {
  apart : alternates l.rest ≡ true;
  sorted : ascending statement_cmp l.stmts ≡ true;
  ends : EndsAt (g.K.Keeper.seen l.fn.keeper).kept l.path l.rest l.at;
  near : LeftNear (g.K.Keeper.seen l.fn.keeper).kept l.path l.fn.t l.rest l.stmts;
  reads : LeftReads (g.K.Keeper.seen l.fn.keeper).kept l.path l.fn.t l.rest (g.K.Keeper.seen l.fn.keeper).reads (g.K.Keeper.seen l.keeper).reads;
})

abbrev pub decreases-loop-rest : goal.decreases-loop-rest
decreases-loop-rest g l = length l.rest
