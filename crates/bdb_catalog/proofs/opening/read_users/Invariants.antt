use Rattle.std.proofs.Common.{take}
use Rattle.bdb_catalog.specs.Opening.{IsPartOf}
use Rattle.bdb_tables.proofs.Loops.{IsReading}
use Rattle.bdb_catalog.proofs.opening.read_users.Given as goal

abbrev pub invariant-loop-number : goal.invariant-loop-number
invariant-loop-number g l = IsReading (g.K.Keeper.seen l.fn.keeper) (g.K.Keeper.seen l.keeper) (IsPartOf (λ b. take l.number b.catalog.users) (g.K.Keeper.seen l.fn.keeper).kept l.users)
