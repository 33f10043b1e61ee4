use Rattle.std.proofs.Common.{ℕ, ◌≤◌, ◌<◌}
use Rattle.bdb_tables.proofs.Loops.{IsReading}
use Rattle.bdb_entries.specs.Reading.{IsBare}
use Rattle.bdb_entries.proofs.bare.others_are_bare.Given as goal

abbrev pub invariant-loop-tab : goal.invariant-loop-tab
invariant-loop-tab g l = IsReading (g.K.Keeper.seen l.fn.keeper) (g.K.Keeper.seen l.keeper) ((n : ℕ) → 12 ≤ n → n < l.tab → IsBare (g.K.Keeper.seen l.fn.keeper).kept n)
