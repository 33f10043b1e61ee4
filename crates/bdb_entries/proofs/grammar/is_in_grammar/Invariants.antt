use Rattle.std.proofs.Common.{ℕ, ◌≤◌}
use Rattle.bdb_tables.proofs.Loops.{IsReading}
use Rattle.bdb_entries.specs.Reading.{AreEntries}
use Rattle.bdb_entries.proofs.grammar.is_in_grammar.Given as goal

abbrev pub invariant-loop-before : goal.invariant-loop-before
invariant-loop-before g l = IsReading (g.K.Keeper.seen l.fn.keeper) (g.K.Keeper.seen l.keeper) ((n : ℕ) → 1 ≤ n → n ≤ l.before → AreEntries (g.K.Keeper.seen l.fn.keeper).kept n)
