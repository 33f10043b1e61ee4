use Rattle.std.proofs.Common.{◌≡◌, ℕ, map}
use Rattle.bdb_entries.proofs.catalog.items_of.Given as goal

abbrev pub invariant-loop-item : goal.invariant-loop-item
invariant-loop-item g l = l.items.items ≡ map (λ (e : ℕ × _). e.1) l.yielded
