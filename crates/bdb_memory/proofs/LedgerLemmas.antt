-- When a ledger is sound.
use Rattle.std.proofs.Common.{◌≡◌, false, sym, subst}
use Rattle.std.specs.FinMap as map
use Rattle.bdb_keep.specs.Seen.{Seen}
use Rattle.bdb_keep.specs.Tables.{LieInTables, Tables}
use Rattle.bdb_memory.specs.Told.{IsSound}

-- a ledger is sound whose rows are these and were last committed as those
pub sound_by : (s : Seen) (t u : Tables) → s.kept ≡ t → s.last ≡ u → LieInTables t → LieInTables u → (s.running ≡ false → s.kept ≡ s.last) → IsSound s
sound_by s t u kept last a b rest = record { rest = rest; kept = subst LieInTables (sym kept) a; last = subst LieInTables (sym last) b }
