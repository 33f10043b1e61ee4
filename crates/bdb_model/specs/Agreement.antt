-- Rows that go together.
use Rattle.std.specs.Prelude.{◌≡◌, ℕ, true, false, List}
use Rattle.bdb_base.specs.declared.kinds.Held.{Held}
use Rattle.bdb_base.specs.Clash.{clash}
use Rattle.bdb_base.specs.WorldRows.{has_row}

-- no two rows clash
abbrev pub AreCompatible : (ℕ → ℕ) → List Held → Type 0
AreCompatible keys rows = (a b : Held) → has_row rows a ≡ true → has_row rows b ≡ true → clash keys a.tuple a.sign b.tuple b.sign ≡ false
