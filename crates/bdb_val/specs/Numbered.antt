-- Rows whose numbers rise.
use Rattle.std.specs.Prelude.{ℕ, ◌<◌, List}
use Rattle.std.specs.List.{AllPairs}
use Rattle.bdb_tables.specs.Marks.{Mark}

-- the number of each row's tuple is below those of all later ones
abbrev pub AreRising : List (ℕ × Mark) → Type 0
AreRising xs = AllPairs (λ (x y : ℕ × Mark). x.0 < y.0) xs
