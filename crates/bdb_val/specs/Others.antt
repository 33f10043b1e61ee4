-- Tables that have the same rows as others, but for those of some tables.
use Rattle.std.specs.Prelude.{◌≡◌, ℕ, Bool, false, List, [], ◌∷◌}
use Rattle.std.specs.FinMap as tables
use Rattle.bdb_keep.specs.Tables.{Tables}

-- a place is in a table whose number passes a test
abbrev pub is_in : (ℕ → Bool) → List ℕ → Bool
is_in test [] = false
is_in test (n ∷ k) = test n

-- tables have the same rows, but for those in tables whose numbers pass a test
abbrev pub SamePlacesBut : (ℕ → Bool) → Tables → Tables → Type 0
SamePlacesBut test t u = (q : List ℕ) → is_in test q ≡ false → tables.get u q ≡ tables.get t q
