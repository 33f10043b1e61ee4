-- How many rows of worlds tables have.
use Rattle.std.specs.Prelude.{◌≡◌, ℕ, ◌+◌, ◌≤◌, nat_eq, cond, List, [], ◌∷◌, length, Option, None}
use Rattle.std.specs.FinMap as tables
use Rattle.bdb_keep.specs.Tables.{Tables}
use Rattle.bdb_tables.specs.Differences.{AreDifferences}

-- what the table of rows of worlds has at a place
abbrev pub vals_at : Tables → List ℕ → Option (List ℕ)
vals_at t [] = None
vals_at t (n ∷ k) = cond (nat_eq n 11) (tables.get t (n ∷ k)) None

-- nothing is at any place
abbrev pub nothing_at : List ℕ → Option (List ℕ)
nothing_at q = None

-- tables have so many rows of worlds
pub record HasRowCount (t : Tables) (n : ℕ) : Type 0 where
  pub places : List (List ℕ)
  pub are : AreDifferences (vals_at t) nothing_at places
  pub many : n ≡ length places

-- the rows before with those that came are those afterwards with those that went
pub record Balances (n m put taken : ℕ) : Type 0 where
  pub balance : n + put ≡ m + taken
  pub few_came : put ≤ m
  pub few_went : taken ≤ n
