-- Which states stay.
use Rattle.std.specs.Prelude.{◌≡◌, ℕ, ◌+◌, Bool, true, List, [], ◌∷◌, ◌++◌, length, Some}
use Rattle.std.specs.Bool.{MatchBool}
use Rattle.bdb_keep.specs.Tables.{Tables}
use Rattle.bdb_tables.specs.Codec.{HasRow}
use Rattle.bdb_tables.specs.Explicit.{HasExplicitRow}
use Rattle.bdb_tables.specs.InUse.{depth_codec}
use Rattle.bdb_tables.specs.Names.{Names, number_of, is_named}
use Rattle.bdb_tables.specs.States.{HoldsStates}
use Rattle.bdb_worlds.specs.Holding.{Worlds}

-- whether a world has this depth
abbrev pub TellsDepth : Tables → ℕ → ℕ → Bool → Type 0
TellsDepth t n depth found = MatchBool found (HasRow depth_codec t n depth) (HasRow depth_codec t n depth → ⊥)

-- a state is one user longer than a path
pub record HasLonger (ns : Names) (p : List ℕ) : Type 0 where
  pub user : ℕ
  pub named : is_named ns (p ++ user ∷ []) ≡ true

-- whichever states the tables hold: whether one is a user longer than the path of a number, where that makes it so deep
abbrev pub TellsLonger : Tables → ℕ → ℕ → Bool → Type 0
TellsLonger t n deeper found = (s : Worlds) (p : List ℕ) → HoldsStates s.users s.names t → number_of s.names p ≡ Some n → length p + 1 ≡ deeper
    → MatchBool found (HasLonger s.names p) (HasLonger s.names p → ⊥)

-- a number's path, other than the empty one, stays a state: the number has an explicit row, or a state is one user longer
pub data IsNeeded (t : Tables) (ns : Names) (p : List ℕ) (n : ℕ) : Type 0 where
  by_row : HasExplicitRow t n → IsNeeded t ns p n
  by_longer : HasLonger ns p → IsNeeded t ns p n

-- whichever states the tables hold: whether the path of a number stays one, where a user more makes it so deep
abbrev pub TellsNeeded : Tables → ℕ → ℕ → Bool → Type 0
TellsNeeded t n deeper found = (s : Worlds) (p : List ℕ) → HoldsStates s.users s.names t → number_of s.names p ≡ Some n → length p + 1 ≡ deeper
    → MatchBool found (IsNeeded t s.names p n) (IsNeeded t s.names p n → ⊥)
