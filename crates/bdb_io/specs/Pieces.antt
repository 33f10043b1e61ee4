-- What a read gives and a write takes.
use Rattle.std.specs.Prelude.{◌≡◌, ℕ, ◌≤◌, List, length, take, Option, Result, MatchResult}
use Rattle.std.specs.Io.KnownBytes.{Appends}
use Rattle.bdb_base.specs.Causes.{RoseBy}

-- a count of bytes never falls, and rises by those given
pub record Counts {E : Type 0} (before now : ℕ) (result : Result ℕ E) : Type 0 where
  pub later : before ≤ now
  pub given : MatchResult result (λ n. RoseBy n before now) (λ _. now ≡ before)

-- known bytes grow by the whole piece at `Ok`, and by a part of its front at `Err`
abbrev pub WritesPiece : {T E : Type 0} → Option (List ℕ) → Option (List ℕ) → Result T E → List ℕ → Type 0
WritesPiece old new result piece = MatchResult result (λ _. Appends old new piece) (λ _. (k : ℕ) × (k ≤ length piece) × Appends old new (take k piece))
