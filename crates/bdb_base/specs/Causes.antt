-- How counts rise, and the cause of a fault: the words that sources, sinks and keepers share.
use Rattle.std.specs.Prelude.{◌≡◌, ℕ, ◌+◌, ◌-◌, ◌^◌, ◌<◌, ◌≤◌, min, Bool, nat_eq, List, Result, IsErrOf}
use Rattle.std.specs.List.{list_any}

-- a count rose, or stands at the end of its type
abbrev pub Rose : ℕ → ℕ → Type 0
Rose before now = min (before + 1) (2 ^ 64 - 1) ≤ now

-- a count that stays at the end of its type rose by n
abbrev pub RoseBy : ℕ → ℕ → ℕ → Type 0
RoseBy n before now = now ≡ min (before + n) (2 ^ 64 - 1)

-- a count rises by n, unless it stands at the end of its type
abbrev pub Rises : ℕ → ℕ → ℕ → Type 0
Rises n before now = now < 2 ^ 64 - 1 → now ≡ before + n

-- a count rises by more than n, unless it stands at the end of its type
abbrev pub RisesOver : ℕ → ℕ → ℕ → Type 0
RisesOver n before now = now < 2 ^ 64 - 1 → before + n < now

-- a count rises by n at most, unless it stands at the end of its type
abbrev pub RisesWithin : ℕ → ℕ → ℕ → Type 0
RisesWithin most before now = (n : ℕ) × (n ≤ most) × Rises n before now

-- the count of faults never falls, and it rose where this error is answered
pub record HasCause {T E : Type 0} (before now : ℕ) (result : Result T E) (fault : E) : Type 0 where
  pub later : before ≤ now
  pub rose : IsErrOf result fault → Rose before now

-- the number of the call after these many calls
abbrev pub number_of_next : ℕ → ℕ
number_of_next calls = min (calls + 1) (2 ^ 64 - 1)

-- a number is one of these
abbrev pub is_listed : ℕ → List ℕ → Bool
is_listed n ks = list_any (nat_eq n) ks
