-- What reading bytes back finds, over any spelling of any things.
use Rattle.std.specs.Prelude.{◌≡◌, ℕ, true, not, nat_eq, List, ◌∷◌, ◌++◌, length}
use Rattle.std.specs.List.{list_all, flat_map, AllByRecursion}
use Rattle.bdb_key.specs.Bytes.{num_bytes}

module _ {A : Type 0} where
  -- the bytes begin with this thing's spelling, and these bytes follow
  pub record Leads (Fits : A → Type 0) (spelling : A → List ℕ) (bytes : List ℕ) (x : A) (rest : List ℕ) : Type 0 where
    pub fits : Fits x
    pub split : bytes ≡ spelling x ++ rest

  -- the bytes begin with no thing's spelling
  abbrev pub NoneLeads : (A → Type 0) → (A → List ℕ) → List ℕ → Type 0
  NoneLeads Fits spelling bytes = (x : A) (rest : List ℕ) → Leads Fits spelling bytes x rest → ⊥

  -- the bytes are this thing's spelling
  pub record Reads (Fits : A → Type 0) (spelling : A → List ℕ) (bytes : List ℕ) (x : A) : Type 0 where
    pub fits : Fits x
    pub spelled : spelling x ≡ bytes

  -- the bytes are no thing's spelling
  abbrev pub NoneReads : (A → Type 0) → (A → List ℕ) → List ℕ → Type 0
  NoneReads Fits spelling bytes = (x : A) → Reads Fits spelling bytes x → ⊥

  -- as many things
  pub record AreMany (Fits : A → Type 0) (count : ℕ) (things : List A) : Type 0 where
    pub many : length things ≡ count
    pub each : AllByRecursion Fits things

-- no byte is 0
abbrev pub HasNoEnd : List ℕ → Type 0
HasNoEnd bytes = list_all (λ b. not (nat_eq b 0)) bytes ≡ true

-- the bytes before the first 0, and those after it
pub record SplitsAtZero (bytes front rest : List ℕ) : Type 0 where
  pub none : HasNoEnd front
  pub split : bytes ≡ front ++ 0 ∷ rest

-- numbers, one after the other
abbrev pub nums_bytes : List ℕ → List ℕ
nums_bytes nums = flat_map num_bytes nums
