-- What becomes of suffix links and edges where a world goes.
use Rattle.std.specs.Prelude.{◌≡◌, ℕ, Bool, false, ◌||◌, nat_eq, List, [], ◌∷◌, ◌++◌, Option, Some, cond}
use Rattle.bdb_tables.specs.Names.{Names, AreNames, number_of, is_named, leads_to, link_of}

-- what led to `n` leads to `s`
abbrev pub led_past : ℕ → ℕ → Option ℕ → Option ℕ
led_past n s o = cond (leads_to o n) (Some s) o

-- A path other than the empty one has number `n`, no path with a name goes beyond it, and its suffix link leads to `s`.
pub record IsLast (ns : Names) (p : List ℕ) (n s : ℕ) : Type 0 where
  pub names : AreNames ns
  pub number : number_of ns p ≡ Some n
  pub some : p ≡ [] → ⊥
  pub last : (i : ℕ) → is_named ns (p ++ i ∷ []) ≡ false
  pub led : link_of ns n ≡ Some s

-- users, and one more
abbrev pub with_one_user : (ℕ → Bool) → ℕ → ℕ → Bool
with_one_user users uid j = nat_eq j uid || users j
