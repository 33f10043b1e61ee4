-- Numbers that all stand for something.
use Rattle.std.proofs.Common.{◌≡◌, ℕ, true, nat_eq, List, ◌∷◌, Option, Some, is_some, refl}
use Rattle.std.proofs.lemmas.Bool.{or_left, or_right, eq-eqb}
use Rattle.bdb_base.proofs.OptionLemmas.{some_of}
use Rattle.bdb_base.specs.Causes.{is_listed}

abbrev pub AllNamed : {X : Type 0} → (ℕ → Option X) → List ℕ → Type 0
AllNamed name ks = (k : ℕ) → is_listed k ks ≡ true → is_some (name k) ≡ true

module _ {X : Type 0} (name : ℕ → Option X) where
  pub rest_named : (k : ℕ) (ks : List ℕ) → AllNamed name (k ∷ ks) → AllNamed name ks
  rest_named k ks h j e = h j (or_right (nat_eq j k) (is_listed j ks) e)

  pub first_named : (k : ℕ) (ks : List ℕ) → AllNamed name (k ∷ ks) → (x : X) × (name k ≡ Some x)
  first_named k ks h = some_of (name k) (h k (or_left (nat_eq k k) (is_listed k ks) (eq-eqb k k refl)))
