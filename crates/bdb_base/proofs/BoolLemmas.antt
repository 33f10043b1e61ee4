-- Tests joined, turned and compared.
use Rattle.std.proofs.Common.{◌≡◌, Bool, true, false, refl, sym, ◌&&◌, ◌||◌, not, subst}
use Rattle.std.specs.Prelude.{T}

-- tests that pass in one place where they pass in the other are one
pub same_tests : (a b : Bool) → (a ≡ true → b ≡ true) → (b ≡ true → a ≡ true) → a ≡ b
same_tests true b f g = sym (f refl)
same_tests false true f g = g refl
same_tests false false f g = refl

pub and_true : (b : Bool) → (b && true) ≡ b
and_true true = refl
and_true false = refl

pub and_false : (b : Bool) → (b && false) ≡ false
and_false true = refl
and_false false = refl

pub or_true : (b : Bool) → (b || true) ≡ true
or_true true = refl
or_true false = refl

pub or_assoc : (a b c : Bool) → ((a || b) || c) ≡ (a || (b || c))
or_assoc true b c = refl
or_assoc false b c = refl

pub not_twice : (b : Bool) → not (not b) ≡ b
not_twice true = refl
not_twice false = refl

pub is_T : (b : Bool) → T b → b ≡ true
is_T true h = refl
is_T false h = absurd h

pub T_of : (b : Bool) → b ≡ true → T b
T_of b e = subst T (sym e) tt
