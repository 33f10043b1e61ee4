-- Spellings that compare as what they spell: none begins another.
use Rattle.std.proofs.Common.{◌≡◌, ℕ, List, ◌++◌, refl, sym, ap, ◌∙◌}
use Rattle.std.specs.declared.cmp.Ordering.{Ordering}
use Rattle.std.specs.declared.cmp.Ordering.TheVariants.{Less, Equal, Greater}
use Rattle.std.specs.Ordering.{nat_cmp, ordering_then}
use Rattle.std.specs.Cmp.Lexicographic.{slice_cmp}
use Rattle.std.specs.FinMap.{IsAntisymmetric, slice_cmp-IsAntisymmetric, nat_cmp-IsAntisymmetric}
use Rattle.std.proofs.lemmas.Cmp.{nat_list_cmp_total, tied_itself}

-- two spellings, and what follows them, compare as what they spell does, and then as what follows
abbrev pub Compares : {A : Type 0} → (A → Type 0) → (A → List ℕ) → (A → A → Ordering) → Type 0
Compares {A} Fits spelling R = (a b : A) (x y : List ℕ) → Fits a → Fits b
    → slice_cmp nat_cmp (spelling a ++ x) (spelling b ++ y) ≡ ordering_then (R a b) (slice_cmp nat_cmp x y)

pub same_bytes : (x y : List ℕ) → slice_cmp nat_cmp x y ≡ Equal → x ≡ y
same_bytes = slice_cmp-IsAntisymmetric nat_cmp-IsAntisymmetric

pub tied : (x y : List ℕ) → x ≡ y → slice_cmp nat_cmp x y ≡ Equal
tied x y e = ap (λ z. slice_cmp nat_cmp x z) (sym e) ∙ tied_itself nat_list_cmp_total x

pub both_equal : (a b : Ordering) → ordering_then a b ≡ Equal → (a ≡ Equal) × (b ≡ Equal)
both_equal Less b e = absurd cc
both_equal Equal b e = (refl, e)
both_equal Greater b e = absurd cc

-- no spelling begins another
pub one_form : {A : Type 0} (Fits : A → Type 0) (spelling : A → List ℕ) (R : A → A → Ordering) → Compares Fits spelling R → IsAntisymmetric R
    → (a b : A) (x y : List ℕ) → Fits a → Fits b → spelling a ++ x ≡ spelling b ++ y → (a ≡ b) × (x ≡ y)
one_form Fits spelling R compares same a b x y fa fb e =
    let both = both_equal (R a b) (slice_cmp nat_cmp x y) (sym (compares a b x y fa fb) ∙ tied (spelling a ++ x) (spelling b ++ y) e) in
    (same a b both.0, same_bytes x y both.1)
