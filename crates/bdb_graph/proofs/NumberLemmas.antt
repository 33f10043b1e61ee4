-- Items in the order of their numbers.
use Rattle.std.proofs.Common.{◌≡◌, ◌∙◌, ℕ, zero, suc, ◌+◌, ◌≤◌, ◌<◌, Bool, true, false, nat_eq, List, [], ◌∷◌, length, map, take, drop, get_or, slice_get, Some, ap, sym, subst, arith}
use Rattle.std.specs.List.{list_all}
use Rattle.std.specs.declared.cmp.Ordering.TheVariants.{Less, Equal, Greater}
use Rattle.std.specs.Ordering.{is_eq, is_lt, nat_cmp}
use Rattle.std.proofs.lemmas.Bool.{and_parts}
use Rattle.std.proofs.lemmas.Bool.Decides.{nat_tests}
use Rattle.std.proofs.lemmas.Cmp.{nat_cmp_total}
use Rattle.std.proofs.lemmas.List.{get_or-map, length-map}
use Rattle.bdb_base.specs.SortedSet.{IsExactOrder, ascending}
use Rattle.bdb_base.proofs.SetLemmas.{search_up, search_down, search_found}
use Rattle.bdb_base.proofs.Numbers.{same_number}

pub nat_exact : IsExactOrder nat_cmp
nat_exact = record { total = nat_cmp_total; exact = λ x y e. same_number x y (ap is_eq e) }

-- ---- the search

module _ {X : Type 0} (f : X → ℕ) (xs : List X) (n : ℕ) where
  pub as_many : (k : ℕ) → k ≤ length xs → k ≤ length (map f xs)
  as_many k l = subst (λ m. k ≤ m) (sym (length-map xs f)) l

  module _ (m : ℕ) (x : X) (l : m < length xs) (is : x ≡ get_or xs m x) where
    within : m < length (map f xs)
    within = subst (λ k. m < k) (sym (length-map xs f)) l

    here : f x ≡ get_or (map f xs) m (f x)
    here = ap f is ∙ sym (get_or-map f xs m x (f x) l)

    pub number_above : ascending nat_cmp (map f xs) ≡ true → Less ≡ nat_cmp (f x) n → list_all (λ y. is_lt (nat_cmp y n)) (take (m + 1) (map f xs)) ≡ true
    number_above sorted e = search_up nat_exact (map f xs) n (f x) m sorted within here e

    pub number_below : ascending nat_cmp (map f xs) ≡ true → Greater ≡ nat_cmp (f x) n → list_all (λ y. is_lt (nat_cmp n y)) (drop m (map f xs)) ≡ true
    number_below sorted e = search_down nat_exact (map f xs) n (f x) m sorted within here e

    pub number_found : Equal ≡ nat_cmp (f x) n → slice_get (map f xs) m ≡ Some n
    number_found e = search_found nat_exact (map f xs) n (f x) m within here e

-- ---- numbers in order

pub lt_differs : (m n : ℕ) → is_lt (nat_cmp m n) ≡ true → nat_eq n m ≡ false
lt_differs m n e = grind (arith, nat_tests)

-- what holds of each number holds of the one at a place
pub all_at : (p : ℕ → Bool) (xs : List ℕ) (at n : ℕ) → list_all p xs ≡ true → slice_get xs at ≡ Some n → p n ≡ true
all_at p [] at n h e = absurd cc
all_at p (x ∷ xs) zero n h e = let s : x ≡ n = cc in ap p (sym s) ∙ (and_parts (p x) (list_all p xs) h).0
all_at p (x ∷ xs) (suc at) n h e = all_at p xs at n (and_parts (p x) (list_all p xs) h).1 e
