-- Lemmas on the order of places, and on places that begin alike.
use Rattle.std.proofs.Common.{◌≡◌, ℕ, true, false, List, [], ◌∷◌, refl, sym, ap, ◌∙◌, Ordering, Less, Equal, Greater, arith}
use Rattle.std.specs.Prelude.{IsTrue, nat_eq, ◌&&◌}
use Rattle.std.specs.Ordering.{is_eq, is_le, is_lt, nat_cmp, ordering_then, ordering_reverse}
use Rattle.std.specs.FinMap.{nat_cmp-IsAntisymmetric}
use Rattle.std.proofs.lemmas.Bool.{and_parts, and_from, eqb-true}
use Rattle.std.proofs.lemmas.Cmp.{nat_list_cmp_total, nat_cmp_total}
use mathlib.Core.Bool.{true≢false}
use Rattle.bdb_base.specs.Segments.{is_prefix}
use Rattle.bdb_base.proofs.Numbers.{equal}
use Rattle.bdb_keep.specs.Tables.{bytes_cmp}

-- ---- the order of places
pub le_less : (a b c : List ℕ) → IsTrue (is_le (bytes_cmp a b)) → bytes_cmp b c ≡ Less → bytes_cmp a c ≡ Less
le_less a b c h l = there (bytes_cmp a b) refl h
  where
    there : (r : Ordering) → bytes_cmp a b ≡ r → IsTrue (is_le r) → bytes_cmp a c ≡ Less
    there Less e h = nat_list_cmp_total.trans a b c e l
    there Equal e h = nat_list_cmp_total.congr a b c e ∙ l
    there Greater e h = absurd (true≢false (sym h))

pub less_le : (a b c : List ℕ) → bytes_cmp a b ≡ Less → IsTrue (is_le (bytes_cmp b c)) → bytes_cmp a c ≡ Less
less_le a b c l h = there (bytes_cmp b c) refl h
  where
    there : (r : Ordering) → bytes_cmp b c ≡ r → IsTrue (is_le r) → bytes_cmp a c ≡ Less
    there Less e h = nat_list_cmp_total.trans a b c l e
    there Equal e h =
        let back : bytes_cmp c b ≡ Equal = nat_list_cmp_total.antisymm c b ∙ ap ordering_reverse e in
        nat_list_cmp_total.antisymm a c ∙ ap ordering_reverse (nat_list_cmp_total.congr c b a back ∙ nat_list_cmp_total.antisymm b a ∙ ap ordering_reverse l)
    there Greater e h = absurd (true≢false (sym h))

pub le_from_less : (a b : List ℕ) → bytes_cmp a b ≡ Less → IsTrue (is_le (bytes_cmp a b))
le_from_less a b l = ap is_le l

-- a place that isn't below another is at it or above it
pub le_from_not_lt : (a q : List ℕ) → is_lt (bytes_cmp a q) ≡ false → IsTrue (is_le (bytes_cmp q a))
le_from_not_lt a q h = ap is_le (nat_list_cmp_total.antisymm q a) ∙ there (bytes_cmp a q) h
  where
    there : (r : Ordering) → is_lt r ≡ false → is_le (ordering_reverse r) ≡ true
    there Less h = absurd (true≢false h)
    there Equal h = refl
    there Greater h = refl

-- a place that isn't at another or below it is above it
pub less_from_not_le : (a q : List ℕ) → is_le (bytes_cmp a q) ≡ false → bytes_cmp q a ≡ Less
less_from_not_le a q h = nat_list_cmp_total.antisymm q a ∙ there (bytes_cmp a q) h
  where
    there : (r : Ordering) → is_le r ≡ false → ordering_reverse r ≡ Less
    there Less h = absurd (true≢false h)
    there Equal h = absurd (true≢false h)
    there Greater h = refl

-- a place that is at another or above it, and not at it, is above it
pub less_from_apart : (q a : List ℕ) → IsTrue (is_le (bytes_cmp q a)) → is_eq (bytes_cmp q a) ≡ false → bytes_cmp q a ≡ Less
less_from_apart q a h n = there (bytes_cmp q a) h n
  where
    there : (r : Ordering) → IsTrue (is_le r) → is_eq r ≡ false → r ≡ Less
    there Less h n = refl
    there Equal h n = absurd (true≢false n)
    there Greater h n = absurd (true≢false (sym h))

pub nat_same : (n m : ℕ) → n ≡ m → nat_eq n m ≡ true
nat_same n m e = grind arith

-- bytes that begin so aren't below
pub prefix_le : (p q : List ℕ) → is_prefix p q ≡ true → is_le (bytes_cmp p q) ≡ true
prefix_le [] [] h = refl
prefix_le [] (j ∷ q) h = refl
prefix_le (i ∷ p) [] h = absurd (true≢false (sym h))
prefix_le (i ∷ p) (j ∷ q) h =
    let both = and_parts (nat_eq i j) (is_prefix p q) h in
    let same : i ≡ j = eqb-true i j both.0 in
    ap (λ o. is_le (ordering_then o (bytes_cmp p q))) (ap (λ n. nat_cmp n j) same ∙ equal j) ∙ prefix_le p q both.1

-- what lies between a beginning and bytes that begin so begins so too
pub prefix_convex : (p k q : List ℕ) → is_prefix p q ≡ true → is_le (bytes_cmp p k) ≡ true → is_le (bytes_cmp k q) ≡ true → is_prefix p k ≡ true
prefix_convex [] k q h pk kq = refl
prefix_convex (i ∷ p) k [] h pk kq = absurd (true≢false (sym h))
prefix_convex (i ∷ p) [] (j ∷ q) h pk kq = absurd (true≢false (sym pk))
prefix_convex (i ∷ p) (m ∷ k) (j ∷ q) h pk kq = by (prefix_convex p k q both.1) (nat_cmp i m) refl pk turned
  where
    both : (nat_eq i j ≡ true) × (is_prefix p q ≡ true)
    both = and_parts (nat_eq i j) (is_prefix p q) h

    turned : is_le (ordering_then (ordering_reverse (nat_cmp i m)) (bytes_cmp k q)) ≡ true
    turned = ap (λ o. is_le (ordering_then o (bytes_cmp k q))) (sym (ap (nat_cmp m) (sym (eqb-true i j both.0)) ∙ nat_cmp_total.antisymm m i)) ∙ kq

    by : (is_le (bytes_cmp p k) ≡ true → is_le (bytes_cmp k q) ≡ true → is_prefix p k ≡ true) → (r : Ordering) → nat_cmp i m ≡ r → is_le (ordering_then r (bytes_cmp p k)) ≡ true
        → is_le (ordering_then (ordering_reverse r) (bytes_cmp k q)) ≡ true → nat_eq i m && is_prefix p k ≡ true
    by more Less e a b = absurd (true≢false (sym b))
    by more Greater e a b = absurd (true≢false (sym a))
    by more Equal e a b = and_from (nat_eq i m) (is_prefix p k) (nat_same i m (nat_cmp-IsAntisymmetric i m e)) (more a b)

pub less_not_le : (a b : List ℕ) → bytes_cmp a b ≡ Less → is_le (bytes_cmp b a) ≡ false
less_not_le a b l = ap is_le (nat_list_cmp_total.antisymm b a ∙ ap ordering_reverse l)
