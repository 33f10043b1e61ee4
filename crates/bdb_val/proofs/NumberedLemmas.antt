-- Marks found by binary search where the numbers of rows rise.
use Rattle.std.proofs.Common.{◌≡◌, ◌∙◌, ℕ, suc, ◌+◌, ◌<◌, ◌≤◌, nat_eq, List, [], ◌∷◌, length, get_or, Some, None, cond, inl, inr, refl, ap, sym, subst, arith}
use Prim.Native.Nat.{zero}
use Rattle.std.proofs.lemmas.Bool.{cases_lt, cond-true, cond-false, eqb-true, eq-eqb, false_from_ne_true}
use Rattle.bdb_tables.specs.Marks.{Mark}
use Rattle.bdb_val.specs.GroupChanges.{mark_under}
use Rattle.bdb_val.specs.Numbered.{AreRising}

-- a row of a group, by the number of its tuple
abbrev pub Entry : Type 0
Entry = ℕ × Mark

-- each of the first rows has a number below the next one's
abbrev pub RiseTo : List Entry → ℕ → Type 0
RiseTo xs n = (k : ℕ) (d : Entry) → k + 1 < n → (get_or xs k d).0 < (get_or xs (k + 1) d).0

-- the first rows have numbers below one
abbrev pub AreBelow : List Entry → ℕ → ℕ → Type 0
AreBelow xs tid low = (j : ℕ) (d : Entry) → j < low → (get_or xs j d).0 < tid

-- the rows from a place on have numbers above one
abbrev pub AreAbove : List Entry → ℕ → ℕ → Type 0
AreAbove xs tid high = (j : ℕ) (d : Entry) → high ≤ j → j < length xs → tid < (get_or xs j d).0

-- rows of which each has a number below the next one's rise
pub rise : (xs : List Entry) (n : ℕ) → length xs ≤ n → RiseTo xs n → AreRising xs
rise xs n all h i zero d lt within = absurd (omega arith)
rise xs n all h i (suc j) d lt within =
    let next : (get_or xs j d).0 < (get_or xs (suc j) d).0 = subst (λ (k : ℕ). (get_or xs j d).0 < (get_or xs k d).0) (omega arith) (h j d (omega (arith, within, all))) in
    elim (cases_lt i j) [
      | inl less ↦ let a = rise xs n all h i j d less (omega (arith, within)) in omega (arith, a, next)
      | inr ge ↦
          let same : j ≡ i = omega (arith, ge, lt) in
          subst (λ (k : ℕ). (get_or xs k d).0 < (get_or xs (suc j) d).0) same next
    ]

-- the row at a place, whatever stands for one past the end
at_place : (ys : List Entry) (i : ℕ) (y d : Entry) → i < length ys → y ≡ get_or ys i y → (get_or ys i d).0 ≡ y.0
at_place [] i y d lt e = absurd (omega arith)
at_place (z ∷ zs) zero y d lt e = ap (λ (v : Entry). v.0) (sym e)
at_place (z ∷ zs) (suc i) y d lt e = at_place zs i y d (omega arith) e

-- the row at a place is one and the same, whatever stands for one past the end
pub one_place : (ys : List Entry) (i : ℕ) (d e : Entry) → i < length ys → get_or ys i d ≡ get_or ys i e
one_place [] i d e lt = absurd (omega arith)
one_place (z ∷ zs) zero d e lt = refl
one_place (z ∷ zs) (suc i) d e lt = one_place zs i d e (omega arith)

-- the row at a place is the one that is found
pub mark_at : (xs : List Entry) (i : ℕ) (x : Entry) (tid : ℕ) → AreRising xs → i < length xs → x ≡ get_or xs i x → x.0 ≡ tid → mark_under xs tid ≡ Some x.1
mark_at [] i x tid r lt e s = absurd (omega arith)
mark_at (y ∷ ys) zero x tid r lt e s =
    ap (λ (z : Entry). cond (nat_eq z.0 tid) (Some z.1) (mark_under ys tid)) (sym e) ∙ cond-true (nat_eq x.0 tid) (Some x.1) (mark_under ys tid) (eq-eqb x.0 tid s)
mark_at (y ∷ ys) (suc i) x tid r lt e s =
    let less : y.0 < (get_or ys i x).0 = r 0 (suc i) x (omega arith) lt in
    let same : (get_or ys i x).0 ≡ tid = ap (λ (z : Entry). z.0) (sym e) ∙ s in
    cond-false (nat_eq y.0 tid) (Some y.1) (mark_under ys tid)
    (false_from_ne_true (nat_eq y.0 tid) (λ c. let one = eqb-true y.0 tid c in absurd (omega (arith, less, same, one))))
    ∙ mark_at ys i x tid (λ j k d p q. r (suc j) (suc k) d (omega arith) (omega arith)) (omega arith) e s

-- where each row's number is another, there is no mark
pub no_mark : (xs : List Entry) (tid : ℕ) → ((j : ℕ) (d : Entry) → j < length xs → (get_or xs j d).0 ≡ tid → ⊥) → mark_under xs tid ≡ None
no_mark [] tid h = refl
no_mark (x ∷ xs) tid h =
    cond-false (nat_eq x.0 tid) (Some x.1) (mark_under xs tid) (false_from_ne_true (nat_eq x.0 tid) (λ c. h 0 x (omega arith) (eqb-true x.0 tid c)))
    ∙ no_mark xs tid (λ j d lt. h (suc j) d (omega arith))

-- all rows have numbers below or above
pub halved : (xs : List Entry) (tid low high : ℕ) → high ≤ low → AreBelow xs tid low → AreAbove xs tid high → mark_under xs tid ≡ None
halved xs tid low high le below above = no_mark xs tid (λ j d lt e. elim (cases_lt j low) [
  | inl less ↦ let a = below j d less in absurd (omega (arith, a, e))
  | inr ge ↦ let a = above j d (omega (arith, le, ge)) lt in absurd (omega (arith, a, e))
])

-- what the row in the middle tells of those before and behind it
pub below_middle : (xs : List Entry) (mid : ℕ) (x : Entry) (tid : ℕ) → AreRising xs → mid < length xs → x ≡ get_or xs mid x → x.0 < tid → AreBelow xs tid (mid + 1)
below_middle xs mid x tid r lt e less j d within = elim (cases_lt j mid) [
  | inl before ↦ let a = r j mid d before lt in let b = at_place xs mid x d lt e in omega (arith, a, b, less)
  | inr ge ↦
      let same : j ≡ mid = omega (arith, ge, within) in
      let b = at_place xs mid x d lt e in
      subst (λ (n : ℕ). (get_or xs n d).0 < tid) (sym same) (omega (arith, b, less))
]

pub above_middle : (xs : List Entry) (mid : ℕ) (x : Entry) (tid : ℕ) → AreRising xs → mid < length xs → x ≡ get_or xs mid x → tid < x.0 → AreAbove xs tid mid
above_middle xs mid x tid r lt e less j d from within = elim (cases_lt mid j) [
  | inl behind ↦ let a = r mid j d behind within in let b = at_place xs mid x d lt e in omega (arith, a, b, less)
  | inr ge ↦
      let same : j ≡ mid = omega (arith, ge, from) in
      let b = at_place xs mid x d lt e in
      subst (λ (n : ℕ). tid < (get_or xs n d).0) (sym same) (omega (arith, b, less))
]
