-- Tests of all and of some items, and what a filter leaves.
use Rattle.std.proofs.Common.{◌≡◌, ◌∙◌, ℕ, Bool, true, false, ◌||◌, List, [], ◌∷◌, refl, ap, sym, inl, inr, suc, Some, filter, length, ◌≤◌, arith, ◌&&◌, cond, ◌++◌, map, take, drop}
use Prim.Native.Nat.{zero}
use Rattle.std.specs.List.{list_any, list_all, slice_get}
use Rattle.std.proofs.lemmas.Bool.{cases_Bool, and_parts, and_from, or_parts, or_from, cond-true, cond-false}
use Rattle.std.proofs.lemmas.List.Folds.{list_all-append}
use Rattle.bdb_base.proofs.OptionLemmas.{none_is_some, same_some}

pub list_all_weaker : {X : Type 0} (p q : X → Bool) → ((x : X) → p x ≡ true → q x ≡ true) → (xs : List X) → list_all p xs ≡ true → list_all q xs ≡ true
list_all_weaker p q w [] h = refl
list_all_weaker p q w (x ∷ xs) h =
    let k = and_parts (p x) (list_all p xs) h in
    and_from (q x) (list_all q xs) (w x k.0) (list_all_weaker p q w xs k.1)

pub list_all_both : {X : Type 0} (p q r : X → Bool) → ((x : X) → p x ≡ true → q x ≡ true → r x ≡ true) → (xs : List X) → list_all p xs ≡ true → list_all q xs ≡ true → list_all r xs ≡ true
list_all_both p q r w [] h g = refl
list_all_both p q r w (x ∷ xs) h g =
    let k = and_parts (p x) (list_all p xs) h in
    let m = and_parts (q x) (list_all q xs) g in
    and_from (r x) (list_all r xs) (w x k.0 m.0) (list_all_both p q r w xs k.1 m.1)

-- where some test fails at each item, no item passes it
pub list_any_fails : {X : Type 0} (p q : X → Bool) → ((x : X) → p x ≡ true → q x ≡ false) → (xs : List X) → list_all p xs ≡ true → list_any q xs ≡ false
list_any_fails p q w [] h = refl
list_any_fails p q w (x ∷ xs) h =
    let k = and_parts (p x) (list_all p xs) h in
    or_from (q x) (list_any q xs) (w x k.0) (list_any_fails p q w xs k.1)

-- where no item passes a test, each fails it
pub list_all_from_none : {X : Type 0} (p q : X → Bool) → ((x : X) → p x ≡ false → q x ≡ true) → (xs : List X) → list_any p xs ≡ false → list_all q xs ≡ true
list_all_from_none p q w [] h = refl
list_all_from_none p q w (x ∷ xs) h =
    let k = or_parts (p x) (list_any p xs) h in
    and_from (q x) (list_all q xs) (w x k.0) (list_all_from_none p q w xs k.1)

-- an item at a place passes what all items pass
pub list_all_get : {X : Type 0} (p : X → Bool) (xs : List X) (at : ℕ) (x : X) → list_all p xs ≡ true → slice_get xs at ≡ Some x → p x ≡ true
list_all_get p [] at x h e = cc
list_all_get p (y ∷ ys) zero x h e =
    let k = and_parts (p y) (list_all p ys) h in
    let s : y ≡ x = cc in
    ap p (sym s) ∙ k.0
list_all_get p (y ∷ ys) (suc at) x h e = list_all_get p ys at x (and_parts (p y) (list_all p ys) h).1 e

pub filter_kept_one : {X : Type 0} (q : X → Bool) (x : X) (xs : List X) → q x ≡ true → filter q (x ∷ xs) ≡ x ∷ filter q xs
filter_kept_one q x xs e = cond-true (q x) (x ∷ filter q xs) (filter q xs) e

pub filter_dropped_one : {X : Type 0} (q : X → Bool) (x : X) (xs : List X) → q x ≡ false → filter q (x ∷ xs) ≡ filter q xs
filter_dropped_one q x xs e = cond-false (q x) (x ∷ filter q xs) (filter q xs) e

pub list_all-filter : {X : Type 0} (p q : X → Bool) (xs : List X) → list_all p xs ≡ true → list_all p (filter q xs) ≡ true
list_all-filter p q [] h = refl
list_all-filter p q (x ∷ xs) h =
    let k = and_parts (p x) (list_all p xs) h in
    elim (cases_Bool (q x)) [
      | inl e ↦ ap (list_all p) (filter_kept_one q x xs e) ∙ and_from (p x) (list_all p (filter q xs)) k.0 (list_all-filter p q xs k.1)
      | inr e ↦ ap (list_all p) (filter_dropped_one q x xs e) ∙ list_all-filter p q xs k.1
    ]

-- a filter that each item passes changes nothing
pub filter_all : {X : Type 0} (q : X → Bool) (xs : List X) → list_all q xs ≡ true → filter q xs ≡ xs
filter_all q [] h = refl
filter_all q (x ∷ xs) h =
    let k = and_parts (q x) (list_all q xs) h in
    filter_kept_one q x xs k.0 ∙ ap (λ ys. x ∷ ys) (filter_all q xs k.1)

-- what a filter leaves passes no test that failed before
pub list_any-filter_none : {X : Type 0} (p q : X → Bool) (xs : List X) → list_any p xs ≡ false → list_any p (filter q xs) ≡ false
list_any-filter_none p q [] h = refl
list_any-filter_none p q (x ∷ xs) h =
    let k = or_parts (p x) (list_any p xs) h in
    elim (cases_Bool (q x)) [
      | inl e ↦ ap (list_any p) (filter_kept_one q x xs e) ∙ or_from (p x) (list_any p (filter q xs)) k.0 (list_any-filter_none p q xs k.1)
      | inr e ↦ ap (list_any p) (filter_dropped_one q x xs e) ∙ list_any-filter_none p q xs k.1
    ]

pub length-filter_le : {X : Type 0} (q : X → Bool) (xs : List X) → length (filter q xs) ≤ length xs
length-filter_le q [] = omega arith
length-filter_le q (x ∷ xs) =
    let k = length-filter_le q xs in
    elim (cases_Bool (q x)) [
      | inl e ↦ let d = ap length (filter_kept_one q x xs e) in omega arith
      | inr e ↦ let d = ap length (filter_dropped_one q x xs e) in omega arith
    ]

pub or_swap : (a b c : Bool) → (a || (b || c)) ≡ (b || (a || c))
or_swap true true c = refl
or_swap true false c = refl
or_swap false b c = refl

pub or_twice : (a b : Bool) → (a || b) ≡ (a || (a || b))
or_twice true b = refl
or_twice false b = refl

pub or_false : (a : Bool) → (a || false) ≡ a
or_false true = refl
or_false false = refl

pub or_move : (a b c : Bool) → ((a || b) || c) ≡ (b || (a || c))
or_move true true c = refl
or_move true false c = refl
or_move false b c = refl

-- tests that agree at each item
pub list_all_same : {X : Type 0} (p q : X → Bool) → ((x : X) → p x ≡ q x) → (xs : List X) → list_all p xs ≡ list_all q xs
list_all_same p q h [] = refl
list_all_same p q h (x ∷ xs) = ap (λ b. b && list_all p xs) (h x) ∙ ap (λ b. q x && b) (list_all_same p q h xs)

pub list_any_same : {X : Type 0} (p q : X → Bool) → ((x : X) → p x ≡ q x) → (xs : List X) → list_any p xs ≡ list_any q xs
list_any_same p q h [] = refl
list_any_same p q h (x ∷ xs) = ap (λ b. b || list_any p xs) (h x) ∙ ap (λ b. q x || b) (list_any_same p q h xs)

pub filter_same : {X : Type 0} (p q : X → Bool) → ((x : X) → p x ≡ q x) → (xs : List X) → filter p xs ≡ filter q xs
filter_same p q h [] = refl
filter_same p q h (x ∷ xs) = ap (λ b. cond b (x ∷ filter p xs) (filter p xs)) (h x) ∙ ap (λ ys. cond (q x) (x ∷ ys) ys) (filter_same p q h xs)

-- a part of a test that no item decides
pub list_any_under : {X : Type 0} (a : Bool) (p : X → Bool) (xs : List X) → list_any (λ x. a && p x) xs ≡ (a && list_any p xs)
list_any_under true p xs = refl
list_any_under false p [] = refl
list_any_under false p (x ∷ xs) = list_any_under false p xs

pub list_all_each : {X : Type 0} (p : X → Bool) → ((x : X) → p x ≡ true) → (xs : List X) → list_all p xs ≡ true
list_all_each p h [] = refl
list_all_each p h (x ∷ xs) = and_from (p x) (list_all p xs) (h x) (list_all_each p h xs)

pub filter_push : {X : Type 0} (p : X → Bool) (xs : List X) (x : X) → filter p (xs ++ x ∷ []) ≡ filter p xs ++ cond (p x) (x ∷ []) []
filter_push p [] x = refl
filter_push p (y ∷ xs) x = by (p y) (filter_push p xs x)
  where
    by : (b : Bool) → filter p (xs ++ x ∷ []) ≡ filter p xs ++ cond (p x) (x ∷ []) []
        → cond b (y ∷ filter p (xs ++ x ∷ [])) (filter p (xs ++ x ∷ [])) ≡ cond b (y ∷ filter p xs) (filter p xs) ++ cond (p x) (x ∷ []) []
    by true e = ap (λ ys. y ∷ ys) e
    by false e = e

pub list_all_push : {X : Type 0} (p : X → Bool) (xs : List X) (x : X) → list_all p xs ≡ true → p x ≡ true → list_all p (xs ++ x ∷ []) ≡ true
list_all_push p xs x h e = list_all-append p xs (x ∷ []) ∙ and_from (list_all p xs) (p x && true) h (and_from (p x) true e refl)

pub length_map : {X Y : Type 0} (f : X → Y) (xs : List X) → length (map f xs) ≡ length xs
length_map f [] = refl
length_map f (x ∷ xs) = ap suc (length_map f xs)

pub take_short : {X : Type 0} (n : ℕ) (xs : List X) → length (take n xs) ≤ n
take_short zero xs = omega arith
take_short (suc n) [] = omega arith
take_short (suc n) (x ∷ xs) = let l = take_short n xs in omega (arith, l)

-- what is there begins what is left from there on
pub drop_there : {X : Type 0} (xs : List X) (i : ℕ) (x : X) → slice_get xs i ≡ Some x → drop i xs ≡ x ∷ drop (suc i) xs
drop_there [] i x e = absurd (none_is_some x e)
drop_there (y ∷ xs) zero x e = ap (λ z. z ∷ xs) (same_some y x e)
drop_there (y ∷ xs) (suc i) x e = drop_there xs i x e
