-- How many different items a list has.
use Rattle.std.proofs.Common.{◌≡◌, ◌∙◌, ℕ, ◌+◌, ◌≤◌, Bool, true, false, not, ◌||◌, cond, List, [], ◌∷◌, refl, ap, sym, inl, inr, arith, filter, length, map, drop, get_or, ◌<◌}
use Rattle.std.specs.Bool.{Decides}
use Rattle.std.specs.List.{list_any}
use Rattle.std.specs.declared.cmp.Ordering.{Ordering}
use Rattle.std.specs.declared.cmp.Ordering.TheVariants.{Less, Equal}
use Rattle.std.specs.Ordering.{is_lt}
use Rattle.std.proofs.lemmas.Bool.{cases_Bool, and_parts, or_left, or_right, false≢true, false_from_ne_true}
use Rattle.std.proofs.lemmas.Cmp.{tied_itself}
use Rattle.std.proofs.lemmas.List.{drop_more, drop_all}
use Rattle.std.proofs.lemmas.Map.Views.{any-filter_same}
use Rattle.bdb_base.specs.SortedSet.{IsExactOrder, ascending, put_in, put_all}
use Rattle.bdb_base.specs.Bases.{distinct_count}
use Rattle.bdb_base.specs.declared.tuple.Tuple.{Tuple}
use Rattle.bdb_base.specs.Same.{same_tuple}
use Rattle.bdb_base.proofs.ListLemmas.{filter_kept_one, filter_dropped_one, list_any-filter_none, list_any_fails}
use Rattle.bdb_base.proofs.SetLemmas.{is_lt-Less, are_above, put_all_is_ascending, list_any-put_all}

pub list_any-map : {X Y : Type 0} (p : Y → Bool) (f : X → Y) (xs : List X) → list_any p (map f xs) ≡ list_any (λ x. p (f x)) xs
list_any-map p f [] = refl
list_any-map p f (x ∷ xs) = ap (λ b. p (f x) || b) (list_any-map p f xs)

-- what passes after a filter passed before
pub list_any-filter_some : {X : Type 0} (p q : X → Bool) (xs : List X) → list_any p (filter q xs) ≡ true → list_any p xs ≡ true
list_any-filter_some p q xs h = elim (cases_Bool (list_any p xs)) [
  | inl e ↦ e
  | inr e ↦ absurd (false≢true (sym (list_any-filter_none p q xs e) ∙ h))
]

-- one, unless a test passes
abbrev pub one_unless : Bool → ℕ
one_unless b = cond b 0 1

-- one, if a test passes
abbrev pub one_if : Bool → ℕ
one_if b = cond b 1 0

module _ {X : Type 0} (same : X → X → Bool) (decides : (a b : X) → Decides (same a b) (a ≡ b)) where
  abbrev without : X → List X → List X
  without x ys = filter (λ y. not (same x y)) ys

  -- an item that differs from x is in a list exactly where it is in the list without x
  others_stay : (x y : X) (ys : List X) → same x y ≡ false → list_any (same y) (without x ys) ≡ list_any (same y) ys
  others_stay x y ys n = any-filter_same (same y) (λ z. not (same x z)) true
      (λ z k. ap (λ w. not (same x w)) (sym ((decides y z).0 k)) ∙ ap not n) ys

  -- the count with x, and without it
  count_split : (x : X) (ys : List X) → distinct_count same ys ≡ cond (list_any (same x) ys) 1 0 + distinct_count same (without x ys)
  count_split x [] = refl
  count_split x (y ∷ ys) =
      let ih = count_split x ys in
      elim (cases_Bool (same x y)) [
        | inl e ↦
            let s : x ≡ y = (decides x y).0 e in
            let w : without x (y ∷ ys) ≡ without x ys = filter_dropped_one (λ z. not (same x z)) y ys (ap not e) in
            let a : one_if (same x y || list_any (same x) ys) ≡ 1 = ap (λ b. one_if (b || list_any (same x) ys)) e in
            let b : one_unless (list_any (same y) ys) ≡ one_unless (list_any (same x) ys) = ap (λ z. one_unless (list_any (same z) ys)) (sym s) in
            let c : one_unless (list_any (same x) ys) + one_if (list_any (same x) ys) ≡ 1 = one (list_any (same x) ys) in
            let d : distinct_count same (without x (y ∷ ys)) ≡ distinct_count same (without x ys) = ap (distinct_count same) w in
            omega arith
        | inr e ↦
            let w : without x (y ∷ ys) ≡ y ∷ without x ys = filter_kept_one (λ z. not (same x z)) y ys (ap not e) in
            let a : one_if (same x y || list_any (same x) ys) ≡ one_if (list_any (same x) ys) = ap (λ b. one_if (b || list_any (same x) ys)) e in
            let b : one_unless (list_any (same y) (without x ys)) ≡ one_unless (list_any (same y) ys) = ap one_unless (others_stay x y ys e) in
            let d : distinct_count same (without x (y ∷ ys)) ≡ one_unless (list_any (same y) (without x ys)) + distinct_count same (without x ys) = ap (distinct_count same) w in
            omega arith
      ]
    where
      one : (b : Bool) → one_unless b + one_if b ≡ 1
      one true = refl
      one false = refl

  -- a list whose items are all in another has no more different ones
  pub distinct_count-le : (xs ys : List X) → ((y : X) → list_any (same y) xs ≡ true → list_any (same y) ys ≡ true) → distinct_count same xs ≤ distinct_count same ys
  distinct_count-le [] ys sub = omega arith
  distinct_count-le (x ∷ xs) ys sub =
      elim (cases_Bool (list_any (same x) xs)) [
        | inl h ↦
            let a : one_unless (list_any (same x) xs) ≡ 0 = ap one_unless h in
            let ih = distinct_count-le xs ys (λ y k. sub y (or_right (same y x) (list_any (same y) xs) k)) in
            omega arith
        | inr h ↦
            let a : one_unless (list_any (same x) xs) ≡ 1 = ap one_unless h in
            let here : list_any (same x) ys ≡ true = sub x (or_left (same x x) (list_any (same x) xs) ((decides x x).1 refl)) in
            let b : one_if (list_any (same x) ys) ≡ 1 = ap one_if here in
            let d = count_split x ys in
            let ih = distinct_count-le xs (without x ys) (λ y k. others_stay x y ys (apart x y xs h k) ∙ sub y (or_right (same y x) (list_any (same y) xs) k)) in
            omega arith
      ]
    where
      apart : (x y : X) (xs : List X) → list_any (same x) xs ≡ false → list_any (same y) xs ≡ true → same x y ≡ false
      apart x y xs h k = false_from_ne_true (same x y) (λ e. false≢true (sym h ∙ ap (λ z. list_any (same z) xs) ((decides x y).0 e) ∙ k))

  -- lists with the same items have as many different ones
  pub distinct_count-same : (xs ys : List X) → ((y : X) → list_any (same y) xs ≡ list_any (same y) ys) → distinct_count same xs ≡ distinct_count same ys
  distinct_count-same xs ys e =
      let a = distinct_count-le xs ys (λ y k. sym (e y) ∙ k) in
      let b = distinct_count-le ys xs (λ y k. e y ∙ k) in
      omega arith

  -- an ascending list has no item twice
  ascending_count : {R : X → X → Ordering} → IsExactOrder R → (xs : List X) → ascending R xs ≡ true → distinct_count same xs ≡ length xs
  ascending_count {R} o [] h = refl
  ascending_count {R} o (x ∷ xs) h =
      let k = and_parts (are_above R x xs) (ascending R xs) h in
      let n : list_any (same x) xs ≡ false = list_any_fails (λ y. is_lt (R x y)) (same x)
      (λ y l. false_from_ne_true (same x y) (λ e. differ (sym (is_lt-Less (R x y) l) ∙ ap (R x) (sym ((decides x y).0 e)) ∙ tied_itself o.total x))) xs k.0 in
      let a : one_unless (list_any (same x) xs) ≡ 1 = ap one_unless n in
      let ih = ascending_count o xs k.1 in
      omega arith
    where
      differ : Less ≡ Equal → ⊥
      differ e = cc

  -- the set of a list has as many items as the list has different ones
  pub put_all_count : {R : X → X → Ordering} → IsExactOrder R → (xs : List X) → length (put_all R [] xs) ≡ distinct_count same xs
  put_all_count {R} o xs =
      sym (ascending_count o (put_all R [] xs) (put_all_is_ascending o [] xs refl))
      ∙ distinct_count-same (put_all R [] xs) xs (λ y. list_any-put_all o (same y) [] xs)

-- ---- the steps of loops that put items in

pub put_all_step : {X Y : Type 0} (R : Y → Y → Ordering) (f : X → Y) (xs : List X) (i : ℕ) (x : X) (set next all : List Y) → i < length xs → x ≡ get_or xs i x
    → next ≡ put_in R set (f x) → put_all R set (map f (drop i xs)) ≡ all → put_all R next (map f (drop (i + 1) xs)) ≡ all
put_all_step R f xs i x set next all h r e rest =
    ap (λ l. put_all R l (map f (drop (i + 1) xs))) e
    ∙ ap (λ y. put_all R set (map f (y ∷ drop (i + 1) xs))) r
    ∙ ap (λ l. put_all R set (map f l)) (sym (drop_more xs i x h)) ∙ rest

pub put_all_end : {X Y : Type 0} (R : Y → Y → Ordering) (f : X → Y) (xs : List X) (i : ℕ) (set all : List Y) → length xs ≤ i
    → put_all R set (map f (drop i xs)) ≡ all → set ≡ all
put_all_end R f xs i set all h rest = ap (λ l. put_all R set (map f l)) (sym (drop_all i xs h)) ∙ rest

pub count_within : (xs : List Tuple) → distinct_count same_tuple xs ≤ length xs
count_within [] = omega arith
count_within (x ∷ xs) = by (list_any (same_tuple x) xs) (count_within xs)
  where
    by : (b : Bool) → distinct_count same_tuple xs ≤ length xs → one_unless b + distinct_count same_tuple xs ≤ length (x ∷ xs)
    by true le = omega arith
    by false le = omega arith
