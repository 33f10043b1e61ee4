-- Finite sets as lists in strict order.
use Rattle.std.proofs.Common.{◌≡◌, ◌∙◌, ℕ, ◌+◌, ◌<◌, Bool, true, false, not, ◌&&◌, ◌||◌, ◌⊎◌, List, [], ◌∷◌, ◌++◌, refl, ap, sym, inl, inr, suc, Some, filter, length, take, drop, get_or, insert, remove}
use Prim.Native.Nat.{zero}
use Rattle.std.specs.List.{list_any, list_all, slice_get}
use Rattle.std.specs.declared.cmp.Ordering.{Ordering}
use Rattle.std.specs.declared.cmp.Ordering.TheVariants.{Less, Equal, Greater}
use Rattle.std.specs.Ordering.{is_eq, is_lt, ordering_reverse}
use Rattle.std.proofs.lemmas.Bool.{cases_Bool, and_parts, and_from, or_from, false≢true, not_from_true, not_from_false}
use Rattle.std.proofs.lemmas.Cmp.{tied_itself}
use Rattle.std.proofs.lemmas.List.{take-append-drop, take_more}
use Rattle.std.proofs.lemmas.List.Folds.{list_any-append, list_all-append}
use Rattle.std.proofs.lemmas.Map.Views.{any-filter_same}
use Rattle.std.proofs.lemmas.Option.{slice_get_read}
use Rattle.std.proofs.Math.Seq.{drop-cons}
use Rattle.bdb_base.specs.SortedSet.{IsExactOrder, BelongsAt, is_member, ascending, put_at, put_in, taken_out, sorted_set, put_all}
use Rattle.bdb_base.specs.SetLaws.{MembersMakeSet, PutKeepsOrder, TakeKeepsOrder, PutAddsMember, TakeDropsMember, SetIsAscending, SetKeepsMembers, LoopMakesSet}
use Rattle.bdb_base.proofs.ListLemmas.{list_all_weaker, list_any_fails, list_all_from_none, list_all_get, filter_kept_one, filter_dropped_one, list_all-filter, filter_all, or_swap, or_twice, or_false, or_move}
use Rattle.bdb_base.proofs.BoolLemmas.{or_true}

pub is_lt-Less : (r : Ordering) → is_lt r ≡ true → r ≡ Less
is_lt-Less Less h = refl
is_lt-Less Equal h = absurd (false≢true h)
is_lt-Less Greater h = absurd (false≢true h)

pub is_eq-Equal : (r : Ordering) → is_eq r ≡ true → r ≡ Equal
is_eq-Equal Less h = absurd (false≢true h)
is_eq-Equal Equal h = refl
is_eq-Equal Greater h = absurd (false≢true h)

pub cases_Ordering : (r : Ordering) → (r ≡ Less) ⊎ ((r ≡ Equal) ⊎ (r ≡ Greater))
cases_Ordering Less = inl refl
cases_Ordering Equal = inr (inl refl)
cases_Ordering Greater = inr (inr refl)

-- each item is below x
abbrev pub are_below : {X : Type 0} → (X → X → Ordering) → X → List X → Bool
are_below R x ys = list_all (λ y. is_lt (R y x)) ys

-- each item is above x
abbrev pub are_above : {X : Type 0} → (X → X → Ordering) → X → List X → Bool
are_above R x ys = list_all (λ y. is_lt (R x y)) ys

-- x stands at a place, what is before it is below it, and what is after it is above it
pub record StandsAt {X : Type 0} (R : X → X → Ordering) (xs : List X) (x : X) (at : ℕ) : Type 0 where
  pub split : xs ≡ take at xs ++ x ∷ drop (suc at) xs
  pub below : are_below R x (take at xs) ≡ true
  pub above : are_above R x (drop (suc at) xs) ≡ true

module _ {X : Type 0} {R : X → X → Ordering} (o : IsExactOrder R) where
  pub greater_from_less : (x y : X) → R x y ≡ Less → R y x ≡ Greater
  greater_from_less x y e = o.total.antisymm y x ∙ ap ordering_reverse e

  pub less_from_greater : (x y : X) → R x y ≡ Greater → R y x ≡ Less
  less_from_greater x y e = o.total.antisymm y x ∙ ap ordering_reverse e

  pub is_eq_turned : (x y : X) → is_eq (R x y) ≡ is_eq (R y x)
  is_eq_turned x y = ap is_eq (o.total.antisymm x y) ∙ by (R y x)
    where
      by : (r : Ordering) → is_eq (ordering_reverse r) ≡ is_eq r
      by Less = refl
      by Equal = refl
      by Greater = refl

  pub is_eq_itself : (x : X) → is_eq (R x x) ≡ true
  is_eq_itself x = ap is_eq (tied_itself o.total x)

  pub above_weaker : (x y : X) (zs : List X) → R x y ≡ Less → are_above R y zs ≡ true → are_above R x zs ≡ true
  above_weaker x y zs e h = list_all_weaker (λ z. is_lt (R y z)) (λ z. is_lt (R x z)) (λ z k. ap is_lt (o.total.trans x y z e (is_lt-Less (R y z) k))) zs h

  pub below_weaker : (x y : X) (zs : List X) → R y x ≡ Less → are_below R y zs ≡ true → are_below R x zs ≡ true
  below_weaker x y zs e h = list_all_weaker (λ z. is_lt (R z y)) (λ z. is_lt (R z x)) (λ z k. ap is_lt (o.total.trans z y x (is_lt-Less (R z y) k) e)) zs h

  pub absent_above : (x : X) (xs : List X) → are_above R x xs ≡ true → is_member R xs x ≡ false
  absent_above x xs h = list_any_fails (λ y. is_lt (R x y)) (λ y. is_eq (R y x)) (λ y k. ap is_eq (greater_from_less x y (is_lt-Less (R x y) k))) xs h

  pub absent_below : (x : X) (xs : List X) → are_below R x xs ≡ true → is_member R xs x ≡ false
  absent_below x xs h = list_any_fails (λ y. is_lt (R y x)) (λ y. is_eq (R y x)) (λ y k. ap is_eq (is_lt-Less (R y x) k)) xs h

  put_in_on : (x y : X) (ys : List X) (r : Ordering) → R y x ≡ r → put_in R (y ∷ ys) x ≡ put_at r y ys x (put_in R ys x)
  put_in_on x y ys r e = ap (λ s. put_at s y ys x (put_in R ys x)) e

  pub list_any-put_in : (p : X → Bool) (xs : List X) (x : X) → list_any p (put_in R xs x) ≡ (p x || list_any p xs)
  list_any-put_in p [] x = refl
  list_any-put_in p (y ∷ ys) x = elim (cases_Ordering (R y x)) [
    | inl e ↦ ap (list_any p) (put_in_on x y ys Less e) ∙ ap (λ b. p y || b) (list_any-put_in p ys x) ∙ or_swap (p y) (p x) (list_any p ys)
    | inr (inl e) ↦ ap (list_any p) (put_in_on x y ys Equal e) ∙ or_twice (p y) (list_any p ys) ∙ ap (λ z. p z || (p y || list_any p ys)) (o.exact y x e)
    | inr (inr e) ↦ ap (list_any p) (put_in_on x y ys Greater e)
  ]

  pub list_all-put_in : (p : X → Bool) (xs : List X) (x : X) → list_all p xs ≡ true → p x ≡ true → list_all p (put_in R xs x) ≡ true
  list_all-put_in p [] x h g = and_from (p x) true g refl
  list_all-put_in p (y ∷ ys) x h g =
      let k = and_parts (p y) (list_all p ys) h in
      elim (cases_Ordering (R y x)) [
        | inl e ↦ ap (list_all p) (put_in_on x y ys Less e) ∙ and_from (p y) (list_all p (put_in R ys x)) k.0 (list_all-put_in p ys x k.1 g)
        | inr (inl e) ↦ ap (list_all p) (put_in_on x y ys Equal e) ∙ h
        | inr (inr e) ↦ ap (list_all p) (put_in_on x y ys Greater e) ∙ and_from (p x) (p y && list_all p ys) g h
      ]

  pub put_keeps_order : PutKeepsOrder R
  put_keeps_order [] x h = refl
  put_keeps_order (y ∷ ys) x h =
      let k = and_parts (are_above R y ys) (ascending R ys) h in
      elim (cases_Ordering (R y x)) [
        | inl e ↦ ap (ascending R) (put_in_on x y ys Less e)
            ∙ and_from (are_above R y (put_in R ys x)) (ascending R (put_in R ys x)) (list_all-put_in (λ z. is_lt (R y z)) ys x k.0 (ap is_lt e)) (put_keeps_order ys x k.1)
        | inr (inl e) ↦ ap (ascending R) (put_in_on x y ys Equal e) ∙ h
        | inr (inr e) ↦ let less : R x y ≡ Less = less_from_greater y x e in
            ap (ascending R) (put_in_on x y ys Greater e)
            ∙ and_from (are_above R x (y ∷ ys)) (ascending R (y ∷ ys)) (and_from (is_lt (R x y)) (are_above R x ys) (ap is_lt less) (above_weaker x y ys less k.0)) h
      ]

  pub filter_keeps_order : (q : X → Bool) (xs : List X) → ascending R xs ≡ true → ascending R (filter q xs) ≡ true
  filter_keeps_order q [] h = refl
  filter_keeps_order q (y ∷ ys) h =
      let k = and_parts (are_above R y ys) (ascending R ys) h in
      elim (cases_Bool (q y)) [
        | inl e ↦ ap (ascending R) (filter_kept_one q y ys e)
            ∙ and_from (are_above R y (filter q ys)) (ascending R (filter q ys)) (list_all-filter (λ z. is_lt (R y z)) q ys k.0) (filter_keeps_order q ys k.1)
        | inr e ↦ ap (ascending R) (filter_dropped_one q y ys e) ∙ filter_keeps_order q ys k.1
      ]

  pub take_keeps_order : TakeKeepsOrder R
  take_keeps_order xs x h = filter_keeps_order (λ y. not (is_eq (R y x))) xs h

  pub put_adds_member : PutAddsMember R
  put_adds_member xs x z = list_any-put_in (λ y. is_eq (R y z)) xs x

  pub take_drops_member : TakeDropsMember R
  take_drops_member xs x z = any-filter_same (λ y. is_eq (R y z)) (λ y. not (is_eq (R y x))) (not (is_eq (R x z)))
      (λ y k. ap (λ w. not (is_eq (R w x))) (o.exact y z (is_eq-Equal (R y z) k)) ∙ ap not (is_eq_turned z x)) xs

  -- the first item of an ascending list is among the items of no list that begins above it
  pub members_make_set : MembersMakeSet R
  members_make_set [] [] h g m = refl
  members_make_set [] (y ∷ ys) h g m = absurd (false≢true (m y ∙ ap (λ b. b || is_member R ys y) (is_eq_itself y)))
  members_make_set (x ∷ xs) [] h g m = absurd (false≢true (sym (m x) ∙ ap (λ b. b || is_member R xs x) (is_eq_itself x)))
  members_make_set (x ∷ xs) (y ∷ ys) h g m =
      let k = and_parts (are_above R x xs) (ascending R xs) h in
      let l = and_parts (are_above R y ys) (ascending R ys) g in
      elim (cases_Ordering (R x y)) [
        | inl e ↦ absurd (false≢true (sym (or_from (is_eq (R y x)) (is_member R ys x) (ap is_eq (greater_from_less x y e)) (absent_above x ys (above_weaker x y ys e l.0)))
            ∙ sym (m x) ∙ ap (λ b. b || is_member R xs x) (is_eq_itself x)))
        | inr (inl e) ↦ let s : x ≡ y = o.exact x y e in
            ap (λ z. z ∷ xs) s ∙ ap (λ zs. y ∷ zs) (members_make_set xs ys k.1 l.1 (same_rest x y xs ys s k.0 l.0 m))
        | inr (inr e) ↦ let less : R y x ≡ Less = less_from_greater x y e in
            absurd (false≢true (sym (or_from (is_eq (R x y)) (is_member R xs y) (ap is_eq e) (absent_above y xs (above_weaker y x xs less k.0)))
            ∙ m y ∙ ap (λ b. b || is_member R ys y) (is_eq_itself y)))
      ]
    where
      same_rest : (x y : X) (xs ys : List X) → x ≡ y → are_above R x xs ≡ true → are_above R y ys ≡ true
          → ((z : X) → is_member R (x ∷ xs) z ≡ is_member R (y ∷ ys) z) → (z : X) → is_member R xs z ≡ is_member R ys z
      same_rest x y xs ys s a b m z = elim (cases_Bool (is_eq (R x z))) [
        | inl e ↦ let q : x ≡ z = o.exact x z (is_eq-Equal (R x z) e) in
            ap (is_member R xs) (sym q) ∙ absent_above x xs a ∙ sym (absent_above y ys b) ∙ ap (is_member R ys) (sym s ∙ q)
        | inr e ↦ ap (λ t. t || is_member R xs z) (sym e) ∙ m z ∙ ap (λ t. t || is_member R ys z) (ap (λ w. is_eq (R w z)) (sym s) ∙ e)
      ]

  pub list_any-sorted_set : (p : X → Bool) (xs : List X) → list_any p (sorted_set R xs) ≡ list_any p xs
  list_any-sorted_set p [] = refl
  list_any-sorted_set p (x ∷ xs) = list_any-put_in p (sorted_set R xs) x ∙ ap (λ b. p x || b) (list_any-sorted_set p xs)

  pub set_is_ascending : SetIsAscending R
  set_is_ascending [] = refl
  set_is_ascending (x ∷ xs) = put_keeps_order (sorted_set R xs) x (set_is_ascending xs)

  pub set_keeps_members : SetKeepsMembers R
  set_keeps_members xs z = list_any-sorted_set (λ y. is_eq (R y z)) xs

  pub put_all_is_ascending : (xs ys : List X) → ascending R xs ≡ true → ascending R (put_all R xs ys) ≡ true
  put_all_is_ascending xs [] h = h
  put_all_is_ascending xs (y ∷ ys) h = put_all_is_ascending (put_in R xs y) ys (put_keeps_order xs y h)

  pub list_any-put_all : (p : X → Bool) (xs ys : List X) → list_any p (put_all R xs ys) ≡ (list_any p xs || list_any p ys)
  list_any-put_all p xs [] = sym (or_false (list_any p xs))
  list_any-put_all p xs (y ∷ ys) = list_any-put_all p (put_in R xs y) ys ∙ ap (λ b. b || list_any p ys) (list_any-put_in p xs y) ∙ or_move (p y) (list_any p xs) (list_any p ys)

  pub loop_makes_set : LoopMakesSet R
  loop_makes_set xs = members_make_set (put_all R [] xs) (sorted_set R xs) (put_all_is_ascending [] xs refl) (set_is_ascending xs)
      (λ z. list_any-put_all (λ y. is_eq (R y z)) [] xs ∙ sym (set_keeps_members xs z))

  -- ---- places

  -- an item put between what is below it and what is above it stands there
  put_between : (x : X) (front back : List X) → are_below R x front ≡ true → are_above R x back ≡ true → put_in R (front ++ back) x ≡ front ++ x ∷ back
  put_between x [] [] h g = refl
  put_between x [] (y ∷ ys) h g = put_in_on x y ys Greater (greater_from_less x y (is_lt-Less (R x y) (and_parts (is_lt (R x y)) (are_above R x ys) g).0))
  put_between x (y ∷ ys) back h g =
      let k = and_parts (is_lt (R y x)) (are_below R x ys) h in
      put_in_on x y (ys ++ back) Less (is_lt-Less (R y x) k.0) ∙ ap (λ zs. y ∷ zs) (put_between x ys back k.1 g)

  put_onto : (x : X) (front back : List X) → are_below R x front ≡ true → put_in R (front ++ x ∷ back) x ≡ front ++ x ∷ back
  put_onto x [] back h = put_in_on x x back Equal (tied_itself o.total x)
  put_onto x (y ∷ ys) back h =
      let k = and_parts (is_lt (R y x)) (are_below R x ys) h in
      put_in_on x y (ys ++ x ∷ back) Less (is_lt-Less (R y x) k.0) ∙ ap (λ zs. y ∷ zs) (put_onto x ys back k.1)

  taken_absent : (x : X) (xs : List X) → is_member R xs x ≡ false → taken_out R xs x ≡ xs
  taken_absent x xs h = filter_all (λ y. not (is_eq (R y x))) xs (list_all_from_none (λ y. is_eq (R y x)) (λ y. not (is_eq (R y x))) (λ y k. not_from_false (is_eq (R y x)) k) xs h)

  taken_from : (x : X) (front back : List X) → are_below R x front ≡ true → are_above R x back ≡ true → taken_out R (front ++ x ∷ back) x ≡ front ++ back
  taken_from x [] back h g = filter_dropped_one (λ y. not (is_eq (R y x))) x back (not_from_true (is_eq (R x x)) (is_eq_itself x)) ∙ taken_absent x back (absent_above x back g)
  taken_from x (y ∷ ys) back h g =
      let k = and_parts (is_lt (R y x)) (are_below R x ys) h in
      filter_kept_one (λ z. not (is_eq (R z x))) y (ys ++ x ∷ back) (ap (λ r. not (is_eq r)) (is_lt-Less (R y x) k.0)) ∙ ap (λ zs. y ∷ zs) (taken_from x ys back k.1 g)

  pub stands_at : (xs : List X) (x : X) (at : ℕ) → ascending R xs ≡ true → slice_get xs at ≡ Some x → StandsAt R xs x at
  stands_at [] x at h e = cc
  stands_at (y ∷ ys) x zero h e =
      let s : y ≡ x = cc in
      let k = and_parts (are_above R y ys) (ascending R ys) h in
      record { split = ap (λ z. z ∷ ys) s; below = refl; above = ap (λ z. are_above R z ys) (sym s) ∙ k.0 }
  stands_at (y ∷ ys) x (suc at) h e =
      let k = and_parts (are_above R y ys) (ascending R ys) h in
      let s = stands_at ys x at k.1 e in
      record {
        split = ap (λ zs. y ∷ zs) s.split;
        below = and_from (is_lt (R y x)) (are_below R x (take at ys)) (list_all_get (λ z. is_lt (R y z)) ys at x k.0 e) s.below;
        above = s.above;
      }

  pub put_stands : (xs : List X) (x : X) (at : ℕ) → ascending R xs ≡ true → slice_get xs at ≡ Some x → put_in R xs x ≡ xs
  put_stands xs x at h e =
      let s = stands_at xs x at h e in
      ap (λ l. put_in R l x) s.split ∙ put_onto x (take at xs) (drop (suc at) xs) s.below ∙ sym s.split

  pub member_stands : (xs : List X) (x : X) (at : ℕ) → slice_get xs at ≡ Some x → is_member R xs x ≡ true
  member_stands [] x at e = cc
  member_stands (y ∷ ys) x zero e =
      let s : y ≡ x = cc in
      ap (λ b. b || is_member R ys x) (ap (λ z. is_eq (R z x)) s ∙ is_eq_itself x)
  member_stands (y ∷ ys) x (suc at) e = ap (λ b. is_eq (R y x) || b) (member_stands ys x at e) ∙ or_true (is_eq (R y x))

  pub taken_stands : (xs : List X) (x : X) (at : ℕ) → ascending R xs ≡ true → slice_get xs at ≡ Some x → taken_out R xs x ≡ remove xs at
  taken_stands xs x at h e =
      let s = stands_at xs x at h e in
      ap (λ l. taken_out R l x) s.split ∙ taken_from x (take at xs) (drop (suc at) xs) s.below s.above

  pub put_belongs : (xs : List X) (x : X) (at : ℕ) → BelongsAt R xs x at → put_in R xs x ≡ insert xs at x
  put_belongs xs x at b = ap (λ l. put_in R l x) (sym (take-append-drop at xs)) ∙ put_between x (take at xs) (drop at xs) b.below b.above

  pub member_belongs : (xs : List X) (x : X) (at : ℕ) → BelongsAt R xs x at → is_member R xs x ≡ false
  member_belongs xs x at b = ap (λ l. is_member R l x) (sym (take-append-drop at xs)) ∙ list_any-append (λ y. is_eq (R y x)) (take at xs) (drop at xs)
      ∙ or_from (is_member R (take at xs) x) (is_member R (drop at xs) x) (absent_below x (take at xs) b.below) (absent_above x (drop at xs) b.above)

  pub taken_belongs : (xs : List X) (x : X) (at : ℕ) → BelongsAt R xs x at → taken_out R xs x ≡ xs
  taken_belongs xs x at b = taken_absent x xs (member_belongs xs x at b)

  -- ---- the steps of a binary search

  pub search_up : (xs : List X) (x y : X) (m : ℕ) → ascending R xs ≡ true → m < length xs → y ≡ get_or xs m y → Less ≡ R y x → are_below R x (take (m + 1) xs) ≡ true
  search_up xs x y m h l r e =
      let s = stands_at xs y m h (slice_get_read xs (length xs) m y refl l r) in
      ap (are_below R x) (take_more xs m y l) ∙ list_all-append (λ z. is_lt (R z x)) (take m xs) (get_or xs m y ∷ [])
      ∙ and_from (are_below R x (take m xs)) (are_below R x (get_or xs m y ∷ [])) (below_weaker x y (take m xs) (sym e) s.below)
      (ap (λ z. is_lt (R z x) && true) (sym r) ∙ ap (λ c. is_lt c && true) (sym e))

  pub search_down : (xs : List X) (x y : X) (m : ℕ) → ascending R xs ≡ true → m < length xs → y ≡ get_or xs m y → Greater ≡ R y x → are_above R x (drop m xs) ≡ true
  search_down xs x y m h l r e =
      let s = stands_at xs y m h (slice_get_read xs (length xs) m y refl l r) in
      let less : R x y ≡ Less = less_from_greater y x (sym e) in
      ap (are_above R x) (drop-cons xs m y l)
      ∙ and_from (is_lt (R x (get_or xs m y))) (are_above R x (drop (suc m) xs)) (ap (λ z. is_lt (R x z)) (sym r) ∙ ap is_lt less) (above_weaker x y (drop (suc m) xs) less s.above)

  pub search_found : (xs : List X) (x y : X) (m : ℕ) → m < length xs → y ≡ get_or xs m y → Equal ≡ R y x → slice_get xs m ≡ Some x
  search_found xs x y m l r e = slice_get_read xs (length xs) m y refl l r ∙ ap Some (o.exact y x (sym e))
