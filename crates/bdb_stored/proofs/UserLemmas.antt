-- The places of users by number, from 1 in order, and the numbers of those who are live.
use Rattle.std.proofs.Common.{◌≡◌, ◌∙◌, ℕ, suc, ◌+◌, ◌<◌, ◌≤◌, Bool, true, false, ◌||◌, ◌&&◌, nat_eq, nat_lt, nat_le, List, [], ◌∷◌, length, map, filter, Option, is_some, refl, ap, sym, inl, inr, arith}
use Prim.Native.Nat.{zero}
use Rattle.std.specs.List.{AllByRecursion, list_all, slice_get}
use Rattle.std.specs.Ordering.{is_lt, nat_cmp}
use Rattle.std.specs.declared.cmp.Ordering.TheVariants.{Equal}
use Rattle.std.proofs.lemmas.Bool.{cases_Bool, cases_lt, and_parts, and_from, or_left, or_right, or_cases, false≢true, cond-true, cond-false, eq-eqb, eqb-true, leb-true, ltb-true, lt-ltb}
use Rattle.std.proofs.lemmas.Bool.Decides.{nat_tests}
use Rattle.std.proofs.lemmas.Cmp.{nat_cmp_total}
use Rattle.std.proofs.lemmas.List.{length-map}
use Rattle.bdb_base.specs.Bases.{Contents, is_user, live_name}
use Rattle.bdb_base.specs.Limits.{most_users}
use Rattle.bdb_base.specs.Queries.{live_numbers, numbers_from, user_numbers}
use Rattle.bdb_base.specs.SortedSet.{IsExactOrder, ascending, is_member}
use Rattle.bdb_base.specs.declared.kinds.UserSlot.{UserSlot}
use Rattle.bdb_base.specs.declared.kinds.UserSlot.TheVariants.{Live, Gone}
use Rattle.bdb_base.specs.OrderLemmas.{is_eq_nat_cmp}
use Rattle.bdb_base.proofs.ListLemmas.{filter_dropped_one, filter_kept_one, length-filter_le}
use Rattle.bdb_base.proofs.SetLemmas.{filter_keeps_order, members_make_set}
use Rattle.bdb_base.proofs.UserLemmas.{numbers_are_live, user_above, user_within}
use Rattle.bdb_base.proofs.BoolLemmas.{same_tests}
use Rattle.bdb_base.proofs.Numbers.{less_number, eq_turned}
use Rattle.bdb_base.specs.Causes.{is_listed}
use Rattle.bdb_keep.specs.Tables.{Tables}
use Rattle.bdb_tables.specs.InUse.{user_codec}
use Rattle.bdb_tables.specs.InUseLaws.{numbers_in_order, slot_rows_are_one}
use Rattle.bdb_tables.specs.Spans.{AreUnder, IsUnder, entry_cmp}
use Rattle.bdb_tables.specs.Stored.{slot_of}
use Rattle.bdb_stored.specs.Items.{items_of, with_item}
use Rattle.bdb_stored.specs.Structure.{is_live, live_keys}
use Rattle.bdb_catalog.specs.Bases.{StoresValid}
use Rattle.bdb_catalog.specs.Opening.{IsPartOf}
use Rattle.bdb_stored.proofs.KeyLemmas.{numbers_are, rows_are_items}

-- numbers in their order
pub nat_exact : IsExactOrder nat_cmp
nat_exact = record { total = nat_cmp_total; exact = λ m n e. same m n e }
  where
    same : (m n : ℕ) → nat_cmp m n ≡ Equal → m ≡ n
    same m n e = grind (arith, nat_tests)

-- ---- numbers of places, from one on

above : (m n : ℕ) (us : List UserSlot) → m < n → list_all (λ k. is_lt (nat_cmp m k)) (numbers_from n us) ≡ true
above m n [] l = refl
above m n (u ∷ us) l = and_from (is_lt (nat_cmp m n)) (list_all (λ k. is_lt (nat_cmp m k)) (numbers_from (suc n) us)) (less_number m n l) (above m (suc n) us (omega arith))

ascend : (n : ℕ) (us : List UserSlot) → ascending nat_cmp (numbers_from n us) ≡ true
ascend n [] = refl
ascend n (u ∷ us) = and_from (list_all (λ k. is_lt (nat_cmp n k)) (numbers_from (suc n) us)) (ascending nat_cmp (numbers_from (suc n) us)) (above n (suc n) us (omega arith)) (ascend (suc n) us)

pub users_rise : (us : List UserSlot) → ascending nat_cmp (user_numbers us) ≡ true
users_rise us = filter_keeps_order nat_exact (is_user us) (numbers_from 1 us) (ascend 1 us)

listed : (i n : ℕ) (us : List UserSlot) → n ≤ i → i < n + length us → is_listed i (numbers_from n us) ≡ true
listed i n [] a b = absurd (omega arith)
listed i n (u ∷ us) a b = elim (cases_lt n i) [
  | inl l ↦ or_right (nat_eq i n) (is_listed i (numbers_from (suc n) us)) (listed i (suc n) us (omega arith) (omega arith))
  | inr g ↦ or_left (nat_eq i n) (is_listed i (numbers_from (suc n) us)) (eq-eqb i n (omega arith))
]

within : (i n : ℕ) (us : List UserSlot) → is_listed i (numbers_from n us) ≡ true → (n ≤ i) × (i < n + length us)
within i n [] e = absurd (false≢true e)
within i n (u ∷ us) e = elim (or_cases (nat_eq i n) (is_listed i (numbers_from (suc n) us)) e) [
  | inl s ↦ let k = eqb-true i n s in (omega (arith, k), omega (arith, k))
  | inr s ↦ let k = within i (suc n) us s in (omega (arith, k.0), omega (arith, k.1))
]

-- what is listed and passes a test is listed among those that pass
still_listed : (q : ℕ → Bool) (ks : List ℕ) (i : ℕ) → is_listed i ks ≡ true → q i ≡ true → is_listed i (filter q ks) ≡ true
still_listed q [] i e h = e
still_listed q (k ∷ ks) i e h = elim (or_cases (nat_eq i k) (is_listed i ks) e) [
  | inl s ↦
      ap (is_listed i) (filter_kept_one q k ks (ap q (sym (eqb-true i k s)) ∙ h)) ∙ or_left (nat_eq i k) (is_listed i (filter q ks)) s
  | inr s ↦ elim (cases_Bool (q k)) [
    | inl y ↦ ap (is_listed i) (filter_kept_one q k ks y) ∙ or_right (nat_eq i k) (is_listed i (filter q ks)) (still_listed q ks i s h)
    | inr y ↦ ap (is_listed i) (filter_dropped_one q k ks y) ∙ still_listed q ks i s h
  ]
]

-- a user's number is listed
pub user_is_listed : (us : List UserSlot) (i : ℕ) → is_user us i ≡ true → is_listed i (user_numbers us) ≡ true
user_is_listed us i u =
    let a = user_above us i u in
    let b = user_within us i u in
    still_listed (is_user us) (numbers_from 1 us) i (listed i 1 us (omega arith) (omega arith)) u

passes : {X : Type 0} (q : X → Bool) (xs : List X) → list_all q (filter q xs) ≡ true
passes q [] = refl
passes q (x ∷ xs) = elim (cases_Bool (q x)) [
  | inl e ↦ ap (list_all q) (cond-true (q x) (x ∷ filter q xs) (filter q xs) e) ∙ and_from (q x) (list_all q (filter q xs)) e (passes q xs)
  | inr e ↦ ap (list_all q) (cond-false (q x) (x ∷ filter q xs) (filter q xs) e) ∙ passes q xs
]

pub numbers_are_users : (us : List UserSlot) → list_all (is_user us) (user_numbers us) ≡ true
numbers_are_users us = passes (is_user us) (numbers_from 1 us)

as_many_places : (n : ℕ) (us : List UserSlot) → length (numbers_from n us) ≡ length us
as_many_places n [] = refl
as_many_places n (u ∷ us) = ap suc (as_many_places (suc n) us)

-- there are no more users than places
pub few_numbers : (us : List UserSlot) → length (user_numbers us) ≤ length us
few_numbers us =
    let a = length-filter_le (is_user us) (numbers_from 1 us) in
    let b = as_many_places 1 us in
    omega (arith, a, b)

-- ---- the keys of the table of users

member_is_listed : (ks : List ℕ) (n : ℕ) → is_member nat_cmp ks n ≡ is_listed n ks
member_is_listed [] n = refl
member_is_listed (k ∷ ks) n = ap (λ b. b || is_member nat_cmp ks n) (eq_turned k n) ∙ ap (λ b. nat_eq n k || b) (member_is_listed ks n)

abbrev keys : List (ℕ × UserSlot) → List ℕ
keys es = map (λ (e : ℕ × UserSlot). e.0) es

abbrev slots : List (ℕ × UserSlot) → List UserSlot
slots es = map (λ (e : ℕ × UserSlot). e.1) es

keys_ascend : (es : List (ℕ × UserSlot)) → AllByRecursion (IsUnder user_codec []) es → ascending (entry_cmp user_codec) es ≡ true → ascending nat_cmp (keys es) ≡ true
keys_ascend [] a s = refl
keys_ascend (e ∷ es) a s =
    let k = and_parts (list_all (λ d. is_lt (entry_cmp user_codec e d)) es) (ascending (entry_cmp user_codec) es) s in
    and_from (list_all (λ n. is_lt (nat_cmp e.0 n)) (keys es)) (ascending nat_cmp (keys es)) (later es a.1 k.0) (keys_ascend es a.1 k.1)
  where
    later : (ds : List (ℕ × UserSlot)) → AllByRecursion (IsUnder user_codec []) ds → list_all (λ d. is_lt (entry_cmp user_codec e d)) ds ≡ true → list_all (λ n. is_lt (nat_cmp e.0 n)) (keys ds) ≡ true
    later [] f l = refl
    later (d ∷ ds) f l =
        let p = and_parts (is_lt (entry_cmp user_codec e d)) (list_all (λ c. is_lt (entry_cmp user_codec e c)) ds) l in
        and_from (is_lt (nat_cmp e.0 d.0)) (list_all (λ n. is_lt (nat_cmp e.0 n)) (keys ds))
        (ap is_lt (sym (numbers_in_order e.0 d.0 a.0.key f.0.key)) ∙ p.0) (later ds f.1 p.1)

-- a number is that of a place
abbrev is_place : List UserSlot → ℕ → Bool
is_place us n = nat_lt 0 n && nat_le n (length us)

place_there : (us : List UserSlot) (n : ℕ) → is_some (slot_of us n) ≡ is_place us n
place_there us zero = refl
place_there us (suc n) = elim (cases_lt n (length us)) [
  | inl l ↦ here us n l ∙ sym (and_from (nat_lt 0 (suc n)) (nat_le (suc n) (length us)) (lt-ltb 0 (suc n) (omega arith)) (there (suc n) (length us) (omega arith)))
  | inr g ↦ past us n g ∙ sym (none (suc n) (length us) (omega arith))
]
  where
    here : (xs : List UserSlot) (k : ℕ) → k < length xs → is_some (slice_get xs k) ≡ true
    here [] k l = absurd (omega arith)
    here (x ∷ xs) zero l = refl
    here (x ∷ xs) (suc k) l = here xs k (omega arith)

    past : (xs : List UserSlot) (k : ℕ) → length xs ≤ k → is_some (slice_get xs k) ≡ false
    past [] k l = refl
    past (x ∷ xs) zero l = absurd (omega arith)
    past (x ∷ xs) (suc k) l = past xs k (omega arith)

    there : (m k : ℕ) → m ≤ k → nat_le m k ≡ true
    there m k l = grind (arith, nat_tests)

    none : (m k : ℕ) → k < m → (nat_lt 0 m && nat_le m k) ≡ false
    none m k l = grind (arith, nat_tests)

place_listed : (us : List UserSlot) (n : ℕ) → is_place us n ≡ is_listed n (numbers_from 1 us)
place_listed us n = same_tests (is_place us n) (is_listed n (numbers_from 1 us))
    (λ e. let k = and_parts (nat_lt 0 n) (nat_le n (length us)) e in
    let a = ltb-true 0 n k.0 in
    let b = leb-true n (length us) k.1 in
    listed n 1 us (omega arith) (omega arith))
    (λ e. let k = within n 1 us e in between n (length us) k.0 k.1)
  where
    between : (m k : ℕ) → 1 ≤ m → m < 1 + k → (nat_lt 0 m && nat_le m k) ≡ true
    between m k a b = grind (arith, nat_tests)

-- the keys are the numbers of all places
keys_told : (t : Tables) (es : List (ℕ × UserSlot)) → AreUnder user_codec t [] es → (b : Contents) → StoresValid t b → keys es ≡ numbers_from 1 b.catalog.users
keys_told t es under b v =
    let us = b.catalog.users in
    let few = leb-true (length us) most_users v.valid.catalog.few_users in
    let are = numbers_are user_codec numbers_in_order is_eq_nat_cmp (λ k f. f) (λ k f. f) slot_rows_are_one t (slot_of us) v.stored.stored.users
    (λ n e. let k = and_parts (nat_lt 0 n) (nat_le n (length us)) (sym (place_there us n) ∙ e) in let l = leb-true n (length us) k.1 in omega arith) es under in
    members_make_set nat_exact (keys es) (numbers_from 1 us) (keys_ascend es under.each under.sorted) (ascend 1 us) (λ n.
    member_is_listed (keys es) n ∙ are n ∙ place_there us n ∙ place_listed us n ∙ sym (member_is_listed (numbers_from 1 us) n))

-- ---- the rows of the table of users

items_at : (f : ℕ → Option UserSlot) (n : ℕ) (us : List UserSlot) → ((k : ℕ) → f (n + k) ≡ slice_get us k) → items_of f (numbers_from n us) ≡ us
items_at f n [] at = refl
items_at f n (u ∷ us) at =
    let here : n ≡ n + 0 = omega arith in
    ap (λ o. with_item o (items_of f (numbers_from (suc n) us))) (ap f here ∙ at 0)
    ∙ ap (λ (xs : List UserSlot). u ∷ xs) (items_at f (suc n) us (λ k. ap f (later n k) ∙ at (suc k)))
  where
    later : (m k : ℕ) → suc m + k ≡ m + suc k
    later m k = omega arith

-- the rows are the places
slots_told : (t : Tables) (es : List (ℕ × UserSlot)) → AreUnder user_codec t [] es → (b : Contents) → StoresValid t b → slots es ≡ b.catalog.users
slots_told t es under b v =
    let us = b.catalog.users in
    sym (rows_are_items user_codec numbers_in_order is_eq_nat_cmp (λ k f. f) (λ k f. f) slot_rows_are_one t (slot_of us) v.stored.stored.users es under)
    ∙ ap (items_of (slot_of us)) (keys_told t es under b v) ∙ items_at (slot_of us) 1 us (λ k. ap (slot_of us) (next k))
  where
    next : (k : ℕ) → 1 + k ≡ suc k
    next k = omega arith

pub places_read : (t : Tables) (es : List (ℕ × UserSlot)) → AreUnder user_codec t [] es → (b : Contents) → StoresValid t b → length es ≡ length b.catalog.users
places_read t es under b v = sym (length-map es (λ (e : ℕ × UserSlot). e.1)) ∙ ap (λ (us : List UserSlot). length us) (slots_told t es under b v)

-- ---- those who are live

live_told : (n : ℕ) (es : List (ℕ × UserSlot)) (us : List UserSlot) → keys es ≡ numbers_from n us → slots es ≡ us → live_keys es ≡ live_numbers n us
live_told n [] [] k s = refl
live_told n [] (u ∷ us) k s = absurd cc
live_told n (e ∷ es) [] k s = absurd cc
live_told n (e ∷ es) (u ∷ us) k s =
    let first : e.0 ≡ n = cc in
    let place : e.1 ≡ u = cc in
    let later_keys : keys es ≡ numbers_from (suc n) us = cc in
    let later_slots : slots es ≡ us = cc in
    by e.0 e.1 first u place (live_told (suc n) es us later_keys later_slots)
  where
    by : (m : ℕ) (x : UserSlot) → m ≡ n → (z : UserSlot) → x ≡ z → live_keys es ≡ live_numbers (suc n) us → live_keys ((m, x) ∷ es) ≡ live_numbers n (z ∷ us)
    by m x first (Live name) place rest =
        ap keys (filter_kept_one is_live (m, x) es (ap (λ y. is_some (live_name y)) place)) ∙ ap (λ (i : ℕ). i ∷ live_keys es) first ∙ ap (λ (xs : List ℕ). n ∷ xs) rest
    by m x first Gone place rest = ap keys (filter_dropped_one is_live (m, x) es (ap (λ y. is_some (live_name y)) place)) ∙ rest

pub users_told : (t : Tables) (es : List (ℕ × UserSlot)) → AreUnder user_codec t [] es → IsPartOf (λ b. user_numbers b.catalog.users) t (live_keys es)
users_told t es under b v =
    live_told 1 es b.catalog.users (keys_told t es under b v) (slots_told t es under b v) ∙ sym (numbers_are_live b.catalog.users)
