-- Tables whose rows are numbered from a number on.
use Rattle.std.proofs.Common.{◌≡◌, ◌∙◌, ◌+◌, ◌<◌, ◌≤◌, ◌^◌, ℕ, suc, Bool, true, false, nat_eq, cond, List, [], ◌∷◌, length, Option, Some, None, map, refl, ap, sym, subst, arith, inl, inr}
use Prim.Native.Nat.{zero}
use Rattle.std.specs.Prelude.{MatchOption}
use Rattle.std.specs.List.{list_all, slice_get, AllByRecursion}
use Rattle.std.specs.Option.{option_map}
use Rattle.std.specs.Ordering.{is_lt, is_eq, eq_by_cmp}
use Rattle.std.specs.FinMap.{find}
use Rattle.std.proofs.lemmas.Bool.{and_parts, and_from, cases_Bool, cond-true, cond-false, false≢true, eqb-true, eq-eqb}
use Rattle.std.proofs.lemmas.Bool.Decides.{nat_tests}
use Rattle.bdb_base.specs.SortedSet.{ascending}
use Rattle.bdb_base.specs.declared.kinds.RelDef.{RelDef}
use Rattle.bdb_base.specs.declared.kinds.UserSlot.{UserSlot}
use Rattle.bdb_base.specs.OrderLemmas.{is_eq_nat_cmp}
use Rattle.bdb_base.proofs.Numbers.{less_number}
use Rattle.bdb_keep.specs.Tables.{Tables, bytes_cmp}
use Rattle.bdb_key.specs.Bytes.{num_bytes}
use Rattle.bdb_key.specs.Grammar.{IsNum}
use Rattle.bdb_tables.specs.Codec.{Codec, Rows, RowsAreOne, codec_of}
use Rattle.bdb_tables.specs.InUse.{number_keys, user_codec, rel_codec, slot_rows, rel_rows}
use Rattle.bdb_tables.specs.InUseLaws.{numbers_in_order, numbers_are_one, slot_rows_are_one, rel_rows_are_one}
use Rattle.bdb_tables.specs.Spans.{AreUnder, IsUnder, entry_bytes, entry_cmp}
use Rattle.bdb_tables.specs.Stored.{slot_of}
use Rattle.bdb_tables.specs.Writes.{Gives}
use Rattle.bdb_tables.proofs.WriteLemmas.{gives_same}
use Rattle.bdb_entries.specs.Catalog.{HasRelations, HasUserPlaces, TellsRelations, TellsUsers}
use Rattle.bdb_entries.specs.Listed.{Lists}
use Rattle.bdb_entries.specs.Numbered.{are_numbered, item_at, numbered}
use Rattle.bdb_entries.proofs.ListedLemmas.{gives_under, under_gives, under_is_one}

-- ---- numbers that run on

other_number : (k n : ℕ) → k < n → nat_eq k n ≡ false
other_number k n h = grind (arith, nat_tests)

both_later : (k n : ℕ) → nat_eq (suc k) (suc n) ≡ nat_eq k n
both_later k n = grind (arith, nat_tests)

not_first : (k : ℕ) → nat_eq (suc k) 0 ≡ false
not_first k = grind (arith, nat_tests)

module _ {X : Type 0} where
  numbered_are : (n : ℕ) (xs : List X) → are_numbered n (numbered n xs) ≡ true
  numbered_are n [] = refl
  numbered_are n (x ∷ xs) = and_from (nat_eq n n) (are_numbered (suc n) (numbered (suc n) xs)) (eq-eqb n n refl) (numbered_are (suc n) xs)

  are_items : (n : ℕ) (es : List (ℕ × X)) → are_numbered n es ≡ true → es ≡ numbered n (map (λ (e : ℕ × X). e.1) es)
  are_items n [] h = refl
  are_items n (e ∷ es) h =
      let p = and_parts (nat_eq e.0 n) (are_numbered (suc n) es) h in
      ap (λ (k : ℕ). (k, e.1) ∷ es) (eqb-true e.0 n p.0) ∙ ap (λ (l : List (ℕ × X)). (n, e.1) ∷ l) (are_items (suc n) es p.1)

  pub items_numbered : (n : ℕ) (es : List (ℕ × X)) (xs : List X) → are_numbered n es ≡ true → xs ≡ map (λ (e : ℕ × X). e.1) es → es ≡ numbered n xs
  items_numbered n es xs h e = are_items n es h ∙ ap (numbered n) (sym e)

  item_before : (n : ℕ) (xs : List X) (k : ℕ) → k < n → item_at n xs k ≡ None
  item_before n [] k h = refl
  item_before n (x ∷ xs) k h = cond-false (nat_eq k n) (Some x) (item_at (suc n) xs k) (other_number k n h) ∙ item_before (suc n) xs k (omega (arith, h))

  item_later : (n : ℕ) (xs : List X) (k : ℕ) → item_at (suc n) xs (suc k) ≡ item_at n xs k
  item_later n [] k = refl
  item_later n (x ∷ xs) k =
      ap (λ b. cond b (Some x) (item_at (suc (suc n)) xs (suc k))) (both_later k n) ∙ ap (cond (nat_eq k n) (Some x)) (item_later (suc n) xs k)

  item_of_slice : (xs : List X) (k : ℕ) → item_at 0 xs k ≡ slice_get xs k
  item_of_slice [] k = refl
  item_of_slice (x ∷ xs) zero = refl
  item_of_slice (x ∷ xs) (suc k) = cond-false (nat_eq (suc k) 0) (Some x) (item_at 1 xs (suc k)) (not_first k) ∙ item_later 0 xs k ∙ item_of_slice xs k

item_of_place : (xs : List UserSlot) (k : ℕ) → item_at 1 xs k ≡ slot_of xs k
item_of_place xs zero = item_before 1 xs 0 (omega arith)
item_of_place xs (suc k) = item_later 0 xs k ∙ item_of_slice xs k

-- ---- tables of rows by number

module _ {Row : Type 0} (tab : ℕ) (rows : Rows Row) where
  abbrev codec : Codec ℕ Row
  codec = codec_of tab number_keys rows

  numbers_tie : (a b : ℕ) → IsNum a → IsNum b → eq_by_cmp bytes_cmp (num_bytes a) (num_bytes b) ≡ nat_eq a b
  numbers_tie a b fa fb = ap is_eq (numbers_in_order a b fa fb) ∙ is_eq_nat_cmp a b

  found_item : (n : ℕ) (xs : List Row) → AllByRecursion (IsUnder codec []) (numbered n xs) → (k : ℕ) → IsNum k
      → option_map rows.bytes (item_at n xs k) ≡ find bytes_cmp (num_bytes k) (map (entry_bytes codec) (numbered n xs))
  found_item n [] a k fits = refl
  found_item n (x ∷ xs) a k fits =
      by (nat_eq k n) (item_at (suc n) xs k) (found_item (suc n) xs a.1 k fits)
      ∙ sym (ap (λ b. cond b (Some (rows.bytes x)) (find bytes_cmp (num_bytes k) (map (entry_bytes codec) (numbered (suc n) xs)))) (numbers_tie k n fits a.0.key))
    where
      by : (b : Bool) (o : Option Row) → option_map rows.bytes o ≡ find bytes_cmp (num_bytes k) (map (entry_bytes codec) (numbered (suc n) xs))
          → option_map rows.bytes (cond b (Some x) o) ≡ cond b (Some (rows.bytes x)) (find bytes_cmp (num_bytes k) (map (entry_bytes codec) (numbered (suc n) xs)))
      by true o e = refl
      by false o e = e

  written_item : (n : ℕ) (xs : List Row) → AllByRecursion (IsUnder codec []) (numbered n xs) → (k : ℕ) → MatchOption (item_at n xs k) (Unit {0}) rows.Is
  written_item n [] a k = tt
  written_item n (x ∷ xs) a k = by (nat_eq k n) (item_at (suc n) xs k) (written_item (suc n) xs a.1 k)
    where
      by : (b : Bool) (o : Option Row) → MatchOption o (Unit {0}) rows.Is → MatchOption (cond b (Some x) o) (Unit {0}) rows.Is
      by true o h = a.0.row
      by false o h = h

  -- rows that are numbered give the items
  numbered_give : (n : ℕ) (xs : List Row) (t : Tables) → AreUnder codec t [] (numbered n xs) → Gives codec t (item_at n xs)
  numbered_give n xs t h = under_gives codec t (item_at n xs) (numbered n xs) h (record {
    each = h.each;
    sorted = h.sorted;
    same = λ k fits. found_item n xs h.each k fits;
    written = λ k fits. written_item n xs h.each k;
  })

  -- where each item of a number is a row, the numbered items are entries
  numbered_fit : (n : ℕ) (xs : List Row) → n + length xs ≤ 2 ^ 32 → ((k : ℕ) → IsNum k → MatchOption (item_at n xs k) (Unit {0}) rows.Is) → AllByRecursion (IsUnder codec []) (numbered n xs)
  numbered_fit n [] le h = tt
  numbered_fit n (x ∷ xs) le h = (record { key = num; row = row; begins = refl }, numbered_fit (suc n) xs (omega (arith, le)) later)
    where
      num : IsNum n
      num = omega (arith, le)

      row : rows.Is x
      row = subst (λ (o : Option Row). MatchOption o (Unit {0}) rows.Is) (cond-true (nat_eq n n) (Some x) (item_at (suc n) xs n) (eq-eqb n n refl)) (h n num)

      later : (k : ℕ) → IsNum k → MatchOption (item_at (suc n) xs k) (Unit {0}) rows.Is
      later k fits = elim (cases_Bool (nat_eq k n)) [
        | inl e ↦ subst (λ (o : Option Row). MatchOption o (Unit {0}) rows.Is) (sym (item_before (suc n) xs k (omega (arith, eqb-true k n e)))) tt
        | inr e ↦ subst (λ (o : Option Row). MatchOption o (Unit {0}) rows.Is) (cond-false (nat_eq k n) (Some x) (item_at (suc n) xs k) e) (h k fits)
      ]

  numbered_above : (m : ℕ) (x : Row) (n : ℕ) (xs : List Row) → m < n → n + length xs ≤ 2 ^ 32 → list_all (λ y. is_lt (entry_cmp codec (m, x) y)) (numbered n xs) ≡ true
  numbered_above m x n [] lt le = refl
  numbered_above m x n (y ∷ xs) lt le =
      let fm : IsNum m = omega (arith, lt, le) in
      let fn : IsNum n = omega (arith, le) in
      and_from (is_lt (bytes_cmp (num_bytes m) (num_bytes n))) (list_all (λ z. is_lt (entry_cmp codec (m, x) z)) (numbered (suc n) xs))
      (ap is_lt (numbers_in_order m n fm fn) ∙ less_number m n lt) (numbered_above m x (suc n) xs (omega (arith, lt)) (omega (arith, le)))

  numbered_sorted : (n : ℕ) (xs : List Row) → n + length xs ≤ 2 ^ 32 → ascending (entry_cmp codec) (numbered n xs) ≡ true
  numbered_sorted n [] le = refl
  numbered_sorted n (x ∷ xs) le =
      and_from (list_all (λ y. is_lt (entry_cmp codec (n, x) y)) (numbered (suc n) xs)) (ascending (entry_cmp codec) (numbered (suc n) xs))
      (numbered_above n x (suc n) xs (omega arith) (omega (arith, le))) (numbered_sorted (suc n) xs (omega (arith, le)))

  -- where a table gives numbered items, its rows are numbered
  given_numbered : RowsAreOne rows → (n : ℕ) (xs : List Row) (t : Tables) (es : List (ℕ × Row)) → n + length xs ≤ 2 ^ 32 → Gives codec t (item_at n xs) → AreUnder codec t [] es → are_numbered n es ≡ true
  given_numbered one n xs t es le h under =
      let each = numbered_fit n xs le h.written in
      let listed : Lists codec (item_at n xs) (numbered n xs) = record {
        each = each;
        sorted = numbered_sorted n xs le;
        same = λ k fits. found_item n xs each k fits;
        written = h.written;
      } in
      ap (are_numbered n) (under_is_one codec numbers_are_one one t es (numbered n xs) under (gives_under codec t (item_at n xs) (numbered n xs) h listed)) ∙ numbered_are n xs

  -- numbers of entries are of four bytes
  numbered_sized : (n : ℕ) (xs : List Row) → n ≤ 2 ^ 32 → AllByRecursion (IsUnder codec []) (numbered n xs) → n + length xs ≤ 2 ^ 32
  numbered_sized n [] le a = omega (arith, le)
  numbered_sized n (x ∷ xs) le a =
      let num : n < 2 ^ 32 = a.0.key in
      let rest = numbered_sized (suc n) xs (omega (arith, num)) a.1 in omega (arith, rest)

-- ---- users and relations

users_given : (t : Tables) (es : List (ℕ × UserSlot)) (xs : List UserSlot) → AreUnder user_codec t [] es → es ≡ numbered 1 xs → HasUserPlaces t xs
users_given t es xs h e =
    let under = subst (AreUnder user_codec t []) e h in
    let few = numbered_sized 2 slot_rows 1 xs (omega arith) under.each in
    record {
      gives = gives_same user_codec t (item_at 1 xs) (slot_of xs) (λ k fits. item_of_place xs k) (numbered_give 2 slot_rows 1 xs t under);
      sized = omega (arith, few);
    }

no_users : (t : Tables) (es : List (ℕ × UserSlot)) → AreUnder user_codec t [] es → are_numbered 1 es ≡ false → (xs : List UserSlot) → HasUserPlaces t xs → ⊥
no_users t es under differ xs h =
    let few = h.sized in
    false≢true (sym differ ∙ given_numbered 2 slot_rows slot_rows_are_one 1 xs t es (omega (arith, few)) (gives_same user_codec t (slot_of xs) (item_at 1 xs) (λ k fits. sym (item_of_place xs k)) h.gives) under)

relations_given : (t : Tables) (es : List (ℕ × RelDef)) (xs : List RelDef) → AreUnder rel_codec t [] es → es ≡ numbered 0 xs → HasRelations t xs
relations_given t es xs h e =
    let under = subst (AreUnder rel_codec t []) e h in
    let few = numbered_sized 3 rel_rows 0 xs (omega arith) under.each in
    record {
      gives = gives_same rel_codec t (item_at 0 xs) (slice_get xs) (λ k fits. item_of_slice xs k) (numbered_give 3 rel_rows 0 xs t under);
      sized = omega (arith, few);
    }

no_relations : (t : Tables) (es : List (ℕ × RelDef)) → AreUnder rel_codec t [] es → are_numbered 0 es ≡ false → (xs : List RelDef) → HasRelations t xs → ⊥
no_relations t es under differ xs h =
    let few = h.sized in
    false≢true (sym differ ∙ given_numbered 3 rel_rows rel_rows_are_one 0 xs t es (omega (arith, few)) (gives_same rel_codec t (slice_get xs) (item_at 0 xs) (λ k fits. sym (item_of_slice xs k)) h.gives) under)

pub tells_users : (t : Tables) (es : List (ℕ × UserSlot)) (found : Option (List UserSlot)) → AreUnder user_codec t [] es
    → MatchOption found (are_numbered 1 es ≡ false) (λ xs. es ≡ numbered 1 xs) → TellsUsers t found
tells_users t es None under h = λ xs has. no_users t es under h xs has
tells_users t es (Some xs) under h = users_given t es xs under h

pub tells_relations : (t : Tables) (es : List (ℕ × RelDef)) (found : Option (List RelDef)) → AreUnder rel_codec t [] es
    → MatchOption found (are_numbered 0 es ≡ false) (λ xs. es ≡ numbered 0 xs) → TellsRelations t found
tells_relations t es None under h = λ xs has. no_relations t es under h xs has
tells_relations t es (Some xs) under h = relations_given t es xs under h
