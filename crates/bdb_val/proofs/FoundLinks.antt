-- The links that lead to a world, found among all links.
use Rattle.std.proofs.Common.{◌≡◌, ◌∙◌, ℕ, suc, ◌+◌, ◌-◌, ◌<◌, ◌≤◌, Bool, true, false, List, [], ◌∷◌, ◌++◌, length, drop, filter, get_or, Option, Some, cond, inl, inr, map, append_assoc, refl, ap, sym, subst, arith}
use Prim.Native.Nat.{zero}
use Rattle.std.specs.declared.cmp.Ordering.{Ordering}
use Rattle.std.specs.List.{list_all, AllByRecursion}
use Rattle.std.specs.List.Sorted.{IsNonDecreasingBy, IsPartitionPoint}
use Rattle.std.specs.Ordering.{nat_cmp, is_lt, eq_by_cmp, ordering_then}
use Rattle.std.specs.FinMap.{find}
use Rattle.std.proofs.Math.Dec.{ltb}
use Rattle.std.proofs.lemmas.Bool.{false≢true, cases_Bool, cases_lt, and_parts, and_from, cond-false, eqb-true, eq-eqb, ltb-true, false_from_ne_true}
use Rattle.std.proofs.lemmas.List.{append-nil, drop_more, drop_all}
use Rattle.std.proofs.lemmas.List.Sorted.{IsNonDecreasingBy-drop}
use Rattle.bdb_base.specs.Segments.{is_prefix}
use Rattle.bdb_base.specs.SortedSet.{ascending}
use Rattle.bdb_base.proofs.ListLemmas.{filter_kept_one, filter_dropped_one, list_all-filter}
use Rattle.bdb_keep.specs.Tables.{Tables, bytes_cmp}
use Rattle.bdb_key.specs.Bytes.{num_bytes}
use Rattle.bdb_key.specs.Grammar.{IsNum}
use Rattle.bdb_base.proofs.Numbers.{greater}
use Rattle.bdb_keep.proofs.RowsLemmas.{same_place}
use Rattle.bdb_tables.specs.InUse.{IsPair, pair_bytes, linked_codec}
use Rattle.bdb_tables.specs.InUseLaws.{pairs_in_order}
use Rattle.bdb_tables.specs.Spans.{AreUnder, IsUnder, entry_bytes, entry_cmp}
use Rattle.bdb_tables.proofs.ListLemmas.{prefix_append}
use Rattle.bdb_val.specs.Others.{SamePlacesBut}
use Rattle.bdb_val.specs.Visits.{AreAllLinks, ArePushed, led_to, leads_to, turned_round}
use Rattle.bdb_val.proofs.OtherLemmas.{is_rows}
use Rattle.bdb_val.proofs.WalkLemmas.{first_is}

-- a link turned round
abbrev pub Link : Type 0
Link = (ℕ × ℕ) × Unit {0}

-- ---- links in order

-- a pair comes before another by bytes, so its first number isn't higher
pair_le : (a b : ℕ × ℕ) → IsPair a → IsPair b → is_lt (bytes_cmp (pair_bytes a) (pair_bytes b)) ≡ true → a.0 ≤ b.0
pair_le a b p q e = elim (cases_lt b.0 a.0) [
  | inl less ↦ absurd (false≢true (sym (ap is_lt (pairs_in_order a b p q ∙ ap (λ (o : Ordering). ordering_then o (nat_cmp a.1 b.1)) (greater a.0 b.0 less))) ∙ e))
  | inr ge ↦ ge
]

first_le : (e : Link) → IsPair e.0 → (es : List Link) → AllByRecursion (IsUnder linked_codec []) es → list_all (λ z. is_lt (entry_cmp linked_codec e z)) es ≡ true
    → (j : ℕ) (d : Link) → j < length es → led_to e ≤ led_to (get_or es j d)
first_le e k [] a s j d lt = absurd (omega arith)
first_le e k (x ∷ xs) a s zero d lt = let p = and_parts (is_lt (entry_cmp linked_codec e x)) (list_all (λ z. is_lt (entry_cmp linked_codec e z)) xs) s in pair_le e.0 x.0 k a.0.key p.0
first_le e k (x ∷ xs) a s (suc j) d lt =
    let p = and_parts (is_lt (entry_cmp linked_codec e x)) (list_all (λ z. is_lt (entry_cmp linked_codec e z)) xs) s in first_le e k xs a.1 p.1 j d (omega arith)

in_order : (es : List Link) → AllByRecursion (IsUnder linked_codec []) es → ascending (entry_cmp linked_codec) es ≡ true → IsNonDecreasingBy led_to es
in_order [] a s i j d le lt = absurd (omega arith)
in_order (e ∷ es) a s zero zero d le lt = omega arith
in_order (e ∷ es) a s zero (suc j) d le lt =
    let p = and_parts (list_all (λ z. is_lt (entry_cmp linked_codec e z)) es) (ascending (entry_cmp linked_codec) es) s in first_le e a.0.key es a.1 p.0 j d (omega arith)
in_order (e ∷ es) a s (suc i) zero d le lt = absurd (omega arith)
in_order (e ∷ es) a s (suc i) (suc j) d le lt =
    let p = and_parts (list_all (λ z. is_lt (entry_cmp linked_codec e z)) es) (ascending (entry_cmp linked_codec) es) s in in_order es a.1 p.1 i j d (omega arith) (omega arith)

-- all links come in the order of the worlds to which they lead
pub links_in_order : (t : Tables) (es : List Link) → AreUnder linked_codec t [] es → IsNonDecreasingBy led_to es
links_in_order t es h = in_order es h.each h.sorted

-- ---- those that lead to a world

none_lead : (wid : ℕ) (xs : List Link) → ((j : ℕ) (d : Link) → j < length xs → led_to (get_or xs j d) ≡ wid → ⊥) → filter (leads_to wid) xs ≡ []
none_lead wid [] h = refl
none_lead wid (x ∷ xs) h =
    filter_dropped_one (leads_to wid) x xs (false_from_ne_true (leads_to wid x) (λ e. h 0 x (omega arith) (eqb-true (led_to x) wid e)))
    ∙ none_lead wid xs (λ j d lt. h (suc j) d (omega arith))

-- none of them stand among those that lead to lower numbers
lower_skipped : (wid : ℕ) (xs : List Link) (i : ℕ) → ((j : ℕ) (d : Link) → j < i → j < length xs → led_to (get_or xs j d) < wid) → filter (leads_to wid) xs ≡ filter (leads_to wid) (drop i xs)
lower_skipped wid [] zero h = refl
lower_skipped wid [] (suc i) h = refl
lower_skipped wid (x ∷ xs) zero h = refl
lower_skipped wid (x ∷ xs) (suc i) h =
    filter_dropped_one (leads_to wid) x xs (false_from_ne_true (leads_to wid x) (λ e.
    let a = h 0 x (omega arith) (omega arith) in
    let b = eqb-true (led_to x) wid e in
    absurd (omega (arith, a, b))))
    ∙ lower_skipped wid xs i (λ j d below within. h (suc j) d (omega arith) (omega arith))

-- where the first links are found that lead to no lower number
pub first_skipped : (wid : ℕ) (xs : List Link) (i : ℕ) → IsPartitionPoint (λ y. ltb (led_to y) wid ≡ true) (λ y. ltb (led_to y) wid ≡ false) xs i → filter (leads_to wid) xs ≡ filter (leads_to wid) (drop i xs)
first_skipped wid xs i point = lower_skipped wid xs i (λ j d below within. ltb-true (led_to (get_or xs j d)) wid (point.0 j d (omega arith) below))

-- nor before a place behind a link that leads to a lower number
pub behind_skipped : (wid : ℕ) (xs : List Link) (i : ℕ) (d : Link) → IsNonDecreasingBy led_to xs → 0 < i → i ≤ length xs → led_to (get_or xs (i - 1) d) < wid → filter (leads_to wid) xs ≡ filter (leads_to wid) (drop i xs)
behind_skipped wid xs i d up some within below = lower_skipped wid xs i (λ j e before there.
    let last : led_to (get_or xs j e) ≤ led_to (get_or xs (i - 1) e) = up j (i - 1) e (omega arith) (omega arith) in
    let same : led_to (get_or xs (i - 1) e) ≡ led_to (get_or xs (i - 1) d) = ap led_to (one_link xs (i - 1) e d (omega arith)) in
    omega (arith, last, same, below))
  where
    one_link : (ys : List Link) (k : ℕ) (a b : Link) → k < length ys → get_or ys k a ≡ get_or ys k b
    one_link [] k a b lt = absurd (omega arith)
    one_link (y ∷ ys) zero a b lt = refl
    one_link (y ∷ ys) (suc k) a b lt = one_link ys k a b (omega arith)

-- nor from one on that leads to a higher number
none_from : (wid : ℕ) (x : Link) (xs : List Link) → IsNonDecreasingBy led_to (x ∷ xs) → wid < led_to x → filter (leads_to wid) (x ∷ xs) ≡ []
none_from wid x xs h above = none_lead wid (x ∷ xs) (λ j d lt e.
    let a : led_to x ≤ led_to (get_or (x ∷ xs) j d) = h 0 j d (omega arith) lt in
    absurd (omega (arith, a, above, e)))

-- nor where the first one does
pub none_at : (wid : ℕ) (xs : List Link) (d : Link) → 0 < length xs → IsNonDecreasingBy led_to xs → wid < led_to (get_or xs 0 d) → filter (leads_to wid) xs ≡ []
none_at wid [] d some up above = absurd (omega arith)
none_at wid (x ∷ xs) d some up above = none_from wid x xs up above

-- one more is put on a list, and then those that are left
one_more : (wid : ℕ) (x : Link) (xs : List Link) (before : List (ℕ × ℕ)) → (before ++ map turned_round (filter (leads_to wid) (x ∷ []))) ++ map turned_round (filter (leads_to wid) xs)
    ≡ before ++ map turned_round (filter (leads_to wid) (x ∷ xs))
one_more wid x xs before = elim (cases_Bool (leads_to wid x)) [
  | inl c ↦ ap (λ (ys : List Link). (before ++ map turned_round ys) ++ map turned_round (filter (leads_to wid) xs)) (filter_kept_one (leads_to wid) x [] c)
      ∙ append_assoc before (turned_round x ∷ []) (map turned_round (filter (leads_to wid) xs))
      ∙ ap (λ (ys : List Link). before ++ map turned_round ys) (sym (filter_kept_one (leads_to wid) x xs c))
  | inr c ↦ ap (λ (ys : List Link). (before ++ map turned_round ys) ++ map turned_round (filter (leads_to wid) xs)) (filter_dropped_one (leads_to wid) x [] c)
      ∙ ap (λ (ys : List (ℕ × ℕ)). ys ++ map turned_round (filter (leads_to wid) xs)) (append-nil before)
      ∙ ap (λ (ys : List Link). before ++ map turned_round ys) (sym (filter_dropped_one (leads_to wid) x xs c))
]

-- What is on a list, and then what is left of the links, are all that come.
abbrev pub comes_to : ℕ → List (ℕ × ℕ) → List Link → List (ℕ × ℕ)
comes_to wid list left = list ++ map turned_round (filter (leads_to wid) left)

pub comes_more : (wid : ℕ) (xs : List Link) (i : ℕ) (d : Link) (list after : List (ℕ × ℕ)) → i < length xs → after ≡ comes_to wid list (get_or xs i d ∷ []) → comes_to wid list (drop i xs) ≡ comes_to wid after (drop (i + 1) xs)
comes_more wid xs i d list after within e =
    ap (comes_to wid list) (drop_more xs i d within)
    ∙ sym (one_more wid (get_or xs i d) (drop (i + 1) xs) list) ∙ ap (λ (ys : List (ℕ × ℕ)). comes_to wid ys (drop (i + 1) xs)) (sym e)

pub comes_none : (wid : ℕ) (xs : List Link) (i : ℕ) (d : Link) (list : List (ℕ × ℕ)) → i < length xs → IsNonDecreasingBy led_to xs → wid < led_to (get_or xs i d) → comes_to wid list (drop i xs) ≡ list
comes_none wid xs i d list within up above =
    let e = drop_more xs i d within in
    let left = subst (IsNonDecreasingBy led_to) e (IsNonDecreasingBy-drop led_to i xs up) in
    ap (λ (ys : List Link). list ++ map turned_round ys) (ap (filter (leads_to wid)) e ∙ none_from wid (get_or xs i d) (drop (i + 1) xs) left above) ∙ append-nil list

pub comes_end : (wid : ℕ) (xs : List Link) (i : ℕ) (list : List (ℕ × ℕ)) → length xs ≤ i → comes_to wid list (drop i xs) ≡ list
comes_end wid xs i list past = ap (comes_to wid list) (drop_all i xs past) ∙ append-nil list

-- ---- what the tables have of them

sorted_filter : (p : Link → Bool) (es : List Link) → ascending (entry_cmp linked_codec) es ≡ true → ascending (entry_cmp linked_codec) (filter p es) ≡ true
sorted_filter p [] h = refl
sorted_filter p (e ∷ es) h =
    let above = λ (z : Link). is_lt (entry_cmp linked_codec e z) in
    let k = and_parts (list_all above es) (ascending (entry_cmp linked_codec) es) h in
    elim (cases_Bool (p e)) [
      | inl c ↦ ap (ascending (entry_cmp linked_codec)) (filter_kept_one p e es c)
          ∙ and_from (list_all above (filter p es)) (ascending (entry_cmp linked_codec) (filter p es)) (list_all-filter above p es k.0) (sorted_filter p es k.1)
      | inr c ↦ ap (ascending (entry_cmp linked_codec)) (filter_dropped_one p e es c) ∙ sorted_filter p es k.1
    ]

begins_so : (wid : ℕ) (e : Link) → leads_to wid e ≡ true → is_prefix (num_bytes wid) (pair_bytes e.0) ≡ true
begins_so wid e c = subst (λ (n : ℕ). is_prefix (num_bytes n) (pair_bytes e.0) ≡ true) (eqb-true (led_to e) wid c) (prefix_append (num_bytes e.0.0) (num_bytes e.0.1))

each_filter : (wid : ℕ) (es : List Link) → AllByRecursion (IsUnder linked_codec []) es → AllByRecursion (IsUnder linked_codec (num_bytes wid)) (filter (leads_to wid) es)
each_filter wid [] a = tt
each_filter wid (e ∷ es) a = elim (cases_Bool (leads_to wid e)) [
  | inl c ↦ subst (AllByRecursion (IsUnder linked_codec (num_bytes wid))) (sym (filter_kept_one (leads_to wid) e es c))
      (record { key = a.0.key; row = a.0.row; begins = begins_so wid e c }, each_filter wid es a.1)
  | inr c ↦ subst (AllByRecursion (IsUnder linked_codec (num_bytes wid))) (sym (filter_dropped_one (leads_to wid) e es c)) (each_filter wid es a.1)
]

-- what is found among all links at a key that begins with a world's number
abbrev pub found_at : List Link → List ℕ → Option (List ℕ)
found_at es q = find bytes_cmp q (map (entry_bytes linked_codec) es)

found_filter : (wid : ℕ) → IsNum wid → (es : List Link) → AllByRecursion (IsUnder linked_codec []) es → (q : List ℕ) → is_prefix (num_bytes wid) q ≡ true
    → found_at es q ≡ found_at (filter (leads_to wid) es) q
found_filter wid n [] a q begins = refl
found_filter wid n (e ∷ es) a q begins =
    let here = eq_by_cmp bytes_cmp q (pair_bytes e.0) in
    let rest = found_filter wid n es a.1 q begins in
    elim (cases_Bool (leads_to wid e)) [
      | inl c ↦ ap (cond here (Some [])) rest ∙ ap (λ (xs : List Link). found_at xs q) (sym (filter_kept_one (leads_to wid) e es c))
      | inr c ↦ cond-false here (Some []) (found_at es q) (false_from_ne_true here (λ k.
          let same : q ≡ pair_bytes e.0 = same_place q (pair_bytes e.0) k in
          let one = first_is wid n e.0 a.0.key (ap (is_prefix (num_bytes wid)) (sym same) ∙ begins) in
          false≢true (sym c ∙ eq-eqb (led_to e) wid one)))
          ∙ rest ∙ ap (λ (xs : List Link). found_at xs q) (sym (filter_dropped_one (leads_to wid) e es c))
    ]

-- the links that lead to a world come at the end of a list, where all links were read
pub found_links : (t : Tables) (wid : ℕ) (links : List Link) (are_all : Bool) (before after : List (ℕ × ℕ)) → IsNum wid → AreAllLinks t are_all links → are_all ≡ true
    → after ≡ before ++ map turned_round (filter (leads_to wid) links) → ArePushed t wid before after
found_links t wid links are_all before after n h all e =
    let k = h all in
    record {
      more = map turned_round (filter (leads_to wid) links);
      linked = record {
        entries = filter (leads_to wid) links;
        under = record {
          each = each_filter wid links k.each;
          sorted = sorted_filter (leads_to wid) links k.sorted;
          found = λ q begins. k.found q refl ∙ found_filter wid n links k.each q begins;
        };
        listed = refl;
      };
      list = e;
    }

-- links that were read are those of the tables while only rows of worlds change
pub links_stay : (t u : Tables) → SamePlacesBut is_rows t u → (are_all : Bool) (links : List Link) → AreAllLinks t are_all links → AreAllLinks u are_all links
links_stay t u same are_all links h all =
    let k = h all in
    record { each = k.each; sorted = k.sorted; found = λ q begins. same (8 ∷ q) refl ∙ k.found q begins }

pub links_same : (t u : Tables) → u ≡ t → (are_all : Bool) (links : List Link) → AreAllLinks t are_all links → AreAllLinks u are_all links
links_same t u e are_all links h = subst (λ (x : Tables). AreAllLinks x are_all links) (sym e) h
