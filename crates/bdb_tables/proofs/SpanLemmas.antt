-- Rows that are read one after the other from a beginning on are all whose keys begin so.
use Rattle.std.proofs.Common.{◌≡◌, ℕ, true, false, cond, List, [], ◌∷◌, ◌++◌, Option, Some, None, map, refl, sym, ap, subst, ◌∙◌, inl, inr}
use Rattle.std.specs.Prelude.{is_some}
use Rattle.std.specs.declared.cmp.Ordering.{Ordering}
use Rattle.std.specs.declared.cmp.Ordering.TheVariants.{Less}
use Rattle.std.specs.Ordering.{is_le, is_lt, is_eq, eq_by_cmp, ordering_reverse}
use Rattle.std.specs.List.{list_all, AllByRecursion}
use Rattle.std.specs.FinMap as tables
use Rattle.std.specs.FinMap.{find}
use Rattle.std.specs.FinMap.Entries.{find-append}
use Rattle.std.proofs.lemmas.Bool.{and_parts, and_from, cases_Bool, false≢true, false_from_ne_true}
use Rattle.std.proofs.lemmas.Cmp.{nat_list_cmp_total}
use Rattle.bdb_base.specs.Segments.{is_prefix}
use Rattle.bdb_base.specs.SortedSet.{ascending}
use Rattle.bdb_base.proofs.ListLemmas.{list_all_push}
use Rattle.bdb_base.proofs.AllLemmas.{all_weaker}
use Rattle.bdb_keep.specs.Scans.{next_key}
use Rattle.bdb_keep.specs.Tables.{Tables, bytes_cmp, IsLeastFrom, NoneFrom}
use Rattle.bdb_keep.proofs.Scans.{between_keys}
use Rattle.bdb_keep.proofs.OrderLemmas.{prefix_le, prefix_convex}
use Rattle.bdb_keep.proofs.RowsLemmas.{same_place}
use Rattle.bdb_key.proofs.Readings.{all_push}
use Rattle.bdb_key.specs.Reading.{Reads}
use Rattle.bdb_tables.specs.Codec.{Codec}
use Rattle.bdb_tables.specs.Spans.{entry_bytes, entry_cmp, IsUnder, AreUnder, IsNextUnder, NoneUnder, HasNextUnder}
use Rattle.bdb_tables.proofs.Prefixes.{le_itself, lt_le_lt, le_trans, below_next}

-- ---- lists in order

ascending_push : {X : Type 0} (R : X → X → Ordering) (xs : List X) (x : X) → ascending R xs ≡ true → AllByRecursion (λ y. R y x ≡ Less) xs → ascending R (xs ++ x ∷ []) ≡ true
ascending_push R [] x h below = refl
ascending_push R (y ∷ xs) x h below =
    let both = and_parts (list_all (λ z. is_lt (R y z)) xs) (ascending R xs) h in
    and_from (list_all (λ z. is_lt (R y z)) (xs ++ x ∷ [])) (ascending R (xs ++ x ∷ []))
    (list_all_push (λ z. is_lt (R y z)) xs x both.0 (ap is_lt below.0)) (ascending_push R xs x both.1 below.1)

-- ---- rows read so far

module _ {Key Row : Type 0} where
  -- these are the rows under a beginning whose keys lie below some bytes
  pub record Covers (c : Codec Key Row) (t : Tables) (prefix low : List ℕ) (es : List (Key × Row)) : Type 0 where
    pub from : is_le (bytes_cmp prefix low) ≡ true
    pub each : AllByRecursion (IsUnder c prefix) es
    pub sorted : ascending (entry_cmp c) es ≡ true
    pub below : AllByRecursion (λ e. bytes_cmp (c.key_bytes e.0) low ≡ Less) es
    pub found : (q : List ℕ) → is_prefix prefix q ≡ true → is_le (bytes_cmp low q) ≡ false → tables.get t (c.number ∷ q) ≡ find bytes_cmp q (map (entry_bytes c) es)

  pub covers_none : (c : Codec Key Row) (t : Tables) (prefix : List ℕ) (es : List (Key × Row)) → es ≡ [] → Covers c t prefix prefix es
  covers_none c t prefix [] e = record {
    from = le_itself prefix;
    each = tt;
    sorted = refl;
    below = tt;
    found = λ q begins below. absurd (false≢true (sym below ∙ prefix_le prefix q begins));
  }
  covers_none c t prefix (x ∷ es) e = absurd cc

  -- bytes from `low` on are no key of rows below it
  none_from : (c : Codec Key Row) (low : List ℕ) (es : List (Key × Row)) → AllByRecursion (λ e. bytes_cmp (c.key_bytes e.0) low ≡ Less) es
      → (q : List ℕ) → is_le (bytes_cmp low q) ≡ true → find bytes_cmp q (map (entry_bytes c) es) ≡ None
  none_from c low [] below q from = refl
  none_from c low (e ∷ es) below q from =
      let above = lt_le_lt (c.key_bytes e.0) low q below.0 from in
      ap (λ b. cond b (Some (c.row_bytes e.1)) (find bytes_cmp q (map (entry_bytes c) es))) (ap is_eq (nat_list_cmp_total.antisymm q (c.key_bytes e.0) ∙ ap ordering_reverse above))
      ∙ none_from c low es below.1 q from

  map_push : (c : Codec Key Row) (es : List (Key × Row)) (e : Key × Row) → map (entry_bytes c) (es ++ e ∷ []) ≡ map (entry_bytes c) es ++ entry_bytes c e ∷ []
  map_push c [] e = refl
  map_push c (x ∷ es) e = ap (λ (l : List (List ℕ × List ℕ)). entry_bytes c x ∷ l) (map_push c es e)

  pub covers_more : (c : Codec Key Row) (t : Tables) (prefix low behind : List ℕ) (es : List (Key × Row)) (e : Key × Row)
      → Covers c t prefix low es → IsNextUnder c t prefix low behind e → Covers c t prefix behind (es ++ e ∷ [])
  covers_more c t prefix low behind es e h n = record {
    from = le_trans prefix low behind h.from (le_trans low key behind n.least.not_below (ap is_le above));
    each = all_push (IsUnder c prefix) es e h.each n.under;
    sorted = ascending_push (entry_cmp c) es e h.sorted (all_weaker (λ x. bytes_cmp (c.key_bytes x.0) low ≡ Less) (λ x. bytes_cmp (c.key_bytes x.0) key ≡ Less) es (λ x lt. lt_le_lt (c.key_bytes x.0) low key lt n.least.not_below) h.below);
    below = all_push (λ x. bytes_cmp (c.key_bytes x.0) behind ≡ Less) es e
        (all_weaker (λ x. bytes_cmp (c.key_bytes x.0) low ≡ Less) (λ x. bytes_cmp (c.key_bytes x.0) behind ≡ Less) es
        (λ x lt. lt_le_lt (c.key_bytes x.0) key behind (lt_le_lt (c.key_bytes x.0) low key lt n.least.not_below) (ap is_le above)) h.below) above;
    found = λ q begins below.
        elim (cases_Bool (is_le (bytes_cmp low q))) [
          | inl from ↦ here q from below ∙ sym (listed q from) ∙ ap (find bytes_cmp q) (sym (map_push c es e))
          | inr under ↦ h.found q begins under ∙ sym (before q under) ∙ ap (find bytes_cmp q) (sym (map_push c es e))
        ];
  }
    where
      key : List ℕ
      key = c.key_bytes e.0

      above : bytes_cmp key behind ≡ Less
      above = ap (bytes_cmp key) n.moved ∙ below_next key

      absent : find bytes_cmp key (map (entry_bytes c) es) ≡ None
      absent = none_from c low es h.below key n.least.not_below

      pushed : (q : List ℕ) → find bytes_cmp q (map (entry_bytes c) es ++ entry_bytes c e ∷ []) ≡ cond (eq_by_cmp bytes_cmp q key) (Some (c.row_bytes e.1)) (find bytes_cmp q (map (entry_bytes c) es))
      pushed q = find-append bytes_cmp nat_list_cmp_total (map (entry_bytes c) es) key (c.row_bytes e.1) q absent

      before : (q : List ℕ) → is_le (bytes_cmp low q) ≡ false → find bytes_cmp q (map (entry_bytes c) es ++ entry_bytes c e ∷ []) ≡ find bytes_cmp q (map (entry_bytes c) es)
      before q under = pushed q ∙ ap (λ b. cond b (Some (c.row_bytes e.1)) (find bytes_cmp q (map (entry_bytes c) es)))
          (false_from_ne_true (eq_by_cmp bytes_cmp q key) (λ same. false≢true (sym under ∙ ap (λ x. is_le (bytes_cmp low x)) (same_place q key same) ∙ n.least.not_below)))

      here : (q : List ℕ) → is_le (bytes_cmp low q) ≡ true → is_le (bytes_cmp behind q) ≡ false → tables.get t (c.number ∷ q) ≡ cond (eq_by_cmp bytes_cmp q key) (Some (c.row_bytes e.1)) None
      here q from below = between_keys t c.number low key (c.row_bytes e.1) q n.least from (ap (λ x. is_le (bytes_cmp x q)) (sym n.moved) ∙ below)

      listed : (q : List ℕ) → is_le (bytes_cmp low q) ≡ true → find bytes_cmp q (map (entry_bytes c) es ++ entry_bytes c e ∷ []) ≡ cond (eq_by_cmp bytes_cmp q key) (Some (c.row_bytes e.1)) None
      listed q from = pushed q ∙ ap (λ o. cond (eq_by_cmp bytes_cmp q key) (Some (c.row_bytes e.1)) o) (none_from c low es h.below q from)

  pub covers_all : (c : Codec Key Row) (t : Tables) (prefix low : List ℕ) (es : List (Key × Row)) → Covers c t prefix low es → NoneUnder c t prefix low → AreUnder c t prefix es
  covers_all c t prefix low es h none = record {
    each = h.each;
    sorted = h.sorted;
    found = λ q begins. elim (cases_Bool (is_le (bytes_cmp low q))) [
      | inl from ↦ none q begins from ∙ sym (none_from c low es h.below q from)
      | inr under ↦ h.found q begins under
    ];
  }

  -- ---- what the keeper finds next

  -- no row from `low` on has such a key, where none is left
  pub none_left : (c : Codec Key Row) (t : Tables) (n : ℕ) (prefix low : List ℕ) → n ≡ c.number → NoneFrom t n low → NoneUnder c t prefix low
  none_left c t n prefix low e none q begins from = ap (λ m. tables.get t (m ∷ q)) (sym e) ∙ none q from

  -- or where the key that comes next doesn't begin so
  pub none_beyond : (c : Codec Key Row) (t : Tables) (n : ℕ) (prefix low key row : List ℕ) → n ≡ c.number → is_le (bytes_cmp prefix low) ≡ true
      → IsLeastFrom t n low key row → is_prefix prefix key ≡ false → NoneUnder c t prefix low
  none_beyond c t n prefix low key row e from least beyond q begins above = by (tables.get t (n ∷ q)) refl
    where
      by : (o : Option (List ℕ)) → tables.get t (n ∷ q) ≡ o → tables.get t (c.number ∷ q) ≡ None
      by None g = ap (λ m. tables.get t (m ∷ q)) (sym e) ∙ g
      by (Some r) g = absurd (false≢true (sym beyond ∙ prefix_convex prefix key q begins (le_trans prefix low key from least.not_below) (least.least q above (ap is_some g))))

  pub next_is_under : (c : Codec Key Row) (t : Tables) (n : ℕ) (prefix low behind key row : List ℕ) (e : Key × Row) → n ≡ c.number → IsLeastFrom t n low key row → is_prefix prefix key ≡ true
      → Reads c.IsKey c.key_bytes key e.0 → Reads c.IsRow c.row_bytes row e.1 → behind ≡ next_key key → IsNextUnder c t prefix low behind e
  next_is_under c t n prefix low behind key row e number least begins k r moved = record {
    under = record { key = k.fits; row = r.fits; begins = ap (is_prefix prefix) k.spelled ∙ begins };
    least = subst (λ m. IsLeastFrom t m low (c.key_bytes e.0) (c.row_bytes e.1)) number
        (subst (λ x. IsLeastFrom t n low x (c.row_bytes e.1)) (sym k.spelled) (subst (IsLeastFrom t n low key) (sym r.spelled) least));
    moved = moved ∙ ap next_key (sym k.spelled);
  }

  -- ---- one more row, and the end

  pub rows_more : (c : Codec Key Row) (t u : Tables) (prefix low behind : List ℕ) (es : List (Key × Row)) (found : Option (Key × Row)) (e : Key × Row) → u ≡ t → found ≡ Some e
      → Covers c t prefix low es → HasNextUnder c u prefix low behind found → Covers c t prefix behind (es ++ e ∷ [])
  rows_more c t u prefix low behind es found e same is h next =
      covers_more c t prefix low behind es e h
      (subst (λ v. IsNextUnder c v prefix low behind e) same (subst (HasNextUnder c u prefix low behind) is next))

  pub rows_end : (c : Codec Key Row) (t u : Tables) (prefix low behind : List ℕ) (es : List (Key × Row)) (found : Option (Key × Row)) → u ≡ t → found ≡ None
      → Covers c t prefix low es → HasNextUnder c u prefix low behind found → AreUnder c t prefix es
  rows_end c t u prefix low behind es found same is h next =
      covers_all c t prefix low es h (subst (λ v. NoneUnder c v prefix low) same (subst (HasNextUnder c u prefix low behind) is next))
