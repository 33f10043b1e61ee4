-- The rows that are read from tables are those of the function that the tables give.
use Rattle.std.proofs.Common.{◌≡◌, ◌∙◌, ℕ, ◌≤◌, Bool, true, false, nat_eq, List, [], ◌∷◌, ◌++◌, Option, Some, None, MatchOption, cond, inl, inr, refl, ap, sym, subst, is_some, map, arith}
use Rattle.std.specs.List.{list_any, list_all, AllByRecursion}
use Rattle.std.specs.Option.{option_map}
use Rattle.std.specs.Ordering.{is_lt, eq_by_cmp}
use Rattle.std.specs.FinMap as tables
use Rattle.std.specs.FinMap.{find}
use Rattle.std.proofs.lemmas.Bool.{true≢false, false≢true, cases_Bool, and_parts, and_from, or_from, false_from_ne_true, cond-true, cond-false, eqb-true, eq-eqb}
use Rattle.bdb_base.specs.declared.kinds.Value.{Value}
use Rattle.bdb_base.specs.declared.tuple.Tuple.{Tuple}
use Rattle.bdb_base.specs.Clash.{key_of}
use Rattle.bdb_base.specs.Same.{same_values}
use Rattle.bdb_base.specs.SameLemmas.{same_values-Decides}
use Rattle.bdb_base.specs.Segments.{is_prefix}
use Rattle.bdb_base.specs.SortedSet.{ascending}
use Rattle.bdb_base.proofs.OptionLemmas.{none_is_some, same_some}
use Rattle.bdb_base.proofs.ListLemmas.{take_short}
use Rattle.bdb_base.proofs.SegmentLemmas.{is_prefix_shorter}
use Rattle.bdb_keep.specs.Tables.{Tables, bytes_cmp}
use Rattle.bdb_keep.proofs.RowsLemmas.{same_place}
use Rattle.bdb_keep.proofs.Gets.{key_itself}
use Rattle.bdb_key.specs.Bytes.{num_bytes, vals_bytes}
use Rattle.bdb_key.specs.Grammar.{IsNum, AreKeyVals}
use Rattle.bdb_key.specs.Rows.{IsTupleRow, tuple_bytes, mark_bytes}
use Rattle.bdb_key.proofs.Forms.{tied}
use Rattle.bdb_key.proofs.Readings.{num_form}
use Rattle.bdb_key.proofs.Compared.{take_plain}
use Rattle.bdb_tables.specs.Codec.{HasRow}
use Rattle.bdb_tables.specs.InUse.{ValKey, IsValKey, val_bytes, tuple_codec, val_codec}
use Rattle.bdb_tables.specs.InUseLaws.{vals_are_one, mark_rows_are_one, tuple_rows_are_one}
use Rattle.bdb_tables.specs.Spans.{AreUnder, IsUnder, entry_bytes, entry_cmp}
use Rattle.bdb_tables.proofs.PartLemmas.{vals_form}
use Rattle.bdb_tables.specs.Marks.{Mark}
use Rattle.bdb_tables.specs.Rows.{AreKeyLengths}
use Rattle.bdb_tables.specs.GroupMarks.{group_bytes}
use Rattle.bdb_tables.proofs.ListLemmas.{prefix_append, prefix_rest}
use Rattle.bdb_val.specs.Settling.{mark_in, AreNamed, numbers_are_apart, row_key}
use Rattle.bdb_val.specs.Reads.{AreTold, AreReadUnder, HasRows, IsSpan, world_prefix, is_of_group}
use Rattle.bdb_val.specs.declared.stored.StoredRow.{StoredRow}

-- the rows as they are found by the bytes of their keys
abbrev pub rows_at : List (ValKey × Mark) → List ℕ → Option (List ℕ)
rows_at es q = find bytes_cmp q (map (entry_bytes val_codec) es)

-- each entry of a list is found there
pub entry_found : (es all : List (ValKey × Mark)) → ((q : List ℕ) → is_some (rows_at es q) ≡ true → is_some (rows_at all q) ≡ true)
    → AllByRecursion (λ e. is_some (rows_at all (val_bytes e.0)) ≡ true) es
entry_found [] all k = tt
entry_found (e ∷ es) all k = (
  k (val_bytes e.0) (ap is_some (cond-true (eq_by_cmp bytes_cmp (val_bytes e.0) (val_bytes e.0)) (Some (mark_bytes e.1)) (rows_at es (val_bytes e.0)) (key_itself (val_bytes e.0)))),
  entry_found es all (λ q s. k q (later (eq_by_cmp bytes_cmp q (val_bytes e.0)) (mark_bytes e.1) (rows_at es q) s)),
)
  where
    later : (b : Bool) (r : List ℕ) (o : Option (List ℕ)) → is_some o ≡ true → is_some (cond b (Some r) o) ≡ true
    later true r o s = refl
    later false r o s = s

pub one_number : (tuple : ℕ → Option Tuple) (a b : ℕ) (t u : Tuple) → tuple a ≡ Some t → tuple b ≡ Some u → a ≡ b → t ≡ u
one_number tuple a b t u p q e = let l : tuple a ≡ tuple b = ap tuple e in cc

-- ---- keys of tuples

-- the key of a tuple of the grammar may stand in a row's key
pub key_of_fits : (keys : ℕ → ℕ) → AreKeyLengths keys → (u : Tuple) → IsTupleRow u → AreKeyVals (key_of keys u)
key_of_fits keys lengths u g = record { short = fewer (take_short (keys u.rel) u.vals) (lengths u.rel g.rel); plain = take_plain (keys u.rel) u.vals g.plain }
  where
    fewer : {m n : ℕ} → m ≤ n → IsNum n → IsNum m
    fewer le lt = omega (arith, le, lt)

-- ---- what tables have

module _ (keys : ℕ → ℕ) (tuple : ℕ → Option Tuple) (f : ValKey → Option Mark) (t : Tables) (h : HasRows keys tuple f t) where
  -- the row of a number is the tuple of that number
  pub tuple_named : (tid : ℕ) (u : Tuple) → IsNum tid → HasRow tuple_codec t tid u → tuple tid ≡ Some u
  tuple_named tid u n r = one (tuple tid) (h.tuples.written tid n) (sym (h.tuples.rows tid n) ∙ r.found)
    where
      one : (o : Option Tuple) → MatchOption o (Unit {0}) IsTupleRow → option_map tuple_bytes o ≡ Some (tuple_bytes u) → o ≡ Some u
      one None w e = absurd (none_is_some (tuple_bytes u) e)
      one (Some v) w e = ap Some (tuple_rows_are_one v u w r.in_grammar (same_some (tuple_bytes v) (tuple_bytes u) e))

  told_named : (prefix : List ℕ) (es : List (ValKey × Mark)) (xs : List StoredRow) → AllByRecursion (IsUnder val_codec prefix) es → AreTold t es xs → AreNamed tuple xs
  told_named prefix [] [] a r = tt
  told_named prefix [] (x ∷ xs) a r = absurd r
  told_named prefix (e ∷ es) [] a r = absurd r
  told_named prefix (e ∷ es) (x ∷ xs) a r = (tuple_named x.tid x.tuple (subst IsNum (sym r.0.tid) a.0.key.tuple) r.0.tuple, told_named prefix es xs a.1 r.1)

  -- rows that were read have the tuples of their numbers
  pub read_named : (prefix : List ℕ) (xs : List StoredRow) → AreReadUnder t prefix xs → AreNamed tuple xs
  read_named prefix xs r = told_named prefix r.entries xs r.under.each r.told

  -- ---- each entry has its tuple's key

  -- an entry's key is that of the row of the tuple of its number
  abbrev pub HasKey : ValKey × Mark → Type 0
  HasKey e = (u : Tuple) × (tuple e.0.3 ≡ Some u) × (row_key keys e.0.0 e.0.3 u ≡ e.0)

  entries_keyed : (prefix : List ℕ) (es all : List (ValKey × Mark)) → AllByRecursion (IsUnder val_codec prefix) es
      → ((q : List ℕ) → is_prefix prefix q ≡ true → tables.get t (val_codec.number ∷ q) ≡ rows_at all q)
      → AllByRecursion (λ e. is_some (rows_at all (val_bytes e.0)) ≡ true) es → AllByRecursion HasKey es
  entries_keyed prefix [] all a g s = tt
  entries_keyed prefix (e ∷ es) all a g s = (
    h.keyed e.0 a.0.key (stands (f e.0) (sym (h.rows.rows e.0 a.0.key) ∙ g (val_bytes e.0) a.0.begins) s.0),
    entries_keyed prefix es all a.1 g s.1,
  )
    where
      stands : (o : Option Mark) → option_map mark_bytes o ≡ rows_at all (val_bytes e.0) → is_some (rows_at all (val_bytes e.0)) ≡ true → is_some o ≡ true
      stands None e s = absurd (false≢true (ap is_some e ∙ s))
      stands (Some m) e s = refl

  pub keyed_under : (prefix : List ℕ) (es : List (ValKey × Mark)) → AreUnder val_codec t prefix es → AllByRecursion HasKey es
  keyed_under prefix es u = entries_keyed prefix es es u.each u.found (entry_found es es (λ q s. s))

  -- ---- what is found by a tuple's number

  key_here : (wid tid : ℕ) (u : Tuple) (e : ValKey × Mark) → HasKey e → e.0.0 ≡ wid → tuple tid ≡ Some u → e.0.3 ≡ tid → e.0 ≡ row_key keys wid tid u
  key_here wid tid u e k w n i =
      sym k.2 ∙ ap (λ x. row_key keys x e.0.3 k.0) w ∙ ap (λ x. row_key keys wid x k.0) i ∙ ap (λ x. row_key keys wid tid x) (one_number tuple e.0.3 tid k.0 u k.1 n i)

  mark_found : (wid tid : ℕ) (u : Tuple) (prefix : List ℕ) → IsValKey (row_key keys wid tid u) → tuple tid ≡ Some u → ((k : ValKey) → IsValKey k → is_prefix prefix (val_bytes k) ≡ true → k.0 ≡ wid)
      → (es : List (ValKey × Mark)) (xs : List StoredRow) → AllByRecursion (IsUnder val_codec prefix) es → AllByRecursion HasKey es → AreTold t es xs
      → rows_at es (val_bytes (row_key keys wid tid u)) ≡ option_map mark_bytes (mark_in xs tid)
  mark_found wid tid u prefix v n w [] [] a k r = refl
  mark_found wid tid u prefix v n w [] (x ∷ xs) a k r = absurd r
  mark_found wid tid u prefix v n w (e ∷ es) [] a k r = absurd r
  mark_found wid tid u prefix v n w (e ∷ es) (x ∷ xs) a k r =
      let key = row_key keys wid tid u in
      let rest = mark_found wid tid u prefix v n w es xs a.1 k.1 r.1 in
      elim (cases_Bool (nat_eq x.tid tid)) [
        | inl b ↦
            let same : e.0 ≡ key = key_here wid tid u e k.0 (w e.0 a.0.key a.0.begins) n (sym r.0.tid ∙ eqb-true x.tid tid b) in
            cond-true (eq_by_cmp bytes_cmp (val_bytes key) (val_bytes e.0)) (Some (mark_bytes e.1)) (rows_at es (val_bytes key))
            (ap (λ (z : ValKey). eq_by_cmp bytes_cmp (val_bytes key) (val_bytes z)) same ∙ key_itself (val_bytes key))
            ∙ ap (λ m. Some (mark_bytes m)) (sym r.0.mark)
            ∙ ap (option_map mark_bytes) (sym (cond-true (nat_eq x.tid tid) (Some x.mark) (mark_in xs tid) b))
        | inr b ↦
            cond-false (eq_by_cmp bytes_cmp (val_bytes key) (val_bytes e.0)) (Some (mark_bytes e.1)) (rows_at es (val_bytes key))
            (false_from_ne_true (eq_by_cmp bytes_cmp (val_bytes key) (val_bytes e.0)) (λ c.
            let same : key ≡ e.0 = vals_are_one key e.0 v a.0.key (same_place (val_bytes key) (val_bytes e.0) c) in
            false≢true (sym b ∙ eq-eqb x.tid tid (r.0.tid ∙ ap (λ (z : ValKey). z.3) (sym same)))))
            ∙ rest
            ∙ ap (option_map mark_bytes) (sym (cond-false (nat_eq x.tid tid) (Some x.mark) (mark_in xs tid) b))
      ]

  -- the key of the row of a named tuple is in the grammar
  pub key_fits : (wid tid : ℕ) (u : Tuple) → IsNum wid → tuple tid ≡ Some u → IsValKey (row_key keys wid tid u)
  key_fits wid tid u w n =
      let s = h.sized tid u n in
      let g : IsTupleRow u = subst (λ o. MatchOption o (Unit {0}) IsTupleRow) n (h.tuples.written tid s) in
      record { world = w; rel = g.rel; key = key_of_fits keys h.lengths u g; tuple = s }

  pub tuple_row : (tid : ℕ) (u : Tuple) → tuple tid ≡ Some u → IsTupleRow u
  tuple_row tid u n = subst (λ o. MatchOption o (Unit {0}) IsTupleRow) n (h.tuples.written tid (h.sized tid u n))

  one_mark : (a b : Option Mark) → option_map mark_bytes a ≡ option_map mark_bytes b → a ≡ b
  one_mark None None e = refl
  one_mark None (Some n) e = absurd (none_is_some (mark_bytes n) e)
  one_mark (Some m) None e = absurd (none_is_some (mark_bytes m) (sym e))
  one_mark (Some m) (Some n) e = ap Some (mark_rows_are_one m n tt tt (same_some (mark_bytes m) (mark_bytes n) e))

  -- the mark of a tuple's row among those that were read is the one that the tables give
  pub read_mark : (wid : ℕ) (test : Tuple → Bool) (prefix : List ℕ) (xs : List StoredRow) → IsNum wid → IsSpan keys wid test prefix → AreReadUnder t prefix xs
      → (tid : ℕ) (u : Tuple) → tuple tid ≡ Some u → test u ≡ true → mark_in xs tid ≡ f (row_key keys wid tid u)
  read_mark wid test prefix xs w s r tid u n e =
      let key = row_key keys wid tid u in
      let v = key_fits wid tid u w n in
      one_mark (mark_in xs tid) (f key)
      (sym (mark_found wid tid u prefix v n s.world r.entries xs r.under.each (keyed_under prefix r.entries r.under) r.told)
      ∙ sym (r.under.found (val_bytes key) (s.begins tid u e)) ∙ h.rows.rows key v)

  -- ---- no number is read twice

  not_below_itself : (b : List ℕ) → is_lt (bytes_cmp b b) ≡ true → ⊥
  not_below_itself b e = true≢false (sym e ∙ ap is_lt (tied b b refl))

  apart : (prefix : List ℕ) (wid : ℕ) → ((k : ValKey) → IsValKey k → is_prefix prefix (val_bytes k) ≡ true → k.0 ≡ wid)
      → (es : List (ValKey × Mark)) (xs : List StoredRow) → AllByRecursion (IsUnder val_codec prefix) es → AllByRecursion HasKey es → ascending (entry_cmp val_codec) es ≡ true → AreTold t es xs
      → numbers_are_apart xs ≡ true
  apart prefix wid w [] [] a k s r = refl
  apart prefix wid w [] (x ∷ xs) a k s r = absurd r
  apart prefix wid w (e ∷ es) [] a k s r = absurd r
  apart prefix wid w (e ∷ es) (x ∷ xs) a k s r =
      let p = and_parts (list_all (λ y. is_lt (entry_cmp val_codec e y)) es) (ascending (entry_cmp val_codec) es) s in
      cond-false (list_any (λ y. nat_eq y.tid x.tid) xs) false (numbers_are_apart xs) (none es xs a.1 k.1 p.0 r.1) ∙ apart prefix wid w es xs a.1 k.1 p.1 r.1
    where
      none : (ds : List (ValKey × Mark)) (ys : List StoredRow) → AllByRecursion (IsUnder val_codec prefix) ds → AllByRecursion HasKey ds
          → list_all (λ y. is_lt (entry_cmp val_codec e y)) ds ≡ true → AreTold t ds ys → list_any (λ y. nat_eq y.tid x.tid) ys ≡ false
      none [] [] b l m q = refl
      none [] (y ∷ ys) b l m q = absurd q
      none (d ∷ ds) [] b l m q = absurd q
      none (d ∷ ds) (y ∷ ys) b l m q =
          let here = and_parts (is_lt (entry_cmp val_codec e d)) (list_all (λ z. is_lt (entry_cmp val_codec e z)) ds) m in
          or_from (nat_eq y.tid x.tid) (list_any (λ z. nat_eq z.tid x.tid) ys)
          (false_from_ne_true (nat_eq y.tid x.tid) (λ c.
          let same : d.0 ≡ row_key keys e.0.0 e.0.3 k.0.0 = key_here e.0.0 e.0.3 k.0.0 d l.0 (w d.0 b.0.key b.0.begins ∙ sym (w e.0 a.0.key a.0.begins)) k.0.1
          (sym q.0.tid ∙ eqb-true y.tid x.tid c ∙ r.0.tid) in
          not_below_itself (val_bytes e.0) (ap (λ (z : ValKey). is_lt (bytes_cmp (val_bytes e.0) (val_bytes z))) (sym k.0.2 ∙ sym same) ∙ here.0)))
          (none ds ys b.1 l.1 here.1 q.1)

  pub read_apart : (wid : ℕ) (test : Tuple → Bool) (prefix : List ℕ) (xs : List StoredRow) → IsSpan keys wid test prefix → AreReadUnder t prefix xs → numbers_are_apart xs ≡ true
  read_apart wid test prefix xs s r = apart prefix wid s.world r.entries xs r.under.each (keyed_under prefix r.entries r.under) r.under.sorted r.told

  -- rows that were read pass the test
  tested : (prefix : List ℕ) (wid : ℕ) (test : Tuple → Bool) → IsSpan keys wid test prefix → (es : List (ValKey × Mark)) (xs : List StoredRow) → AllByRecursion (IsUnder val_codec prefix) es
      → AllByRecursion HasKey es → AreTold t es xs → AllByRecursion (λ x. test x.tuple ≡ true) xs
  tested prefix wid test s [] [] a k r = tt
  tested prefix wid test s [] (x ∷ xs) a k r = absurd r
  tested prefix wid test s (e ∷ es) [] a k r = absurd r
  tested prefix wid test s (e ∷ es) (x ∷ xs) a k r =
      let n = tuple_named x.tid x.tuple (subst IsNum (sym r.0.tid) a.0.key.tuple) r.0.tuple in
      let same : e.0 ≡ row_key keys wid x.tid x.tuple = key_here wid x.tid x.tuple e k.0 (s.world e.0 a.0.key a.0.begins) n (sym r.0.tid) in
      (s.inside x.tid x.tuple (tuple_row x.tid x.tuple n) (ap (λ (z : ValKey). is_prefix prefix (val_bytes z)) (sym same) ∙ a.0.begins), tested prefix wid test s es xs a.1 k.1 r.1)

  pub told_tested : (wid : ℕ) (test : Tuple → Bool) (prefix : List ℕ) (xs : List StoredRow) → IsSpan keys wid test prefix → AreReadUnder t prefix xs → AllByRecursion (λ x. test x.tuple ≡ true) xs
  told_tested wid test prefix xs s r = tested prefix wid test s r.entries xs r.under.each (keyed_under prefix r.entries r.under) r.told

-- ---- the keys of a world, and of a group

pub world_of_key : (wid : ℕ) → IsNum wid → (k : ValKey) → IsValKey k → is_prefix (num_bytes wid) (val_bytes k) ≡ true → k.0 ≡ wid
world_of_key wid n k v e =
    let r = prefix_rest (num_bytes wid) (val_bytes k) e in
    (num_form k.0 wid (num_bytes k.1 ++ vals_bytes k.2 ++ num_bytes k.3) r.0 v.world n r.1).0

pub world_of_group : (wid rel : ℕ) (v : List Value) → IsNum wid → (k : ValKey) → IsValKey k → is_prefix (group_bytes wid rel v) (val_bytes k) ≡ true → k.0 ≡ wid
world_of_group wid rel v w k f e = world_of_key wid w k f (is_prefix_shorter (num_bytes wid) (num_bytes rel ++ vals_bytes v) (val_bytes k) e)

pub world_span : (keys : ℕ → ℕ) (wid : ℕ) → IsNum wid → IsSpan keys wid (λ _. true) (world_prefix wid)
world_span keys wid n = record {
  world = world_of_key wid n;
  begins = λ tid u _. prefix_append (num_bytes wid) (num_bytes u.rel ++ vals_bytes (key_of keys u) ++ num_bytes tid);
  inside = λ _ _ _ _. refl;
}

pub group_span : (keys : ℕ → ℕ) → AreKeyLengths keys → (wid rel : ℕ) (v : List Value) → IsNum wid → IsNum rel → AreKeyVals v → IsSpan keys wid (is_of_group keys rel v) (group_bytes wid rel v)
group_span keys lengths wid rel v w r p = record {
  world = world_of_group wid rel v w;
  begins = λ tid u e.
      let k = and_parts (nat_eq u.rel rel) (same_values (key_of keys u) v) e in
      let a : u.rel ≡ rel = eqb-true u.rel rel k.0 in
      let b : key_of keys u ≡ v = (same_values-Decides (key_of keys u) v).0 k.1 in
      ap (λ (x : ℕ). is_prefix (group_bytes wid rel v) (val_bytes (wid, x, key_of keys u, tid))) a
      ∙ ap (λ (x : List Value). is_prefix (group_bytes wid rel v) (val_bytes (wid, rel, x, tid))) b
      ∙ prefix_append (group_bytes wid rel v) (num_bytes tid);
  inside = λ tid u g e.
      let s = prefix_rest (group_bytes wid rel v) (val_bytes (row_key keys wid tid u)) e in
      let one = num_form wid wid (num_bytes u.rel ++ vals_bytes (key_of keys u) ++ num_bytes tid) (num_bytes rel ++ vals_bytes v ++ s.0) w w s.1 in
      let two = num_form u.rel rel (vals_bytes (key_of keys u) ++ num_bytes tid) (vals_bytes v ++ s.0) g.rel r one.1 in
      let three = vals_form (key_of keys u) v (num_bytes tid) s.0 (key_of_fits keys lengths u g) p two.1 in
      and_from (nat_eq u.rel rel) (same_values (key_of keys u) v) (eq-eqb u.rel rel two.0) ((same_values-Decides (key_of keys u) v).1 three.0);
}
