-- What copying and clearing worlds does to the rows that the tables give.
use Rattle.std.proofs.Common.{◌≡◌, ◌∙◌, ℕ, true, false, ◌||◌, nat_eq, List, [], ◌∷◌, ◌++◌, ◌⊎◌, Option, Some, None, cond, inl, inr, is_some, map, refl, ap, sym, subst}
use Rattle.std.specs.List.{list_any, list_all, AllByRecursion}
use Rattle.std.specs.Option.{option_map}
use Rattle.std.specs.Ordering.{is_eq, is_lt, eq_by_cmp}
use Rattle.std.specs.FinMap as tables
use Rattle.std.proofs.lemmas.Bool.{true≢false, false≢true, cases_Bool, and_parts, or_cases, or_left, or_right, false_from_ne_true, cond-true, cond-false, eqb-true, eq-eqb}
use Rattle.bdb_base.specs.Segments.{is_prefix}
use Rattle.bdb_base.specs.SortedSet.{ascending}
use Rattle.bdb_keep.specs.Tables.{Tables, bytes_cmp}
use Rattle.bdb_keep.proofs.RowsLemmas.{same_place}
use Rattle.bdb_key.specs.Bytes.{num_bytes, vals_bytes}
use Rattle.bdb_key.specs.Grammar.{IsNum}
use Rattle.bdb_key.specs.Rows.{mark_bytes}
use Rattle.bdb_key.proofs.Forms.{tied}
use Rattle.bdb_tables.specs.Codec.{place}
use Rattle.bdb_tables.specs.Copies.{copied, removed}
use Rattle.bdb_tables.specs.InUse.{ValKey, IsValKey, val_bytes, val_codec}
use Rattle.bdb_tables.specs.InUseLaws.{vals_are_one, vals_in_order}
use Rattle.bdb_tables.specs.Marks.{Mark}
use Rattle.bdb_tables.specs.Spans.{AreUnder, IsUnder, entry_cmp}
use Rattle.bdb_tables.specs.Writes.{IsChange, Gives, with_changes, with_row_at, with_rows_at}
use Rattle.bdb_tables.proofs.WriteLemmas.{changes_give, gives_same}
use Rattle.bdb_tables.proofs.ListLemmas.{prefix_append}
use Rattle.bdb_tables.proofs.MarkLemmas.{mark_is}
use Rattle.bdb_val.specs.Reads.{HaveTuples, world_prefix}
use Rattle.bdb_val.specs.WorldCopies.{inherited_or, key_in, rows_copied, rows_cleared, CopiesWorld, ClearsWorld}
use Rattle.bdb_val.proofs.ReadLemmas.{rows_at, world_of_key}
use Rattle.bdb_val.proofs.StateLemmas.{HasTuple, changes_keep}
use Rattle.bdb_val.proofs.ToldLemmas.{entries_stand}

-- ---- each row is found by its key

pub not_below_itself : (b : List ℕ) → is_lt (bytes_cmp b b) ≡ true → ⊥
not_below_itself b e = true≢false (sym e ∙ ap is_lt (tied b b refl))

abbrev pub IsFoundIn : List (ValKey × Mark) → ValKey × Mark → Type 0
IsFoundIn es e = rows_at es (val_bytes e.0) ≡ Some (mark_bytes e.1)

pub each_found : (es : List (ValKey × Mark)) → ascending (entry_cmp val_codec) es ≡ true → AllByRecursion (IsFoundIn es) es
each_found [] a = tt
each_found (e ∷ es) a =
    let p = and_parts (list_all (λ y. is_lt (entry_cmp val_codec e y)) es) (ascending (entry_cmp val_codec) es) a in (
      cond-true (eq_by_cmp bytes_cmp (val_bytes e.0) (val_bytes e.0)) (Some (mark_bytes e.1)) (rows_at es (val_bytes e.0)) (ap is_eq (tied (val_bytes e.0) (val_bytes e.0) refl)),
      later es p.0 (each_found es p.1),
    )
  where
    later : (ds : List (ValKey × Mark)) → list_all (λ y. is_lt (entry_cmp val_codec e y)) ds ≡ true → AllByRecursion (IsFoundIn es) ds → AllByRecursion (IsFoundIn (e ∷ es)) ds
    later [] b f = tt
    later (d ∷ ds) b f =
        let p = and_parts (is_lt (entry_cmp val_codec e d)) (list_all (λ y. is_lt (entry_cmp val_codec e y)) ds) b in (
          cond-false (eq_by_cmp bytes_cmp (val_bytes d.0) (val_bytes e.0)) (Some (mark_bytes e.1)) (rows_at es (val_bytes d.0))
              (false_from_ne_true (eq_by_cmp bytes_cmp (val_bytes d.0) (val_bytes e.0)) (λ c.
              not_below_itself (val_bytes e.0) (ap (λ z. is_lt (bytes_cmp (val_bytes e.0) z)) (sym (same_place (val_bytes d.0) (val_bytes e.0) c)) ∙ p.0))) ∙ f.0,
          later ds p.1 f.1,
        )

-- ---- rows after changes

-- where all changes at a key put one row, and there is one or the row was so, it is that row
rows_at_one : (cs : List (ValKey × Option Mark)) (g : ValKey → Option Mark) (k : ValKey) (z : Option Mark) → AllByRecursion (λ x. is_eq (val_codec.key_cmp k x.0) ≡ true → x.1 ≡ z) cs
    → ((list_any (λ x. is_eq (val_codec.key_cmp k x.0)) cs ≡ true) ⊎ (g k ≡ z)) → with_rows_at val_codec g cs k ≡ z
rows_at_one [] g k z a b = elim b [ inl e ↦ absurd (false≢true e) | inr e ↦ e ]
rows_at_one (x ∷ xs) g k z a b = elim (cases_Bool (is_eq (val_codec.key_cmp k x.0))) [
  | inl e ↦ rows_at_one xs (with_row_at val_codec g x) k z a.1 (inr (cond-true (is_eq (val_codec.key_cmp k x.0)) x.1 (g k) e ∙ a.0 e))
  | inr e ↦ rows_at_one xs (with_row_at val_codec g x) k z a.1 (left b e)
]
  where
    left : (list_any (λ y. is_eq (val_codec.key_cmp k y.0)) (x ∷ xs) ≡ true) ⊎ (g k ≡ z) → is_eq (val_codec.key_cmp k x.0) ≡ false
        → (list_any (λ y. is_eq (val_codec.key_cmp k y.0)) xs ≡ true) ⊎ (cond (is_eq (val_codec.key_cmp k x.0)) x.1 (g k) ≡ z)
    left (inl c) e = inl (ap (λ d. d || list_any (λ y. is_eq (val_codec.key_cmp k y.0)) xs) (sym e) ∙ c)
    left (inr c) e = inr (cond-false (is_eq (val_codec.key_cmp k x.0)) x.1 (g k) e ∙ c)

same_key : (a b : ValKey) → IsValKey a → IsValKey b → is_eq (val_codec.key_cmp a b) ≡ true → a ≡ b
same_key a b fa fb e = vals_are_one a b fa fb (same_place (val_bytes a) (val_bytes b) (ap is_eq (vals_in_order a b fa fb) ∙ e))

same_key_from : (a b : ValKey) → IsValKey a → IsValKey b → a ≡ b → is_eq (val_codec.key_cmp a b) ≡ true
same_key_from a b fa fb e = ap is_eq (sym (vals_in_order a b fa fb)) ∙ ap is_eq (tied (val_bytes a) (val_bytes b) (ap val_bytes e))

pub key_in_fits : (wid : ℕ) (k : ValKey) → IsNum wid → IsValKey k → IsValKey (key_in wid k)
key_in_fits wid k n f = record { world = n; rel = f.rel; key = f.key; tuple = f.tuple }

pub key_in_own : (wid : ℕ) (k : ValKey) → k.0 ≡ wid → key_in wid k ≡ k
key_in_own wid k e = ap (λ (n : ℕ). key_in n k) (sym e)

module _ (t : Tables) (f : ValKey → Option Mark) (h : Gives val_codec t f) (wid : ℕ) (n : IsNum wid) (es : List (ValKey × Mark)) (u : AreUnder val_codec t (world_prefix wid) es) where
  -- each entry is a row of the world that the tables give
  abbrev IsRow : ValKey × Mark → Type 0
  IsRow e = (IsValKey e.0) × (e.0.0 ≡ wid) × (f e.0 ≡ Some e.1)

  are_rows : AllByRecursion IsRow es
  are_rows = go es u.each (each_found es u.sorted)
    where
      go : (ds : List (ValKey × Mark)) → AllByRecursion (IsUnder val_codec (world_prefix wid)) ds → AllByRecursion (IsFoundIn es) ds → AllByRecursion IsRow ds
      go [] a b = tt
      go (d ∷ ds) a b = (
        (a.0.key, world_of_key wid n d.0 a.0.key a.0.begins, mark_is (f d.0) d.1 (sym (h.rows d.0 a.0.key) ∙ u.found (val_bytes d.0) a.0.begins ∙ b.0)),
        go ds a.1 b.1,
      )

  -- a row of the world is among the entries
  row_is_there : (k : ValKey) → IsValKey k → k.0 ≡ wid → is_some (f k) ≡ true → list_any (λ e. is_eq (val_codec.key_cmp k e.0)) es ≡ true
  row_is_there k v w s = go es are_rows (ap is_some (sym (u.found (val_bytes k) begins) ∙ h.rows k v) ∙ stands (f k) s)
    where
      begins : is_prefix (world_prefix wid) (val_bytes k) ≡ true
      begins = ap (λ (i : ℕ). is_prefix (num_bytes i) (val_bytes k)) (sym w) ∙ prefix_append (num_bytes k.0) (num_bytes k.1 ++ vals_bytes k.2 ++ num_bytes k.3)

      stands : (o : Option Mark) → is_some o ≡ true → is_some (option_map mark_bytes o) ≡ true
      stands None e = absurd (false≢true e)
      stands (Some m) e = refl

      go : (ds : List (ValKey × Mark)) → AllByRecursion IsRow ds → is_some (rows_at ds (val_bytes k)) ≡ true → list_any (λ e. is_eq (val_codec.key_cmp k e.0)) ds ≡ true
      go [] a e = absurd (false≢true e)
      go (d ∷ ds) a e = elim (cases_Bool (eq_by_cmp bytes_cmp (val_bytes k) (val_bytes d.0))) [
        | inl c ↦ or_left (is_eq (val_codec.key_cmp k d.0)) (list_any (λ y. is_eq (val_codec.key_cmp k y.0)) ds) (ap is_eq (sym (vals_in_order k d.0 v a.0.0)) ∙ c)
        | inr c ↦ or_right (is_eq (val_codec.key_cmp k d.0)) (list_any (λ y. is_eq (val_codec.key_cmp k y.0)) ds)
            (go ds a.1 (ap is_some (sym (cond-false (eq_by_cmp bytes_cmp (val_bytes k) (val_bytes d.0)) (Some (mark_bytes d.1)) (rows_at ds (val_bytes k)) c)) ∙ e))
      ]

  -- ---- clearing

  cleared_row : (k : ValKey) → IsValKey k → with_rows_at val_codec f (map removed es) k ≡ rows_cleared f wid k
  cleared_row k v = rows_at_one (map removed es) f k (rows_cleared f wid k) (each es are_rows) (elim (cases_Bool (nat_eq k.0 wid)) [
    | inr e ↦ inr (sym (cond-false (nat_eq k.0 wid) None (f k) e))
    | inl e ↦ there (f k) refl e
  ])
    where
      each : (ds : List (ValKey × Mark)) → AllByRecursion IsRow ds → AllByRecursion (λ x. is_eq (val_codec.key_cmp k x.0) ≡ true → x.1 ≡ rows_cleared f wid k) (map removed ds)
      each [] a = tt
      each (d ∷ ds) a = (
        (λ e. sym (cond-true (nat_eq k.0 wid) None (f k) (eq-eqb k.0 wid (ap (λ (z : ValKey). z.0) (same_key k d.0 v a.0.0 e) ∙ a.0.1)))),
        each ds a.1,
      )

      mapped : (ds : List (ValKey × Mark)) → list_any (λ x. is_eq (val_codec.key_cmp k x.0)) (map removed ds) ≡ list_any (λ e. is_eq (val_codec.key_cmp k e.0)) ds
      mapped [] = refl
      mapped (d ∷ ds) = ap (λ b. is_eq (val_codec.key_cmp k d.0) || b) (mapped ds)

      there : (o : Option Mark) → f k ≡ o → nat_eq k.0 wid ≡ true → (list_any (λ x. is_eq (val_codec.key_cmp k x.0)) (map removed es) ≡ true) ⊎ (f k ≡ rows_cleared f wid k)
      there None e c = inr (e ∙ sym (cond-true (nat_eq k.0 wid) None (f k) c))
      there (Some m) e c = inl (mapped es ∙ row_is_there k v (eqb-true k.0 wid c) (ap is_some e))

  -- ---- copying

  module _ (to : ℕ) (nt : IsNum to) where
    copied_row : (k : ValKey) → IsValKey k → with_rows_at val_codec f (map (copied to) es) k ≡ rows_copied f wid to k
    copied_row k v = rows_at_one (map (copied to) es) f k (rows_copied f wid to k) (each es are_rows) (elim (cases_Bool (nat_eq k.0 to)) [
      | inr e ↦ inr (sym (cond-false (nat_eq k.0 to) (inherited_or (f (key_in wid k)) (f k)) (f k) e))
      | inl e ↦ there (f (key_in wid k)) refl e
    ])
      where
        other : ValKey
        other = key_in wid k

        each : (ds : List (ValKey × Mark)) → AllByRecursion IsRow ds → AllByRecursion (λ x. is_eq (val_codec.key_cmp k x.0) ≡ true → x.1 ≡ rows_copied f wid to k) (map (copied to) ds)
        each [] a = tt
        each (d ∷ ds) a = (
          (λ e.
              let same : k ≡ key_in to d.0 = same_key k (key_in to d.0) v (key_in_fits to d.0 nt a.0.0) e in
              let back : key_in wid k ≡ d.0 = ap (key_in wid) same ∙ key_in_own wid d.0 a.0.1 in
              sym (cond-true (nat_eq k.0 to) (inherited_or (f (key_in wid k)) (f k)) (f k) (eq-eqb k.0 to (ap (λ (z : ValKey). z.0) same))
              ∙ ap (λ o. inherited_or o (f k)) (ap f back ∙ a.0.2))),
          each ds a.1,
        )

        mapped : (ds : List (ValKey × Mark)) → AllByRecursion IsRow ds → k.0 ≡ to → list_any (λ e. is_eq (val_codec.key_cmp (key_in wid k) e.0)) ds ≡ true → list_any (λ x. is_eq (val_codec.key_cmp k x.0)) (map (copied to) ds) ≡ true
        mapped [] a w e = absurd (false≢true e)
        mapped (d ∷ ds) a w e = elim (or_cases (is_eq (val_codec.key_cmp (key_in wid k) d.0)) (list_any (λ z. is_eq (val_codec.key_cmp (key_in wid k) z.0)) ds) e) [
          | inl c ↦
              let same : key_in wid k ≡ d.0 = same_key (key_in wid k) d.0 (key_in_fits wid k n v) a.0.0 c in
              let back : k ≡ key_in to d.0 = sym (key_in_own to k w) ∙ ap (key_in to) same in
              or_left (is_eq (val_codec.key_cmp k (key_in to d.0))) (list_any (λ x. is_eq (val_codec.key_cmp k x.0)) (map (copied to) ds)) (same_key_from k (key_in to d.0) v (key_in_fits to d.0 nt a.0.0) back)
          | inr c ↦ or_right (is_eq (val_codec.key_cmp k (key_in to d.0))) (list_any (λ x. is_eq (val_codec.key_cmp k x.0)) (map (copied to) ds)) (mapped ds a.1 w c)
        ]

        there : (o : Option Mark) → f (key_in wid k) ≡ o → nat_eq k.0 to ≡ true → (list_any (λ x. is_eq (val_codec.key_cmp k x.0)) (map (copied to) es) ≡ true) ⊎ (f k ≡ rows_copied f wid to k)
        there None e c = inr (sym (cond-true (nat_eq k.0 to) (inherited_or (f (key_in wid k)) (f k)) (f k) c ∙ ap (λ o. inherited_or o (f k)) e))
        there (Some m) e c = inl (mapped es are_rows (eqb-true k.0 to c) (row_is_there (key_in wid k) (key_in_fits wid k n v) refl (ap is_some e)))

-- ---- what the code owes

pub copies_world : (t u : Tables) (from to : ℕ) (es : List (ValKey × Mark)) → IsNum from → IsNum to → AreUnder val_codec t (world_prefix from) es → AllByRecursion (IsChange val_codec) (map (copied to) es)
    → u ≡ with_changes val_codec t (map (copied to) es) → CopiesWorld t u from to
copies_world t u from to es n m a c w f h =
    gives_same val_codec u (with_rows_at val_codec f (map (copied to) es)) (rows_copied f from to) (copied_row t f h from n es a to m)
    (subst (λ v. Gives val_codec v (with_rows_at val_codec f (map (copied to) es))) (sym w) (changes_give val_codec vals_in_order t f (map (copied to) es) c h))

pub clears_world : (t u : Tables) (wid : ℕ) (es : List (ValKey × Mark)) → IsNum wid → AreUnder val_codec t (world_prefix wid) es → AllByRecursion (IsChange val_codec) (map removed es)
    → u ≡ with_changes val_codec t (map removed es) → ClearsWorld t u wid
clears_world t u wid es n a c w f h =
    gives_same val_codec u (with_rows_at val_codec f (map removed es)) (rows_cleared f wid) (cleared_row t f h wid n es a)
    (subst (λ v. Gives val_codec v (with_rows_at val_codec f (map removed es))) (sym w) (changes_give val_codec vals_in_order t f (map removed es) c h))

all_mapped : (m : ValKey × Mark → ValKey × Option Mark) (Q : ValKey × Mark → Type 0) (P : ValKey × Option Mark → Type 0) → ((e : ValKey × Mark) → Q e → P (m e)) → (es : List (ValKey × Mark)) → AllByRecursion Q es
    → AllByRecursion P (map m es)
all_mapped m Q P h [] a = tt
all_mapped m Q P h (e ∷ es) a = (h e a.0, all_mapped m Q P h es a.1)

-- each row has its tuple still
pub mapped_keep_tuples : (m : ValKey × Mark → ValKey × Option Mark) → ((e : ValKey × Mark) → (m e).0.3 ≡ e.0.3) → (t u : Tables) (prefix : List ℕ) (es : List (ValKey × Mark)) → HaveTuples t
    → AreUnder val_codec t prefix es → AllByRecursion (IsChange val_codec) (map m es) → u ≡ with_changes val_codec t (map m es) → HaveTuples u
mapped_keep_tuples m same t u prefix es h a c w =
    subst HaveTuples (sym w) (changes_keep (map m es) t h c
    (all_mapped m (λ e. HasTuple t e.0.3) (λ x. HasTuple t x.0.3) (λ e k. subst (HasTuple t) (sym (same e)) k) es (each es (entries_stand t prefix es a))))
  where
    each : (ds : List (ValKey × Mark)) → AllByRecursion (λ e. IsValKey e.0 × (is_some (tables.get t (place val_codec e.0)) ≡ true)) ds → AllByRecursion (λ e. HasTuple t e.0.3) ds
    each [] a = tt
    each (d ∷ ds) a = (h d.0 a.0.0 a.0.1, each ds a.1)
