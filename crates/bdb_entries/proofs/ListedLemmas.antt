-- A table has what a function gives exactly where its rows are those that the function lists.
use Rattle.std.proofs.Common.{◌≡◌, ◌∙◌, ℕ, true, false, List, [], ◌∷◌, Option, Some, None, map, refl, ap, sym, subst}
use Rattle.std.specs.Prelude.{T}
use Rattle.std.specs.List.{list_all, AllByRecursion}
use Rattle.std.specs.declared.cmp.Ordering.{Ordering}
use Rattle.std.specs.declared.cmp.Ordering.TheVariants.{Less, Equal, Greater}
use Rattle.std.specs.Ordering.{is_eq, is_lt, eq_by_cmp, ordering_reverse}
use Rattle.std.specs.FinMap as tables
use Rattle.std.specs.FinMap.{find}
use Rattle.std.specs.FinMap.Entries.{is_sorted, below_all, same_entries}
use Rattle.std.proofs.lemmas.Bool.{and_parts, and_from, cond-true, cond-false, false≢true}
use Rattle.std.proofs.lemmas.Cmp.{nat_list_cmp_total, tied_itself}
use Rattle.bdb_base.specs.SortedSet.{ascending}
use Rattle.bdb_base.proofs.BoolLemmas.{is_T, T_of}
use Rattle.bdb_keep.specs.Tables.{Tables, bytes_cmp}
use Rattle.bdb_key.proofs.Forms.{same_bytes}
use Rattle.bdb_tables.specs.Codec.{Codec, HasOneKey, HasOneRow, place}
use Rattle.bdb_tables.specs.Spans.{AreUnder, IsUnder, entry_bytes, entry_cmp}
use Rattle.bdb_tables.specs.Writes.{Gives}
use Rattle.bdb_entries.specs.Listed.{Lists}
use Rattle.bdb_entries.proofs.ReadLemmas.{found_entry, under_fits}

head_key : (a b c d : List ℕ) (es fs : List (List ℕ × List ℕ)) → (a, b) ∷ es ≡ (c, d) ∷ fs → a ≡ c
head_key a b c d es fs e = ap key e
  where
    key : List (List ℕ × List ℕ) → List ℕ
    key [] = a
    key (x ∷ xs) = x.0

head_row : (a b c d : List ℕ) (es fs : List (List ℕ × List ℕ)) → (a, b) ∷ es ≡ (c, d) ∷ fs → b ≡ d
head_row a b c d es fs e = ap row e
  where
    row : List (List ℕ × List ℕ) → List ℕ
    row [] = b
    row (x ∷ xs) = x.1

later_entries : (x y : List ℕ × List ℕ) (es fs : List (List ℕ × List ℕ)) → x ∷ es ≡ y ∷ fs → es ≡ fs
later_entries x y es fs e = cc

module _ {Key Row : Type 0} (c : Codec Key Row) where
  entries_below : (e : Key × Row) (es : List (Key × Row)) → list_all (λ y. is_lt (entry_cmp c e y)) es ≡ true → T (below_all bytes_cmp (c.key_bytes e.0) (map (entry_bytes c) es))
  entries_below e [] h = tt
  entries_below e (y ∷ es) h =
      let p = and_parts (is_lt (entry_cmp c e y)) (list_all (λ z. is_lt (entry_cmp c e z)) es) h in
      T_of _ (and_from (is_lt (bytes_cmp (c.key_bytes e.0) (c.key_bytes y.0))) (below_all bytes_cmp (c.key_bytes e.0) (map (entry_bytes c) es)) p.0 (is_T _ (entries_below e es p.1)))

  entries_sorted : (es : List (Key × Row)) → ascending (entry_cmp c) es ≡ true → T (is_sorted bytes_cmp (map (entry_bytes c) es))
  entries_sorted [] h = tt
  entries_sorted (e ∷ es) h =
      let p = and_parts (list_all (λ y. is_lt (entry_cmp c e y)) es) (ascending (entry_cmp c) es) h in
      T_of _ (and_from (below_all bytes_cmp (c.key_bytes e.0) (map (entry_bytes c) es)) (is_sorted bytes_cmp (map (entry_bytes c) es)) (is_T _ (entries_below e es p.0)) (is_T _ (entries_sorted es p.1)))

  same_pair : (x y : Key × Row) → x.0 ≡ y.0 → x.1 ≡ y.1 → x ≡ y
  same_pair x y k r = ap (λ (a : Key). (a, x.1)) k ∙ ap (λ (b : Row). (y.0, b)) r

  one_list : HasOneKey c → HasOneRow c → (xs ys : List (Key × Row)) → AllByRecursion (IsUnder c []) xs → AllByRecursion (IsUnder c []) ys
      → map (entry_bytes c) xs ≡ map (entry_bytes c) ys → xs ≡ ys
  one_list k r [] [] a b e = refl
  one_list k r [] (y ∷ ys) a b e = absurd cc
  one_list k r (x ∷ xs) [] a b e = absurd cc
  one_list k r (x ∷ xs) (y ∷ ys) a b e =
      let es = map (entry_bytes c) xs in
      let fs = map (entry_bytes c) ys in
      let key = k x.0 y.0 a.0.key b.0.key (head_key (c.key_bytes x.0) (c.row_bytes x.1) (c.key_bytes y.0) (c.row_bytes y.1) es fs e) in
      let row = r x.1 y.1 a.0.row b.0.row (head_row (c.key_bytes x.0) (c.row_bytes x.1) (c.key_bytes y.0) (c.row_bytes y.1) es fs e) in
      ap (λ (z : Key × Row). z ∷ xs) (same_pair x y key row)
      ∙ ap (λ (zs : List (Key × Row)). y ∷ zs) (one_list k r xs ys a.1 b.1 (later_entries (entry_bytes c x) (entry_bytes c y) es fs e))

  -- a table has one list of rows
  pub under_is_one : HasOneKey c → HasOneRow c → (t : Tables) (xs ys : List (Key × Row)) → AreUnder c t [] xs → AreUnder c t [] ys → xs ≡ ys
  under_is_one k r t xs ys h g =
      one_list k r xs ys h.each g.each
      (same_entries bytes_cmp nat_list_cmp_total same_bytes (map (entry_bytes c) xs) (map (entry_bytes c) ys) (entries_sorted xs h.sorted) (entries_sorted ys g.sorted)
      (λ q. sym (h.found q refl) ∙ g.found q refl))

  -- what is listed is given
  pub under_gives : (t : Tables) (f : Key → Option Row) (es : List (Key × Row)) → AreUnder c t [] es → Lists c f es → Gives c t f
  under_gives t f es h l = record {
    fits = under_fits c t es h;
    rows = λ k fits. h.found (c.key_bytes k) refl ∙ sym (l.same k fits);
    written = l.written;
  }

  -- what is given is listed
  pub gives_under : (t : Tables) (f : Key → Option Row) (es : List (Key × Row)) → Gives c t f → Lists c f es → AreUnder c t [] es
  gives_under t f es h l = record { each = l.each; sorted = l.sorted; found = λ q begins. by q (tables.get t (c.number ∷ q)) refl (find bytes_cmp q (map (entry_bytes c) es)) refl }
    where
      here : (k : Key) → c.IsKey k → tables.get t (place c k) ≡ find bytes_cmp (c.key_bytes k) (map (entry_bytes c) es)
      here k fits = h.rows k fits ∙ l.same k fits

      by : (q : List ℕ) (o : Option (List ℕ)) → tables.get t (c.number ∷ q) ≡ o → (p : Option (List ℕ)) → find bytes_cmp q (map (entry_bytes c) es) ≡ p
          → tables.get t (c.number ∷ q) ≡ find bytes_cmp q (map (entry_bytes c) es)
      by q (Some r) e p f =
          let entry = h.fits q r e in
          subst (λ b. tables.get t (c.number ∷ b) ≡ find bytes_cmp b (map (entry_bytes c) es)) entry.key_reads.spelled (here entry.key entry.key_reads.fits)
      by q None e None f = e ∙ sym f
      by q None e (Some r) f =
          let entry = found_entry c es l.each q r f in
          subst (λ b. tables.get t (c.number ∷ b) ≡ find bytes_cmp b (map (entry_bytes c) es)) entry.key_reads.spelled (here entry.key entry.key_reads.fits)

  -- each row of a list is found
  later_found : (x : Key × Row) (all es : List (Key × Row)) → list_all (λ y. is_lt (entry_cmp c x y)) es ≡ true
      → AllByRecursion (λ e. find bytes_cmp (c.key_bytes e.0) (map (entry_bytes c) all) ≡ Some (c.row_bytes e.1)) es
      → AllByRecursion (λ e. find bytes_cmp (c.key_bytes e.0) (map (entry_bytes c) (x ∷ all)) ≡ Some (c.row_bytes e.1)) es
  later_found x all [] b h = tt
  later_found x all (e ∷ es) b h =
      let p = and_parts (is_lt (entry_cmp c x e)) (list_all (λ y. is_lt (entry_cmp c x y)) es) b in (
        cond-false (eq_by_cmp bytes_cmp (c.key_bytes e.0) (c.key_bytes x.0)) (Some (c.row_bytes x.1)) (find bytes_cmp (c.key_bytes e.0) (map (entry_bytes c) all))
            (apart (bytes_cmp (c.key_bytes x.0) (c.key_bytes e.0)) (bytes_cmp (c.key_bytes e.0) (c.key_bytes x.0)) (nat_list_cmp_total.antisymm (c.key_bytes e.0) (c.key_bytes x.0)) p.0) ∙ h.0,
        later_found x all es p.1 h.1,
      )
    where
      apart : (a b : Ordering) → b ≡ ordering_reverse a → is_lt a ≡ true → is_eq b ≡ false
      apart Less b e l = ap is_eq e
      apart Equal b e l = absurd (false≢true l)
      apart Greater b e l = absurd (false≢true l)

  pub all_found : (es : List (Key × Row)) → ascending (entry_cmp c) es ≡ true → AllByRecursion (λ e. find bytes_cmp (c.key_bytes e.0) (map (entry_bytes c) es) ≡ Some (c.row_bytes e.1)) es
  all_found [] s = tt
  all_found (x ∷ es) s =
      let p = and_parts (list_all (λ y. is_lt (entry_cmp c x y)) es) (ascending (entry_cmp c) es) s in (
        cond-true (eq_by_cmp bytes_cmp (c.key_bytes x.0) (c.key_bytes x.0)) (Some (c.row_bytes x.1)) (find bytes_cmp (c.key_bytes x.0) (map (entry_bytes c) es)) (ap is_eq (tied_itself nat_list_cmp_total (c.key_bytes x.0))),
        later_found x es es p.0 (all_found es p.1),
      )

  pub entries_found : (t : Tables) (es : List (Key × Row)) → AreUnder c t [] es → AllByRecursion (λ e. tables.get t (place c e.0) ≡ Some (c.row_bytes e.1)) es
  entries_found t es h = there es (all_found es h.sorted)
    where
      there : (ds : List (Key × Row)) → AllByRecursion (λ e. find bytes_cmp (c.key_bytes e.0) (map (entry_bytes c) es) ≡ Some (c.row_bytes e.1)) ds
          → AllByRecursion (λ e. tables.get t (place c e.0) ≡ Some (c.row_bytes e.1)) ds
      there [] f = tt
      there (d ∷ ds) f = (h.found (c.key_bytes d.0) refl ∙ f.0, there ds f.1)
