-- The rows of a table whose keys begin so, typed: what is read is what the tables show.
use Rattle.std.proofs.Common.{◌≡◌, ◌∙◌, ℕ, true, false, cond, nat_eq, List, [], ◌∷◌, Some, None, map, refl, ap, sym, inl, inr}
use Rattle.std.specs.Prelude.{T}
use Rattle.std.specs.List.{list_all, AllByRecursion}
use Rattle.std.specs.Ordering.{is_lt, is_eq, eq_by_cmp, ordering_then}
use Rattle.std.specs.FinMap as tables
use Rattle.std.specs.FinMap.{find}
use Rattle.std.specs.FinMap.Entries.{is_sorted, below_all, find-where_key, is_sorted-where_key, same_entries}
use Rattle.std.proofs.lemmas.Bool.{cases_Bool, and_parts, and_from, cond-true, cond-false, false≢true, false_from_ne_true, eqb-true, eq-eqb}
use Rattle.std.proofs.lemmas.Cmp.{nat_list_cmp_total}
use Rattle.bdb_base.specs.Segments.{is_prefix}
use Rattle.bdb_base.specs.SortedSet.{ascending}
use Rattle.bdb_keep.specs.Tables.{Tables, bytes_cmp}
use Rattle.bdb_key.proofs.Forms.{same_bytes}
use Rattle.bdb_base.proofs.Numbers.{equal}
use Rattle.bdb_base.proofs.BoolLemmas.{T_of, is_T}
use Rattle.bdb_keep.proofs.RowsLemmas.{same_place}
use Rattle.bdb_tables.specs.Codec.{Codec, place}
use Rattle.bdb_tables.specs.Spans.{AreUnder, IsUnder, entry_bytes, entry_cmp}
use Rattle.bdb_exec.specs.Seen.{rows_at}

-- places are compared as their keys are
same_table : (n : ℕ) (k q : List ℕ) → bytes_cmp (n ∷ k) (n ∷ q) ≡ bytes_cmp k q
same_table n k q = ap (λ o. ordering_then o (bytes_cmp k q)) (equal n)

module _ {Key Row : Type 0} (c : Codec Key Row) where
  -- a row with its place
  abbrev pub raw : Key × Row → List ℕ × List ℕ
  raw e = (place c e.0, c.row_bytes e.1)

  raw_below : (e : Key × Row) (es : List (Key × Row)) → list_all (λ y. is_lt (entry_cmp c e y)) es ≡ true → T (below_all bytes_cmp (place c e.0) (map raw es))
  raw_below e [] h = tt
  raw_below e (y ∷ es) h =
      let p = and_parts (is_lt (entry_cmp c e y)) (list_all (λ z. is_lt (entry_cmp c e z)) es) h in
      T_of _ (and_from (is_lt (bytes_cmp (place c e.0) (place c y.0))) (below_all bytes_cmp (place c e.0) (map raw es))
      (ap is_lt (same_table c.number (c.key_bytes e.0) (c.key_bytes y.0)) ∙ p.0) (is_T _ (raw_below e es p.1)))

  raw_sorted : (es : List (Key × Row)) → ascending (entry_cmp c) es ≡ true → T (is_sorted bytes_cmp (map raw es))
  raw_sorted [] h = tt
  raw_sorted (e ∷ es) h =
      let p = and_parts (list_all (λ y. is_lt (entry_cmp c e y)) es) (ascending (entry_cmp c) es) h in
      T_of _ (and_from (below_all bytes_cmp (place c e.0) (map raw es)) (is_sorted bytes_cmp (map raw es)) (is_T _ (raw_below e es p.0)) (is_T _ (raw_sorted es p.1)))

  -- what is found by a place is found by its key
  raw_find : (k : List ℕ) (es : List (Key × Row)) → find bytes_cmp (c.number ∷ k) (map raw es) ≡ find bytes_cmp k (map (entry_bytes c) es)
  raw_find k [] = refl
  raw_find k (e ∷ es) =
      ap (λ o. cond (is_eq o) (Some (c.row_bytes e.1)) (find bytes_cmp (c.number ∷ k) (map raw es))) (same_table c.number k (c.key_bytes e.0))
      ∙ ap (λ x. cond (eq_by_cmp bytes_cmp k (c.key_bytes e.0)) (Some (c.row_bytes e.1)) x) (raw_find k es)

  -- nothing is found by a place that begins otherwise
  raw_none : (prefix q : List ℕ) (es : List (Key × Row)) → is_prefix (c.number ∷ prefix) q ≡ false → AllByRecursion (IsUnder c prefix) es → find bytes_cmp q (map raw es) ≡ None
  raw_none prefix q [] h a = refl
  raw_none prefix q (e ∷ es) h a =
      cond-false (eq_by_cmp bytes_cmp q (place c e.0)) (Some (c.row_bytes e.1)) (find bytes_cmp q (map raw es))
      (false_from_ne_true (eq_by_cmp bytes_cmp q (place c e.0)) (λ s. false≢true (sym h ∙ ap (is_prefix (c.number ∷ prefix)) (same_place q (place c e.0) s) ∙ begins)))
      ∙ raw_none prefix q es h a.1
    where
      begins : is_prefix (c.number ∷ prefix) (place c e.0) ≡ true
      begins = and_from (nat_eq c.number c.number) (is_prefix prefix (c.key_bytes e.0)) (eq-eqb c.number c.number refl) a.0.begins

  -- the rows of tables that begin so, by place
  pub at_find : (t : Tables) (begin q : List ℕ) → find bytes_cmp q (rows_at t begin) ≡ cond (is_prefix begin q) (tables.get t q) None
  at_find t begin q =
      find-where_key bytes_cmp (is_prefix begin) q (λ x same. ap (is_prefix begin) (sym (same_bytes q x same))) (tables.entries t)
      ∙ ap (λ o. cond (is_prefix begin q) o None) (sym (tables.get-entries t q))

  pub rows_are : (t : Tables) (prefix : List ℕ) (es : List (Key × Row)) → AreUnder c t prefix es → rows_at t (c.number ∷ prefix) ≡ map raw es
  rows_are t prefix es u =
      same_entries bytes_cmp nat_list_cmp_total same_bytes (rows_at t (c.number ∷ prefix)) (map raw es)
      (is_sorted-where_key bytes_cmp (is_prefix (c.number ∷ prefix)) (tables.entries t) (tables.entries_sorted t)) (raw_sorted es u.sorted) found
    where
      found : (q : List ℕ) → find bytes_cmp q (rows_at t (c.number ∷ prefix)) ≡ find bytes_cmp q (map raw es)
      found q = elim (cases_Bool (is_prefix (c.number ∷ prefix) q)) [
        | inl e ↦ at_find t (c.number ∷ prefix) q ∙ cond-true (is_prefix (c.number ∷ prefix) q) (tables.get t q) None e ∙ inside q e
        | inr e ↦ at_find t (c.number ∷ prefix) q ∙ cond-false (is_prefix (c.number ∷ prefix) q) (tables.get t q) None e ∙ sym (raw_none prefix q es e u.each)
      ]
        where
          inside : (q : List ℕ) → is_prefix (c.number ∷ prefix) q ≡ true → tables.get t q ≡ find bytes_cmp q (map raw es)
          inside [] e = absurd (false≢true e)
          inside (m ∷ k) e =
              let p = and_parts (nat_eq c.number m) (is_prefix prefix k) e in
              let n : c.number ≡ m = eqb-true c.number m p.0 in
              ap (λ x. tables.get t (x ∷ k)) (sym n) ∙ u.found k p.1 ∙ sym (raw_find k es) ∙ ap (λ x. find bytes_cmp (x ∷ k) (map raw es)) n
