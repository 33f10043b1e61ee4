-- Tables from which all rows are taken.
use Rattle.std.proofs.Common.{◌≡◌, ◌∙◌, ℕ, ◌+◌, ◌≤◌, true, false, ◌&&◌, nat_eq, nat_le, nat_lt, cond, List, [], ◌∷◌, Option, Some, None, refl, ap, sym, subst, inl, inr, arith}
use Rattle.std.specs.Prelude.{IsTrue}
use Rattle.std.specs.FinMap as tables
use Rattle.std.specs.FinMap.{get-remove}
use Rattle.std.specs.Ordering.{eq_by_cmp, is_le}
use Rattle.std.proofs.lemmas.Bool.{cases_Bool, false≢true, false_from_ne_true, eqb-true, eq-eqb}
use Rattle.std.proofs.lemmas.Bool.Decides.{nat_tests}
use Rattle.std.proofs.lemmas.Cmp.{nat_list_cmp_total}
use Rattle.bdb_keep.specs.Tables.{LieInTables, NoneFrom, Tables, bytes_cmp}
use Rattle.bdb_keep.proofs.RowsLemmas.{same_place}
use Rattle.bdb_tables.specs.Stored.{SameBut}
use Rattle.bdb_update.specs.StoredLaws.{HaveNoRows}
use Rattle.bdb_stored.specs.Writing.{AreCleared, IsCleared, table_is_before}

-- ---- one table

-- a row that is taken away is of its table
pub remove_same : (t u : Tables) (tab : ℕ) (key : List ℕ) → u ≡ tables.remove t (tab ∷ key) → SameBut (nat_eq tab) t u
remove_same t u tab key e n k out =
    ap (λ x. tables.get x (n ∷ k)) e ∙ get-remove nat_list_cmp_total t (tab ∷ key) (n ∷ k)
    ∙ ap (λ b. cond b None (tables.get t (n ∷ k))) (false_from_ne_true (eq_by_cmp bytes_cmp (n ∷ k) (tab ∷ key)) (λ s.
    let same : n ≡ tab = first (same_place (n ∷ k) (tab ∷ key) s) in
    false≢true (sym out ∙ eq-eqb tab n (sym same))))
  where
    first : n ∷ k ≡ tab ∷ key → n ≡ tab
    first s = cc

pub same_later : (tab : ℕ) (t u v : Tables) → SameBut (nat_eq tab) t u → SameBut (nat_eq tab) u v → SameBut (nat_eq tab) t v
same_later tab t u v a b n k out = b n k out ∙ a n k out

pub none_found : (t u v : Tables) (tab : ℕ) → SameBut (nat_eq tab) t u → v ≡ u → NoneFrom u tab [] → IsCleared tab t v
none_found t u v tab same e none = subst (IsCleared tab t) (sym e) (record { none = λ k. none k (least k); others = same })
  where
    least : (k : List ℕ) → IsTrue (is_le (bytes_cmp [] k))
    least [] = refl
    least (i ∷ k) = refl

-- ---- one table after another

pub cleared_begin : (t : Tables) → AreCleared 1 t t
cleared_begin t = record { none = λ n k e. absurd (false≢true (sym (nothing n) ∙ e)); others = λ n k out. refl }
  where
    nothing : (n : ℕ) → (nat_le 1 n && nat_lt n 1) ≡ false
    nothing n = grind (arith, nat_tests)

pub cleared_more : (t u v : Tables) (tab next : ℕ) → 1 ≤ tab → next ≡ tab + 1 → AreCleared tab t u → IsCleared tab u v → AreCleared next t v
cleared_more t u v tab next le is a c = record {
  none = λ n k e. elim (cases_Bool (nat_eq tab n)) [
    | inl s ↦ ap (λ m. tables.get v (m ∷ k)) (sym (eqb-true tab n s)) ∙ c.none k
    | inr s ↦ c.others n k s ∙ a.none n k (earlier n e s)
  ];
  others = λ n k out. c.others n k (other n out) ∙ a.others n k (less n out);
}
  where
    earlier : (n : ℕ) → table_is_before next n ≡ true → nat_eq tab n ≡ false → table_is_before tab n ≡ true
    earlier n e s = grind (arith, nat_tests)

    other : (n : ℕ) → table_is_before next n ≡ false → nat_eq tab n ≡ false
    other n out = grind (arith, nat_tests)

    less : (n : ℕ) → table_is_before next n ≡ false → table_is_before tab n ≡ false
    less n out = grind (arith, nat_tests)

-- ---- no other table has rows

-- no table is there before or behind those that a keeper has
no_row_outside : (t : Tables) → LieInTables t → (n : ℕ) (k : List ℕ) → table_is_before 16 n ≡ false → tables.get t (n ∷ k) ≡ None
no_row_outside t lie n k out = by (tables.get t (n ∷ k)) refl
  where
    within : (m : ℕ) → 1 ≤ m → m ≤ 15 → table_is_before 16 m ≡ true
    within m low high = grind (arith, nat_tests)

    by : (o : Option (List ℕ)) → tables.get t (n ∷ k) ≡ o → o ≡ None
    by None e = refl
    by (Some r) e = let there = lie (n ∷ k) r e in absurd (false≢true (sym out ∙ within n there.0 there.1))

pub all_cleared : (t u : Tables) → LieInTables u → AreCleared 16 t u → HaveNoRows u
all_cleared t u lie a n k = elim (cases_Bool (table_is_before 16 n)) [
  | inl e ↦ a.none n k e
  | inr e ↦ no_row_outside u lie n k e
]
