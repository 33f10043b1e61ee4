-- Going over all rows, place by place: the rows below a place.
use Rattle.std.proofs.Common.{◌≡◌, ◌∙◌, ℕ, ◌+◌, ◌<◌, ◌≤◌, Bool, true, false, cond, List, [], ◌∷◌, Option, Some, None, refl, ap, sym, inl, inr, arith}
use Rattle.std.specs.FinMap as tables
use Rattle.std.specs.FinMap.{get-retain_keys}
use Rattle.std.specs.Ordering.{eq_by_cmp, is_eq, is_lt, nat_cmp, ordering_then}
use Rattle.std.specs.declared.cmp.Ordering.TheVariants.{Equal}
use Rattle.std.specs.Cmp.{both_ways}
use Rattle.std.proofs.lemmas.Bool.{cases_Bool}
use Rattle.std.proofs.lemmas.Cmp.{by_ranked, nat_list_cmp_total, ranked}
use Rattle.std.proofs.lemmas.Map.Lookups.{exact_bytes}
use Rattle.bdb_base.proofs.SetLemmas.{is_lt-Less}
use Rattle.bdb_base.proofs.Numbers.{less, greater}
use Rattle.bdb_keep.specs.Scans.{next_key}
use Rattle.bdb_keep.specs.Tables.{IsLeastFrom, LieInTables, NoneFrom, Tables, bytes_cmp}
use Rattle.bdb_keep.proofs.OrderLemmas.{le_from_not_lt, less_le}
use Rattle.bdb_keep.proofs.Gets.{get_after_insert, get_empty, tables_from_gets}
use Rattle.bdb_keep.proofs.RowsLemmas.{same_place}
use Rattle.bdb_keep.proofs.Scans.{between_keys}
use Rattle.bdb_keep.proofs.OrderLemmas.{less_not_le}
use Rattle.bdb_former.specs.Respelled.{below}

-- ---- the order of places

equal_is : (m n : ℕ) → m ≡ n → nat_cmp m n ≡ Equal
equal_is m n h = by_ranked (m < n) (m ≡ n) (n < m) (nat_cmp m n) (ranked m n (nat_cmp m n) refl) (λ o l. absurd (omega arith)) (λ o _. o) (λ o g. absurd (omega arith))

-- a place of a lower table is below, whatever the keys are
lower_table : (m n : ℕ) (k l : List ℕ) → m < n → is_lt (bytes_cmp (m ∷ k) (n ∷ l)) ≡ true
lower_table m n k l h = ap (λ r. is_lt (ordering_then r (bytes_cmp k l))) (less m n h)

same_table : (m n : ℕ) (k l : List ℕ) → m ≡ n → is_lt (bytes_cmp (m ∷ k) (n ∷ l)) ≡ is_lt (bytes_cmp k l)
same_table m n k l h = ap (λ r. is_lt (ordering_then r (bytes_cmp k l))) (equal_is m n h)

higher_table : (m n : ℕ) (k l : List ℕ) → n < m → is_lt (bytes_cmp (m ∷ k) (n ∷ l)) ≡ false
higher_table m n k l h = ap (λ r. is_lt (ordering_then r (bytes_cmp k l))) (greater m n h)

-- no key is below the empty one
none_below_empty : (k : List ℕ) → is_lt (bytes_cmp k []) ≡ false
none_below_empty [] = refl
none_below_empty (b ∷ k) = refl

-- ---- the rows below a place

get_below : (limit : List ℕ) (t : Tables) (q : List ℕ) → tables.get (below limit t) q ≡ cond (is_lt (bytes_cmp q limit)) (tables.get t q) None
get_below limit t q = get-retain_keys t (λ p. is_lt (bytes_cmp p limit)) q (λ p e. ap (λ x. is_lt (bytes_cmp x limit)) (sym (exact_bytes q p e)))

same_both : (c : Bool) (o : Option (List ℕ)) → cond c o o ≡ o
same_both true o = refl
same_both false o = refl

same_where_some : (a b : Bool) (o : Option (List ℕ)) → ((row : List ℕ) → o ≡ Some row → a ≡ b) → cond a o None ≡ cond b o None
same_where_some a b None f = same_both a None ∙ sym (same_both b None)
same_where_some a b (Some row) f = ap (λ c. cond c (Some row) None) (f row refl)

-- where the same rows are below, the rows below are the same
below_same : (l m : List ℕ) (t : Tables) → ((q row : List ℕ) → tables.get t q ≡ Some row → is_lt (bytes_cmp q l) ≡ is_lt (bytes_cmp q m)) → below l t ≡ below m t
below_same l m t f = tables_from_gets (below l t) (below m t) (λ q.
    get_below l t q ∙ same_where_some (is_lt (bytes_cmp q l)) (is_lt (bytes_cmp q m)) (tables.get t q) (f q) ∙ sym (get_below m t q))

-- no row is below the first table
pub none_below : (t : Tables) → LieInTables t → below (1 ∷ []) t ≡ tables.empty
none_below t lie = tables_from_gets (below (1 ∷ []) t) tables.empty (λ q.
    get_below (1 ∷ []) t q ∙ same_where_some (is_lt (bytes_cmp q (1 ∷ []))) false (tables.get t q) (outside q) ∙ sym (get_empty q))
  where
    outside : (q row : List ℕ) → tables.get t q ≡ Some row → is_lt (bytes_cmp q (1 ∷ [])) ≡ false
    outside [] row e = absurd (lie [] row e)
    outside (n ∷ k) row e =
        let there : 1 ≤ n = (lie (n ∷ k) row e).0 in
        by_ranked (n < 1) (n ≡ 1) (1 < n) (nat_cmp n 1) (ranked n 1 (nat_cmp n 1) refl)
        (λ o l. absurd (omega arith)) (λ o s. same_table n 1 k [] s ∙ none_below_empty k) (λ o g. higher_table n 1 k [] g)

-- all rows are below the place behind the last table
pub all_below : (t : Tables) → LieInTables t → below (16 ∷ []) t ≡ t
all_below t lie = tables_from_gets (below (16 ∷ []) t) t (λ q. get_below (16 ∷ []) t q ∙ same_where_some (is_lt (bytes_cmp q (16 ∷ []))) true (tables.get t q) (within q) ∙ whole (tables.get t q))
  where
    within : (q row : List ℕ) → tables.get t q ≡ Some row → is_lt (bytes_cmp q (16 ∷ [])) ≡ true
    within [] row e = absurd (lie [] row e)
    within (n ∷ k) row e = let there : n ≤ 15 = (lie (n ∷ k) row e).1 in lower_table n 16 k [] (omega arith)

    whole : (o : Option (List ℕ)) → cond true o None ≡ o
    whole o = refl

-- where no row of a table is left, those below the next table are those so far
pub table_ends : (t : Tables) (tab next : ℕ) (low : List ℕ) → next ≡ tab + 1 → NoneFrom t tab low → below (next ∷ []) t ≡ below (tab ∷ low) t
table_ends t tab next low after none = below_same (next ∷ []) (tab ∷ low) t same
  where
    same : (q row : List ℕ) → tables.get t q ≡ Some row → is_lt (bytes_cmp q (next ∷ [])) ≡ is_lt (bytes_cmp q (tab ∷ low))
    same [] row e = refl
    same (n ∷ k) row e = by_ranked (n < tab) (n ≡ tab) (tab < n) (nat_cmp n tab) (ranked n tab (nat_cmp n tab) refl)
        (λ o l. lower_table n next k [] (omega arith) ∙ sym (lower_table n tab k low l))
        (λ o s. lower_table n next k [] (omega arith) ∙ sym (same_table n tab k low s ∙ passed s))
        (λ o g. behind g ∙ sym (higher_table n tab k low g))
      where
        passed : n ≡ tab → is_lt (bytes_cmp k low) ≡ true
        passed s = elim (cases_Bool (is_lt (bytes_cmp k low))) [
          | inl e ↦ e
          | inr f ↦ absurd (let both : None ≡ Some row = sym (none k (le_from_not_lt k low f)) ∙ ap (λ x. tables.get t (x ∷ k)) (sym s) ∙ e in cc)
        ]

        behind : tab < n → is_lt (bytes_cmp (n ∷ k) (next ∷ [])) ≡ false
        behind g = by_ranked (n < next) (n ≡ next) (next < n) (nat_cmp n next) (ranked n next (nat_cmp n next) refl)
            (λ o l. absurd (omega arith)) (λ o s. same_table n next k [] s ∙ none_below_empty k) (λ o h. higher_table n next k [] h)

-- one row more
module _ (t : Tables) (tab : ℕ) (low key row : List ℕ) (least : IsLeastFrom t tab low key row) where
  itself : (k : List ℕ) → is_lt (bytes_cmp k (next_key k)) ≡ true
  itself [] = refl
  itself (b ∷ k) = same_table b b k (next_key k) refl ∙ itself k

  -- a row that isn't this one is below the next key exactly where it was below the last
  other_row : (q r : List ℕ) → eq_by_cmp bytes_cmp q (tab ∷ key) ≡ false → tables.get t q ≡ Some r → is_lt (bytes_cmp q (tab ∷ next_key key)) ≡ is_lt (bytes_cmp q (tab ∷ low))
  other_row [] r other e = refl
  other_row (n ∷ k) r other e = by_ranked (n < tab) (n ≡ tab) (tab < n) (nat_cmp n tab) (ranked n tab (nat_cmp n tab) refl)
      (λ o l. lower_table n tab k (next_key key) l ∙ sym (lower_table n tab k low l))
      (λ o s. same_table n tab k (next_key key) s ∙ both s ∙ sym (same_table n tab k low s))
      (λ o g. higher_table n tab k (next_key key) g ∙ sym (higher_table n tab k low g))
    where
      both : n ≡ tab → is_lt (bytes_cmp k (next_key key)) ≡ is_lt (bytes_cmp k low)
      both s = both_ways (is_lt (bytes_cmp k (next_key key))) (is_lt (bytes_cmp k low)) forward back
        where
          differs : eq_by_cmp bytes_cmp k key ≡ false
          differs = sym (ap (λ o. is_eq (ordering_then o (bytes_cmp k key))) (equal_is n tab s)) ∙ other

          -- a row between the last key and the next one is this one
          none : is_lt (bytes_cmp k (next_key key)) ≡ true → is_lt (bytes_cmp k low) ≡ false → tables.get t (tab ∷ k) ≡ None
          none f g =
              between_keys t tab low key row k least (le_from_not_lt k low g) (less_not_le k (next_key key) (is_lt-Less (bytes_cmp k (next_key key)) f))
              ∙ ap (λ b. cond b (Some row) None) differs

          forward : is_lt (bytes_cmp k (next_key key)) ≡ true → is_lt (bytes_cmp k low) ≡ true
          forward f = elim (cases_Bool (is_lt (bytes_cmp k low))) [
            | inl g ↦ g
            | inr g ↦ absurd (let both : None ≡ Some r = sym (none f g) ∙ ap (λ x. tables.get t (x ∷ k)) (sym s) ∙ e in cc)
          ]

          back : is_lt (bytes_cmp k low) ≡ true → is_lt (bytes_cmp k (next_key key)) ≡ true
          back f = ap is_lt (nat_list_cmp_total.trans k key (next_key key) (less_le k low key (is_lt-Less (bytes_cmp k low) f) least.not_below) (is_lt-Less (bytes_cmp key (next_key key)) (itself key)))

  pub row_more : below (tab ∷ next_key key) t ≡ tables.insert (below (tab ∷ low) t) (tab ∷ key) row
  row_more = tables_from_gets (below (tab ∷ next_key key) t) (tables.insert (below (tab ∷ low) t) (tab ∷ key) row) (λ q.
      get_below (tab ∷ next_key key) t q ∙ by q (eq_by_cmp bytes_cmp q (tab ∷ key)) refl ∙ sym (get_after_insert (below (tab ∷ low) t) (tab ∷ key) row q))
    where
      by : (q : List ℕ) (b : Bool) → eq_by_cmp bytes_cmp q (tab ∷ key) ≡ b
          → cond (is_lt (bytes_cmp q (tab ∷ next_key key))) (tables.get t q) None ≡ cond b (Some row) (tables.get (below (tab ∷ low) t) q)
      by q true same =
          ap (λ x. cond (is_lt (bytes_cmp x (tab ∷ next_key key))) (tables.get t x) None) (same_place q (tab ∷ key) same)
          ∙ ap (λ b. cond b (tables.get t (tab ∷ key)) None) (same_table tab tab key (next_key key) refl ∙ itself key) ∙ least.found
      by q false other =
          same_where_some (is_lt (bytes_cmp q (tab ∷ next_key key))) (is_lt (bytes_cmp q (tab ∷ low))) (tables.get t q) (λ r e. other_row q r other e)
          ∙ sym (get_below (tab ∷ low) t q)
