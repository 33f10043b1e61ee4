-- The row whose tuple comes first among those that clash with a statement.
use Rattle.std.proofs.Common.{◌≡◌, ◌∙◌, ℕ, ◌-◌, ◌≤◌, true, false, ◌&&◌, cond, List, [], ◌∷◌, length, get_or, take, drop, refl, ap, sym, subst, inl, inr, Option, Some, None, arith}
use Rattle.std.specs.List.{AllByRecursion}
use Rattle.std.specs.Ordering.{is_lt}
use Rattle.std.specs.declared.cmp.Ordering.TheVariants.{Less}
use Rattle.std.proofs.lemmas.Bool.{cases_Bool, cond-true, cond-false, false≢true, false_from_ne_true}
use Rattle.std.proofs.lemmas.List.{take_rest}
use Rattle.bdb_base.specs.Order.{tuple_cmp}
use Rattle.bdb_base.specs.OrderLemmas.{tuple_exact}
use Rattle.bdb_base.specs.declared.kinds.Stmt.{Stmt}
use Rattle.bdb_base.specs.declared.tuple.Tuple.{Tuple}
use Rattle.bdb_base.proofs.SetLemmas.{is_lt-Less, cases_Ordering, greater_from_less, less_from_greater}
use Rattle.bdb_base.proofs.ClashLemmas.{clash_of}
use Rattle.bdb_base.proofs.OptionLemmas.{none_and_some, same_some}
use Rattle.bdb_val.specs.declared.stored.StoredRow.{StoredRow}
use Rattle.bdb_update.specs.Looking.{is_clashing, first_of, least_row}

-- ---- tuples in order

not_both : (a b : Tuple) → tuple_cmp a b ≡ Less → is_lt (tuple_cmp b a) ≡ false
not_both a b e = ap is_lt (greater_from_less tuple_exact a b e)

not_below_itself : (a : Tuple) → is_lt (tuple_cmp a a) ≡ false
not_below_itself a = false_from_ne_true (is_lt (tuple_cmp a a)) (λ e. let l = is_lt-Less (tuple_cmp a a) e in false≢true (sym (not_both a a l) ∙ ap is_lt l))

-- where a second tuple is not below a first one, and a third not below the second, the third is not below the first
not_below_then : (a b c : Tuple) → is_lt (tuple_cmp b a) ≡ false → is_lt (tuple_cmp c b) ≡ false → is_lt (tuple_cmp c a) ≡ false
not_below_then a b c p q = false_from_ne_true (is_lt (tuple_cmp c a)) (λ e.
    let l = is_lt-Less (tuple_cmp c a) e in
    elim (cases_Ordering (tuple_cmp a b)) [
      | inl less ↦ false≢true (sym q ∙ ap is_lt (tuple_exact.total.trans c a b l less))
      | inr (inl same) ↦ false≢true (sym q ∙ ap (λ z. is_lt (tuple_cmp c z)) (sym (tuple_exact.exact a b same)) ∙ ap is_lt l)
      | inr (inr more) ↦ false≢true (sym p ∙ ap is_lt (less_from_greater tuple_exact a b more))
    ])

-- ---- the length of the key of a statement's relation tells which rows clash with it

clashing_alike : (keys : ℕ → ℕ) (n : ℕ) (x : Stmt) (r : StoredRow) → n ≡ keys x.tuple.rel → is_clashing (λ _. n) x r ≡ is_clashing keys x r
clashing_alike keys n x r e = ap (λ c. r.mark.1 && c) (clash_of keys n x.tuple x.sign r.tuple r.mark.0 e)

pub least_alike : (keys : ℕ → ℕ) (n : ℕ) (x : Stmt) (rows : List StoredRow) → n ≡ keys x.tuple.rel → least_row (λ _. n) x rows ≡ least_row keys x rows
least_alike keys n x [] e = refl
least_alike keys n x (r ∷ rs) e =
    ap (λ c. cond c (Some (first_of r (least_row (λ _. n) x rs))) (least_row (λ _. n) x rs)) (clashing_alike keys n x r e)
    ∙ ap (λ o. cond (is_clashing keys x r) (Some (first_of r o)) o) (least_alike keys n x rs e)

-- a first row that clashes, and what is least among those behind it
pub least_further : (keys : ℕ → ℕ) (x : Stmt) (rows : List StoredRow) (r : StoredRow) (o : Option StoredRow) → 1 ≤ length rows → r ≡ get_or rows 0 r → o ≡ least_row keys x (take (length rows - 1) (drop 1 rows))
    → is_clashing keys x r ≡ true → Some (first_of r o) ≡ least_row keys x rows
least_further keys x [] r o n e f c = absurd (omega arith)
least_further keys x (q ∷ qs) r o n e f c =
    let g : o ≡ least_row keys x qs = f ∙ ap (least_row keys x) (take_rest (q ∷ qs) 1) in
    ap (λ p. Some (first_of r p)) g
    ∙ ap (λ z. Some (first_of z (least_row keys x qs))) e
    ∙ sym (cond-true (is_clashing keys x q) (Some (first_of q (least_row keys x qs))) (least_row keys x qs) (ap (is_clashing keys x) (sym e) ∙ c))

module _ (keys : ℕ → ℕ) where
  -- ---- the least row

  abbrev pub IsNotBelow : Stmt → StoredRow → StoredRow → Type 0
  IsNotBelow x r q = is_clashing keys x q ≡ true → is_lt (tuple_cmp q.tuple r.tuple) ≡ false

  -- a row clashes, is one of some, and no other that clashes comes before it
  pub record IsLeastRow (x : Stmt) (rows : List StoredRow) (r : StoredRow) : Type 1 where
    pub clashing : is_clashing keys x r ≡ true
    pub one : (P : StoredRow → Type 0) → AllByRecursion P rows → P r
    pub least : AllByRecursion (IsNotBelow x r) rows

  all_weaker : {P Q : StoredRow → Type 0} → ((q : StoredRow) → P q → Q q) → (rows : List StoredRow) → AllByRecursion P rows → AllByRecursion Q rows
  all_weaker f [] h = tt
  all_weaker f (q ∷ qs) h = (f q h.0, all_weaker f qs h.1)

  pub none_clash : (x : Stmt) (rows : List StoredRow) → least_row keys x rows ≡ None → AllByRecursion (λ q. is_clashing keys x q ≡ false) rows
  none_clash x [] e = tt
  none_clash x (q ∷ qs) e = elim (cases_Bool (is_clashing keys x q)) [
    | inl c ↦ absurd (none_and_some (first_of q (least_row keys x qs)) (least_row keys x (q ∷ qs)) e (cond-true (is_clashing keys x q) (Some (first_of q (least_row keys x qs))) (least_row keys x qs) c))
    | inr c ↦ (c, none_clash x qs (sym (cond-false (is_clashing keys x q) (Some (first_of q (least_row keys x qs))) (least_row keys x qs) c) ∙ e))
  ]

  -- the first of a row and what is least among others
  first_is : (x : Stmt) (q : StoredRow) (qs : List StoredRow) → is_clashing keys x q ≡ true → (o : Option StoredRow) → least_row keys x qs ≡ o → ((s : StoredRow) → o ≡ Some s → IsLeastRow x qs s) → IsLeastRow x (q ∷ qs) (first_of q o)
  first_is x q qs c None e h = record {
    clashing = c;
    one = λ P a. a.0;
    least = (λ _. not_below_itself q.tuple, all_weaker (λ z n k. absurd (false≢true (sym n ∙ k))) qs (none_clash x qs e));
  }
  first_is x q qs c (Some s) e h =
      let l = h s refl in
      elim (cases_Bool (is_lt (tuple_cmp s.tuple q.tuple))) [
        | inl b ↦
            let less = is_lt-Less (tuple_cmp s.tuple q.tuple) b in
            subst (IsLeastRow x (q ∷ qs)) (sym (cond-true (is_lt (tuple_cmp s.tuple q.tuple)) s q b)) (record {
              clashing = l.clashing;
              one = λ P a. l.one P a.1;
              least = (λ _. not_both s.tuple q.tuple less, l.least);
            })
        | inr b ↦ subst (IsLeastRow x (q ∷ qs)) (sym (cond-false (is_lt (tuple_cmp s.tuple q.tuple)) s q b)) (record {
          clashing = c;
          one = λ P a. a.0;
          least = (λ _. not_below_itself q.tuple, all_weaker (λ z n k. not_below_then q.tuple s.tuple z.tuple b (n k)) qs l.least);
        })
      ]

  pub least_is : (x : Stmt) (rows : List StoredRow) (r : StoredRow) → least_row keys x rows ≡ Some r → IsLeastRow x rows r
  least_is x [] r e = absurd (none_and_some r None refl e)
  least_is x (q ∷ qs) r e = elim (cases_Bool (is_clashing keys x q)) [
    | inl c ↦
        let f = same_some (first_of q (least_row keys x qs)) r (sym (cond-true (is_clashing keys x q) (Some (first_of q (least_row keys x qs))) (least_row keys x qs) c) ∙ e) in
        subst (IsLeastRow x (q ∷ qs)) f (first_is x q qs c (least_row keys x qs) refl (λ s k. least_is x qs s k))
    | inr c ↦
        let l = least_is x qs r (sym (cond-false (is_clashing keys x q) (Some (first_of q (least_row keys x qs))) (least_row keys x qs) c) ∙ e) in
        record {
          clashing = l.clashing;
          one = λ P a. l.one P a.1;
          least = (λ k. absurd (false≢true (sym c ∙ k)), l.least);
        }
  ]
