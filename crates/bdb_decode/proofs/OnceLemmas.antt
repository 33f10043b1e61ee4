-- The statements that explicit rows make, in their order, ascend: no two rows make the same.
use Rattle.std.proofs.Common.{◌≡◌, ◌∙◌, ℕ, suc, ◌+◌, ◌<◌, ◌≤◌, Bool, true, false, not, ◌||◌, cond, List, [], ◌∷◌, ◌++◌, length, filter, get_or, Option, Some, None, refl, ap, sym, arith, inl, inr}
use Rattle.std.specs.List.{list_all, list_any, flat_map}
use Rattle.std.specs.List.Sorted.{IsPermutation}
use Rattle.std.specs.declared.cmp.Ordering.{Ordering}
use Rattle.std.specs.declared.cmp.Ordering.TheVariants.{Less, Equal, Greater}
use Rattle.std.specs.Ordering.{is_lt, ordering_reverse}
use Rattle.std.proofs.lemmas.Bool.{cases_Bool, and_parts, and_from, or_parts, false≢true, false_from_ne_true, not_from_false}
use Rattle.std.proofs.lemmas.List.Folds.{list_any-append}
use Rattle.std.proofs.lemmas.List.Sorted.{sorted_far, ranks_by, sum_by-IsPermutation}
use Rattle.std.proofs.lemmas.List.Sums.{length-filter}
use Rattle.bdb_base.specs.Order.{statement_cmp}
use Rattle.bdb_base.specs.OrderLemmas.{statement_exact, statement_total}
use Rattle.bdb_base.specs.Same.{same_statement}
use Rattle.bdb_base.specs.SameLemmas.{same_statement-Decides}
use Rattle.bdb_base.specs.SortedSet.{ascending}
use Rattle.bdb_base.specs.declared.kinds.Sign.{Sign}
use Rattle.bdb_base.specs.declared.kinds.Stmt.{Stmt}
use Rattle.bdb_base.specs.declared.tuple.Tuple.{Tuple}
use Rattle.bdb_base.proofs.ListLemmas.{filter_kept_one, filter_dropped_one}
use Rattle.bdb_base.proofs.OptionLemmas.{one_there}
use Rattle.bdb_keep.specs.Tables.{Tables, bytes_cmp}
use Rattle.bdb_tables.specs.InUse.{ValKey, val_bytes, val_codec}
use Rattle.bdb_tables.specs.Spans.{entry_cmp}
use Rattle.bdb_val.specs.Settling.{row_key}
use Rattle.bdb_val.proofs.CopyLemmas.{not_below_itself}
use Rattle.bdb_decode.specs.Explicit.{AreStated, Paths, TupleRows, ValRow, is_placed, said, said_by}
use Rattle.bdb_decode.specs.Items.{item_of}
use Rattle.bdb_decode.proofs.SaidLemmas.{is_this, makes_tells, placed_tells}

-- ---- statements in order, of which none stands twice, ascend

abbrev is_before : Stmt → Stmt → Bool
is_before a b = is_lt (statement_cmp a b)

abbrev none_before : Stmt → List Stmt → Bool
none_before x ys = list_all (λ y. not (is_before y x)) ys

abbrev count : Stmt → List Stmt → ℕ
count u xs = length (filter (λ h. same_statement h u) xs)

all_by_place : (p : Stmt → Bool) (xs : List Stmt) → ((j : ℕ) (d : Stmt) → j < length xs → p (get_or xs j d) ≡ true) → list_all p xs ≡ true
all_by_place p [] h = refl
all_by_place p (x ∷ xs) h = and_from (p x) (list_all p xs) (h 0 x (omega arith)) (all_by_place p xs (λ j d lt. h (suc j) d (omega arith)))

count_kept : (u x : Stmt) (xs : List Stmt) → same_statement x u ≡ true → count u (x ∷ xs) ≡ suc (count u xs)
count_kept u x xs e = ap length (filter_kept_one (λ h. same_statement h u) x xs e)

count_dropped : (u x : Stmt) (xs : List Stmt) → same_statement x u ≡ false → count u (x ∷ xs) ≡ count u xs
count_dropped u x xs e = ap length (filter_dropped_one (λ h. same_statement h u) x xs e)

order_ascends : (xs : List Stmt) → ((i j : ℕ) (d : Stmt) → i ≤ j → j < length xs → is_before (get_or xs j d) (get_or xs i d) ≡ false) → ((u : Stmt) → count u xs ≤ 1)
    → ascending statement_cmp xs ≡ true
order_ascends [] far once = refl
order_ascends (x ∷ xs) far once =
    let here = count_kept x x xs ((same_statement-Decides x x).1 refl) in
    let le = once x in
    let none : count x xs ≤ 0 = omega (arith, le, here) in
    and_from (list_all (λ y. is_lt (statement_cmp x y)) xs) (ascending statement_cmp xs)
    (above xs (all_by_place (λ y. not (is_before y x)) xs (λ j d lt. not_from_false (is_before (get_or xs j d) x) (far 0 (suc j) d (omega arith) (omega arith)))) none)
    (order_ascends xs (λ i j d le lt. far (suc i) (suc j) d (omega arith) (omega arith)) (λ v. fewer v))
  where
    fewer : (v : Stmt) → count v xs ≤ 1
    fewer v = elim (cases_Bool (same_statement x v)) [
      | inl e ↦ let n = count_kept v x xs e in let le = once v in omega (arith, n, le)
      | inr e ↦ let n = count_dropped v x xs e in let le = once v in omega (arith, n, le)
    ]

    less : (t u : Stmt) → not (is_lt (statement_cmp u t)) ≡ true → same_statement u t ≡ false → is_lt (statement_cmp t u) ≡ true
    less t u a b = go (statement_cmp u t) refl
      where
        go : (r : Ordering) → statement_cmp u t ≡ r → is_lt (statement_cmp t u) ≡ true
        go Less e = absurd (false≢true (sym (ap (λ q. not (is_lt q)) e) ∙ a))
        go Equal e = absurd (false≢true (sym b ∙ (same_statement-Decides u t).1 (statement_exact.exact u t e)))
        go Greater e = ap is_lt (statement_total.antisymm t u ∙ ap ordering_reverse e)

    above : (ys : List Stmt) → none_before x ys ≡ true → count x ys ≤ 0 → list_all (λ y. is_lt (statement_cmp x y)) ys ≡ true
    above [] a n = refl
    above (y ∷ ys) a n =
        let k = and_parts (not (is_before y x)) (none_before x ys) a in
        elim (cases_Bool (same_statement y x)) [
          | inl e ↦ let m = count_kept x y ys e in absurd (omega (arith, m, n))
          | inr e ↦
              let m = count_dropped x y ys e in
              and_from (is_lt (statement_cmp x y)) (list_all (λ z. is_lt (statement_cmp x z)) ys) (less x y k.0 e) (above ys k.1 (omega (arith, m, n)))
        ]

-- ---- no two rows make the same statement

count_append : (u : Stmt) (xs ys : List Stmt) → count u (xs ++ ys) ≡ count u xs + count u ys
count_append u [] ys = omega arith
count_append u (x ∷ xs) ys = elim (cases_Bool (same_statement x u)) [
  | inl e ↦ let a = count_kept u x (xs ++ ys) e in let b = count_kept u x xs e in let c = count_append u xs ys in omega (arith, a, b, c)
  | inr e ↦ let a = count_dropped u x (xs ++ ys) e in let b = count_dropped u x xs e in let c = count_append u xs ys in omega (arith, a, b, c)
]

count_none : (u : Stmt) (xs : List Stmt) → list_any (λ h. same_statement h u) xs ≡ false → count u xs ≡ 0
count_none u [] h = refl
count_none u (x ∷ xs) h =
    let k = or_parts (same_statement x u) (list_any (λ z. same_statement z u) xs) h in
    count_dropped u x xs k.0 ∙ count_none u xs k.1

count_said : (u : Stmt) (p : Option (List ℕ)) (o : Option Tuple) (e : ValRow) → count u (said_by p o e) ≤ 1
count_said u None o e = omega arith
count_said u (Some w) None e = omega arith
count_said u (Some w) (Some y) e = by e.1.1 (record { path = w; sign = e.1.0; tuple = y })
  where
    by : (b : Bool) (x : Stmt) → count u (cond b (x ∷ []) []) ≤ 1
    by false x = omega arith
    by true x = elim (cases_Bool (same_statement x u)) [
      | inl k ↦ let a = count_kept u x [] k in omega (arith, a)
      | inr k ↦ let a = count_dropped u x [] k in omega (arith, a)
    ]

module _ (keys : ℕ → ℕ) (worlds : Paths) (tuples : TupleRows) (one : (a b : ℕ) (w : List ℕ) → item_of worlds a ≡ Some w → item_of worlds b ≡ Some w → a ≡ b)
    (once : (a b : ℕ) (u : Tuple) → item_of tuples a ≡ Some u → item_of tuples b ≡ Some u → a ≡ b) where
  -- rows that make the same statement have one key
  one_key : (x y : ValRow) (w : List ℕ) (u : Tuple) (s : Sign) → is_placed keys worlds tuples x ≡ true → is_placed keys worlds tuples y ≡ true
      → list_any (is_this w u s) (said worlds tuples x) ≡ true → list_any (is_this w u s) (said worlds tuples y) ≡ true → x.0 ≡ y.0
  one_key x y w u s p q a b =
      let m = makes_tells worlds tuples w u s x a in
      let n = makes_tells worlds tuples w u s y b in
      let j = placed_tells keys worlds tuples x p in
      let k = placed_tells keys worlds tuples y q in
      let ju : j.tuple ≡ u = one_there j.tuple u (item_of tuples x.0.3) j.tuple_is m.tuple in
      let ku : k.tuple ≡ u = one_there k.tuple u (item_of tuples y.0.3) k.tuple_is n.tuple in
      sym (ap (λ (z : Tuple). row_key keys x.0.0 x.0.3 z) (sym ju) ∙ j.key)
      ∙ ap (λ (z : ℕ). row_key keys z x.0.3 u) (one x.0.0 y.0.0 w m.path n.path)
      ∙ ap (λ (z : ℕ). row_key keys y.0.0 z u) (once x.0.3 y.0.3 u m.tuple n.tuple)
      ∙ (ap (λ (z : Tuple). row_key keys y.0.0 y.0.3 z) (sym ku) ∙ k.key)

  pub none_later : (u : Stmt) (x : ValRow) (xs : List ValRow) → is_placed keys worlds tuples x ≡ true → list_any (λ h. same_statement h u) (said worlds tuples x) ≡ true
      → list_all (is_placed keys worlds tuples) xs ≡ true → list_all (λ y. is_lt (entry_cmp val_codec x y)) xs ≡ true
      → list_any (λ h. same_statement h u) (flat_map (said worlds tuples) xs) ≡ false
  none_later u x [] p a q l = refl
  none_later u x (y ∷ ys) p a q l =
      let g : Stmt → Bool = λ h. same_statement h u in
      let j = and_parts (is_placed keys worlds tuples y) (list_all (is_placed keys worlds tuples) ys) q in
      let k = and_parts (is_lt (entry_cmp val_codec x y)) (list_all (λ z. is_lt (entry_cmp val_codec x z)) ys) l in
      let here : list_any g (said worlds tuples y) ≡ false = false_from_ne_true (list_any g (said worlds tuples y)) (λ b.
      not_below_itself (val_bytes x.0) (ap (λ (z : ValKey). is_lt (bytes_cmp (val_bytes x.0) (val_bytes z))) (one_key x y u.path u.tuple u.sign p j.0 a b) ∙ k.0)) in
      list_any-append g (said worlds tuples y) (flat_map (said worlds tuples) ys)
      ∙ ap (λ c. c || list_any g (flat_map (said worlds tuples) ys)) here ∙ none_later u x ys p a j.1 k.1

  made_once : (u : Stmt) (xs : List ValRow) → list_all (is_placed keys worlds tuples) xs ≡ true → ascending (entry_cmp val_codec) xs ≡ true → count u (flat_map (said worlds tuples) xs) ≤ 1
  made_once u [] q l = omega arith
  made_once u (x ∷ xs) q l =
      let g : Stmt → Bool = λ h. same_statement h u in
      let j = and_parts (is_placed keys worlds tuples x) (list_all (is_placed keys worlds tuples) xs) q in
      let k = and_parts (list_all (λ y. is_lt (entry_cmp val_codec x y)) xs) (ascending (entry_cmp val_codec) xs) l in
      let sum = count_append u (said worlds tuples x) (flat_map (said worlds tuples) xs) in
      elim (cases_Bool (list_any g (said worlds tuples x))) [
        | inl e ↦
            let rest = count_none u (flat_map (said worlds tuples) xs) (none_later u x xs j.0 e j.1 k.0) in
            let own = count_said u (item_of worlds x.0.0) (item_of tuples x.0.3) x in
            omega (arith, sum, rest, own)
        | inr e ↦
            let own = count_none u (said worlds tuples x) e in
            let rest = made_once u xs j.1 k.1 in
            omega (arith, sum, rest, own)
      ]

  count_moved : (u : Stmt) (xs ys : List Stmt) → IsPermutation xs ys → count u ys ≡ count u xs
  count_moved u xs ys h =
      let p : Stmt → Bool = λ z. same_statement z u in
      length-filter p ys ∙ sum_by-IsPermutation (λ z. cond (p z) 1 0) xs ys h ∙ sym (length-filter p xs)

  -- the statements that rows make, in their order, ascend
  pub stated_ascend : (t : Tables) (stmts : List Stmt) → AreStated keys t worlds tuples stmts → ascending statement_cmp stmts ≡ true
  stated_ascend t stmts h =
      order_ascends stmts (λ i j d le lt. sorted_far is_before (ranks_by statement_total (λ (x : Stmt). x)) stmts h.sorted i j d le lt)
      (λ u.
      let moved = count_moved u h.made stmts h.moved in
      let said_so : count u h.made ≡ count u (flat_map (said worlds tuples) h.are.rows) = ap (count u) h.are.said in
      let le = made_once u h.are.rows h.are.are.placed h.are.are.under.sorted in
      omega (arith, moved, said_so, le))
