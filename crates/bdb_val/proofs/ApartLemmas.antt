-- Where no number stands twice among rows, none is changed twice.
use Rattle.std.proofs.Common.{◌≡◌, ◌∙◌, ℕ, Bool, true, false, nat_eq, List, [], ◌∷◌, ◌++◌, cond, inl, inr, refl, ap, sym, is_some}
use Rattle.std.specs.List.{list_any, flat_map}
use Rattle.std.proofs.lemmas.Bool.{false≢true, cases_Bool, or_cases, or_left, or_right, or_from, or_parts, false_from_ne_true, cond-true, cond-false, eqb-true, eq-eqb, true_from_ne_false}
use Rattle.std.proofs.lemmas.List.Folds.{list_any-append}
use Rattle.bdb_val.specs.Settling.{RowChange, mark_in, next_mark, same_mark, change_at, has_mark, fresh_change, numbers_are_apart, are_changes_apart}
use Rattle.bdb_val.specs.Laws.{SettlingIsApart}
use Rattle.bdb_val.specs.declared.stored.StoredRow.{StoredRow}
use Rattle.bdb_val.proofs.SettlingLemmas.{mark_is_some}

-- a number is changed
abbrev changed : List RowChange → ℕ → Bool
changed cs tid = list_any (λ y. nat_eq y.0 tid) cs

-- a function gives changes of a row's own number, one at most, and none where a test holds
record Gives (f : StoredRow → List RowChange) (skips : ℕ → Bool) : Type 0 where
  own : (x : StoredRow) (tid : ℕ) → changed (f x) tid ≡ true → nat_eq x.tid tid ≡ true
  once : (x : StoredRow) → are_changes_apart (f x) ≡ true
  skipped : (x : StoredRow) → skips x.tid ≡ true → f x ≡ []

one_change : (b : Bool) (x : StoredRow) (c : RowChange) → c.0 ≡ x.tid → (tid : ℕ) → changed (cond b [] (c ∷ [])) tid ≡ true → nat_eq x.tid tid ≡ true
one_change true x c k tid e = absurd (false≢true e)
one_change false x c k tid e = elim (or_cases (nat_eq c.0 tid) false e) [ inl a ↦ ap (λ i. nat_eq i tid) (sym k) ∙ a | inr a ↦ absurd (false≢true a) ]

once_change : (b : Bool) (c : RowChange) → are_changes_apart (cond b [] (c ∷ [])) ≡ true
once_change true c = refl
once_change false c = refl

changes_given : (keys : ℕ → ℕ) (stored own from : List StoredRow) → Gives (change_at keys stored own from) (λ _. false)
changes_given keys stored own from = record {
  own = λ x tid e. one_change (same_mark (mark_in stored x.tid) (next_mark keys own from x.tid x.tuple)) x (x.tid, x.tuple, next_mark keys own from x.tid x.tuple) refl tid e;
  once = λ x. once_change (same_mark (mark_in stored x.tid) (next_mark keys own from x.tid x.tuple)) (x.tid, x.tuple, next_mark keys own from x.tid x.tuple);
  skipped = λ x e. absurd (false≢true e);
}

fresh_given : (keys : ℕ → ℕ) (stored own from before : List StoredRow) → Gives (fresh_change keys stored own from before) (has_mark stored before)
fresh_given keys stored own from before = record {
  own = λ x tid e. elim (cases_Bool (has_mark stored before x.tid)) [
    | inl a ↦ absurd (false≢true (ap (λ cs. changed cs tid) (sym (cond-true (has_mark stored before x.tid) [] (change_at keys stored own from x) a)) ∙ e))
    | inr a ↦ (changes_given keys stored own from).own x tid (ap (λ cs. changed cs tid) (sym (cond-false (has_mark stored before x.tid) [] (change_at keys stored own from x) a)) ∙ e)
  ];
  once = λ x. elim (cases_Bool (has_mark stored before x.tid)) [
    | inl a ↦ ap are_changes_apart (cond-true (has_mark stored before x.tid) [] (change_at keys stored own from x) a)
    | inr a ↦ ap are_changes_apart (cond-false (has_mark stored before x.tid) [] (change_at keys stored own from x) a) ∙ (changes_given keys stored own from).once x
  ];
  skipped = λ x e. cond-true (has_mark stored before x.tid) [] (change_at keys stored own from x) e;
}

-- changes of rows have the rows' numbers
changed_in : (f : StoredRow → List RowChange) (skips : ℕ → Bool) → Gives f skips → (xs : List StoredRow) (tid : ℕ) → list_any (λ y. nat_eq y.tid tid) xs ≡ false
    → changed (flat_map f xs) tid ≡ false
changed_in f skips g [] tid e = refl
changed_in f skips g (x ∷ xs) tid e =
    let p = or_parts (nat_eq x.tid tid) (list_any (λ y. nat_eq y.tid tid) xs) e in
    list_any-append (λ y. nat_eq y.0 tid) (f x) (flat_map f xs)
    ∙ or_from (changed (f x) tid) (changed (flat_map f xs) tid)
    (false_from_ne_true (changed (f x) tid) (λ k. false≢true (sym p.0 ∙ g.own x tid k)))
    (changed_in f skips g xs tid p.1)

-- a number that is skipped isn't changed
not_changed : (f : StoredRow → List RowChange) (skips : ℕ → Bool) → Gives f skips → (xs : List StoredRow) (tid : ℕ) → skips tid ≡ true → changed (flat_map f xs) tid ≡ false
not_changed f skips g [] tid e = refl
not_changed f skips g (x ∷ xs) tid e =
    list_any-append (λ y. nat_eq y.0 tid) (f x) (flat_map f xs)
    ∙ or_from (changed (f x) tid) (changed (flat_map f xs) tid)
    (false_from_ne_true (changed (f x) tid) (λ k.
    let i : x.tid ≡ tid = eqb-true x.tid tid (g.own x tid k) in
    false≢true (ap (λ cs. changed cs tid) (sym (g.skipped x (ap skips i ∙ e))) ∙ k)))
    (not_changed f skips g xs tid e)

-- lists of changes that have no number in common
apart_append : (xs ys : List RowChange) → are_changes_apart xs ≡ true → are_changes_apart ys ≡ true → ((tid : ℕ) → changed xs tid ≡ true → changed ys tid ≡ false)
    → are_changes_apart (xs ++ ys) ≡ true
apart_append [] ys a b h = b
apart_append (x ∷ xs) ys a b h =
    elim (cases_Bool (changed xs x.0)) [
      | inl e ↦ absurd (false≢true (sym (cond-true (changed xs x.0) false (are_changes_apart xs) e) ∙ a))
      | inr e ↦
          let rest : are_changes_apart xs ≡ true = sym (cond-false (changed xs x.0) false (are_changes_apart xs) e) ∙ a in
          let here : changed ys x.0 ≡ false = h x.0 (or_left (nat_eq x.0 x.0) (changed xs x.0) (eq-eqb x.0 x.0 refl)) in
          cond-false (changed (xs ++ ys) x.0) false (are_changes_apart (xs ++ ys)) (list_any-append (λ y. nat_eq y.0 x.0) xs ys ∙ or_from (changed xs x.0) (changed ys x.0) e here)
          ∙ apart_append xs ys rest b (λ tid k. h tid (or_right (nat_eq x.0 tid) (changed xs tid) k))
    ]

changes_apart : (f : StoredRow → List RowChange) (skips : ℕ → Bool) → Gives f skips → (xs : List StoredRow) → numbers_are_apart xs ≡ true → are_changes_apart (flat_map f xs) ≡ true
changes_apart f skips g [] a = refl
changes_apart f skips g (x ∷ xs) a = elim (cases_Bool (list_any (λ y. nat_eq y.tid x.tid) xs)) [
  | inl e ↦ absurd (false≢true (sym (cond-true (list_any (λ y. nat_eq y.tid x.tid) xs) false (numbers_are_apart xs) e) ∙ a))
  | inr e ↦ apart_append (f x) (flat_map f xs) (g.once x)
      (changes_apart f skips g xs (sym (cond-false (list_any (λ y. nat_eq y.tid x.tid) xs) false (numbers_are_apart xs) e) ∙ a))
      (λ tid k. changed_in f skips g xs tid (ap (λ i. list_any (λ y. nat_eq y.tid i) xs) (sym (eqb-true x.tid tid (g.own x tid k))) ∙ e))
]

pub settling_is_apart : SettlingIsApart
settling_is_apart keys stored own from a b c =
    apart_append (one ++ two) three
    (apart_append one two (changes_apart (change_at keys stored own from) (λ _. false) g1 stored a) (changes_apart (fresh_change keys stored own from []) (has_mark stored []) g2 own b)
    (λ tid k. not_changed (fresh_change keys stored own from []) (has_mark stored []) g2 own tid (or_left (is_some (mark_in stored tid)) (is_some (mark_in [] tid)) (has_one tid k))))
    (changes_apart (fresh_change keys stored own from own) (has_mark stored own) g3 from c)
    (λ tid k. not_changed (fresh_change keys stored own from own) (has_mark stored own) g3 from tid
    (elim (or_cases (changed one tid) (changed two tid) (sym (list_any-append (λ y. nat_eq y.0 tid) one two) ∙ k)) [
      | inl e ↦ or_left (is_some (mark_in stored tid)) (is_some (mark_in own tid)) (has_one tid e)
      | inr e ↦ or_right (is_some (mark_in stored tid)) (is_some (mark_in own tid)) (has_two tid e)
    ]))
  where
    one : List RowChange
    one = flat_map (change_at keys stored own from) stored

    two : List RowChange
    two = flat_map (fresh_change keys stored own from []) own

    three : List RowChange
    three = flat_map (fresh_change keys stored own from own) from

    g1 : Gives (change_at keys stored own from) (λ _. false)
    g1 = changes_given keys stored own from

    g2 : Gives (fresh_change keys stored own from []) (has_mark stored [])
    g2 = fresh_given keys stored own from []

    g3 : Gives (fresh_change keys stored own from own) (has_mark stored own)
    g3 = fresh_given keys stored own from own

    has_one : (tid : ℕ) → changed one tid ≡ true → is_some (mark_in stored tid) ≡ true
    has_one tid k = mark_is_some stored tid ∙ true_from_ne_false (list_any (λ y. nat_eq y.tid tid) stored) (λ e. false≢true (sym (changed_in (change_at keys stored own from) (λ _. false) g1 stored tid e) ∙ k))

    has_two : (tid : ℕ) → changed two tid ≡ true → is_some (mark_in own tid) ≡ true
    has_two tid k = mark_is_some own tid ∙ true_from_ne_false (list_any (λ y. nat_eq y.tid tid) own) (λ e. false≢true (sym (changed_in (fresh_change keys stored own from []) (has_mark stored []) g2 own tid e) ∙ k))
