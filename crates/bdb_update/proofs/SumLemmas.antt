-- Sums over the same paths in another order, and how large the number of rows is at most.
use Rattle.std.proofs.Common.{◌≡◌, ◌∙◌, ℕ, ◌+◌, ◌*◌, ◌≤◌, Bool, true, false, not, ◌||◌, nat_eq, cond, List, [], ◌∷◌, length, map, filter, Option, Some, None, is_some, refl, sym, ap, arith, inl, inr}
use Rattle.std.specs.Prelude.{sum_by}
use Rattle.std.specs.List.{AllByRecursion, list_all, flat_map}
use Rattle.std.specs.Ordering.{is_eq, is_lt}
use Rattle.std.proofs.lemmas.Bool.{cases_Bool, and_parts, and_from, false≢true, false_from_ne_true, or_left, or_right, or_cases, cond-true, cond-false, not-true, not_from_false, eq-eqb, eqb-true, or_from}
use Rattle.std.proofs.lemmas.List.{length-map}
use Rattle.std.proofs.lemmas.List.Concat.{length-flat_map}
use Rattle.std.proofs.lemmas.List.Sums.{sum_by-cons}
use Rattle.bdb_base.specs.Bases.{are_distinct}
use Rattle.bdb_base.specs.Limits.{most_statements}
use Rattle.bdb_base.specs.Order.{path_cmp, tuple_cmp}
use Rattle.bdb_base.specs.OrderLemmas.{is_eq_path_cmp, path_exact, tuple_exact}
use Rattle.bdb_base.specs.Same.{same_text}
use Rattle.bdb_base.specs.SameLemmas.{same_text-Decides}
use Rattle.bdb_base.specs.SortedSet.{ascending, is_member, sorted_set}
use Rattle.bdb_base.specs.States.{is_state, states_of, stated_prefixes}
use Rattle.bdb_base.specs.WorldRows.{rows_at, tuples_of}
use Rattle.bdb_base.specs.Worlds.{IsConsistent}
use Rattle.bdb_base.specs.declared.kinds.Stmt.{Stmt}
use Rattle.bdb_base.specs.declared.tuple.Tuple.{Tuple}
use Rattle.bdb_base.proofs.BaseLemmas.{length-put_in}
use Rattle.bdb_base.proofs.SetLemmas.{is_lt-Less, set_is_ascending}
use Rattle.bdb_base.proofs.WorldRowsLemmas.{one_row}
use Rattle.bdb_base.proofs.OptionLemmas.{some_of}
use Rattle.bdb_base.specs.Causes.{is_listed}
use Rattle.bdb_canon.specs.Canonical.{row_count}
use Rattle.bdb_paths.proofs.StateLemmas.{list_has_states}
use Rattle.bdb_tables.specs.Names.{Names, AreNames, path_of, number_of, is_named, are_once}
use Rattle.bdb_tables.proofs.DifferenceLemmas.{is_among}
use Rattle.bdb_tables.proofs.UsedLemmas.{AllNamed, rest_named, first_named}
use Rattle.bdb_update.proofs.RowLemmas.{rows_of, rows_of_is, rows_of_few}

abbrev Paths : Type 0
Paths = List (List ℕ)

-- ---- the same paths have the same sum

abbrev others : List ℕ → Paths → Paths
others p ys = filter (λ q. not (same_text p q)) ys

none_dropped : (p : List ℕ) (ys : Paths) → is_among p ys ≡ false → others p ys ≡ ys
none_dropped p [] e = refl
none_dropped p (y ∷ ys) e =
    let a : same_text p y ≡ false = false_from_ne_true (same_text p y) (λ h. false≢true (sym e ∙ or_left (same_text p y) (is_among p ys) h)) in
    let b : is_among p ys ≡ false = false_from_ne_true (is_among p ys) (λ h. false≢true (sym e ∙ or_right (same_text p y) (is_among p ys) h)) in
    cond-true (not (same_text p y)) (y ∷ others p ys) (others p ys) (ap not a) ∙ ap (λ (zs : Paths). y ∷ zs) (none_dropped p ys b)

-- without one of some the sum is less by its part
sum_without : (c : List ℕ → ℕ) (p : List ℕ) (ys : Paths) → are_distinct ys ≡ true → is_among p ys ≡ true → sum_by c ys ≡ c p + sum_by c (others p ys)
sum_without c p [] d e = absurd (false≢true e)
sum_without c p (y ∷ ys) d e =
    let k = and_parts (not (is_among y ys)) (are_distinct ys) d in
    let whole = sum_by-cons c y ys in
    elim (cases_Bool (same_text p y)) [
      | inl s ↦
          let same : p ≡ y = (same_text-Decides p y).0 s in
          let gone : others p (y ∷ ys) ≡ others p ys = cond-false (not (same_text p y)) (y ∷ others p ys) (others p ys) (ap not s) in
          let rest : others p ys ≡ ys = none_dropped p ys (ap (λ z. is_among z ys) same ∙ not-true (is_among y ys) k.0) in
          whole ∙ ap (λ z. c z + sum_by c ys) (sym same) ∙ ap (λ (zs : Paths). c p + sum_by c zs) (sym (gone ∙ rest))
      | inr s ↦
          let here : is_among p ys ≡ true = still (same_text p y) (is_among p ys) s e in
          let ih = sum_without c p ys k.1 here in
          let kept : others p (y ∷ ys) ≡ y ∷ others p ys = cond-true (not (same_text p y)) (y ∷ others p ys) (others p ys) (ap not s) in
          let more = ap (sum_by c) kept ∙ sum_by-cons c y (others p ys) in
          omega arith
    ]
  where
    still : (a b : Bool) → a ≡ false → (a || b) ≡ true → b ≡ true
    still true b f g = absurd (false≢true (sym f))
    still false b f g = g

others_distinct : (p : List ℕ) (ys : Paths) → are_distinct ys ≡ true → are_distinct (others p ys) ≡ true
others_distinct p [] d = d
others_distinct p (y ∷ ys) d =
    let k = and_parts (not (is_among y ys)) (are_distinct ys) d in
    by (same_text p y) (others_distinct p ys k.1) (not-true (is_among y ys) k.0)
  where
    inside : (q : List ℕ) (zs : Paths) → is_among q (others p zs) ≡ true → is_among q zs ≡ true
    inside q [] e = e
    inside q (z ∷ zs) e = one (same_text p z) e (inside q zs)
      where
        one : (b : Bool) → is_among q (cond (not b) (z ∷ others p zs) (others p zs)) ≡ true → (is_among q (others p zs) ≡ true → is_among q zs ≡ true) → is_among q (z ∷ zs) ≡ true
        one true f r = or_right (same_text q z) (is_among q zs) (r f)
        one false f r = elim (or_cases (same_text q z) (is_among q (others p zs)) f) [ inl a ↦ or_left (same_text q z) (is_among q zs) a | inr a ↦ or_right (same_text q z) (is_among q zs) (r a) ]

    by : (b : Bool) → are_distinct (others p ys) ≡ true → is_among y ys ≡ false → are_distinct (cond (not b) (y ∷ others p ys) (others p ys)) ≡ true
    by true r n = r
    by false r n = and_from (not (is_among y (others p ys))) (are_distinct (others p ys))
        (not_from_false (is_among y (others p ys)) (false_from_ne_true (is_among y (others p ys)) (λ e. false≢true (sym n ∙ inside y ys e)))) r

other_stays : (p q : List ℕ) (ys : Paths) → same_text p q ≡ false → is_among q ys ≡ true → is_among q (others p ys) ≡ true
other_stays p q [] s e = e
other_stays p q (y ∷ ys) s e = elim (or_cases (same_text q y) (is_among q ys) e) [
  | inl a ↦
      let same : q ≡ y = (same_text-Decides q y).0 a in
      ap (is_among q) (cond-true (not (same_text p y)) (y ∷ others p ys) (others p ys) (ap not (ap (same_text p) (sym same) ∙ s))) ∙ or_left (same_text q y) (is_among q (others p ys)) a
  | inr a ↦ by (same_text p y) (other_stays p q ys s a)
]
  where
    by : (b : Bool) → is_among q (others p ys) ≡ true → is_among q (cond (not b) (y ∷ others p ys) (others p ys)) ≡ true
    by true r = r
    by false r = or_right (same_text q y) (is_among q (others p ys)) r

sum_le : (c : List ℕ → ℕ) (xs ys : Paths) → are_distinct xs ≡ true → are_distinct ys ≡ true → AllByRecursion (λ p. is_among p ys ≡ true) xs → sum_by c xs ≤ sum_by c ys
sum_le c [] ys dx dy a = omega arith
sum_le c (x ∷ xs) ys dx dy a =
    let k = and_parts (not (is_among x xs)) (are_distinct xs) dx in
    let ih = sum_le c xs (others x ys) k.1 (others_distinct x ys dy) (all_stay xs a.1 (not-true (is_among x xs) k.0)) in
    let e = sum_by-cons c x xs in
    let f = sum_without c x ys dy a.0 in
    omega arith
  where
    all_stay : (zs : Paths) → AllByRecursion (λ p. is_among p ys ≡ true) zs → is_among x zs ≡ false → AllByRecursion (λ p. is_among p (others x ys) ≡ true) zs
    all_stay [] b n = tt
    all_stay (z ∷ zs) b n = (
      other_stays x z ys (false_from_ne_true (same_text x z) (λ h. false≢true (sym n ∙ or_left (same_text x z) (is_among x zs) h))) b.0,
      all_stay zs b.1 (false_from_ne_true (is_among x zs) (λ h. false≢true (sym n ∙ or_right (same_text x z) (is_among x zs) h))),
    )

all_of_them : (ys xs : Paths) → ((p : List ℕ) → is_among p xs ≡ true → is_among p ys ≡ true) → AllByRecursion (λ p. is_among p ys ≡ true) xs
all_of_them ys [] h = tt
all_of_them ys (x ∷ xs) h = (
  h x (or_left (same_text x x) (is_among x xs) ((same_text-Decides x x).1 refl)),
  all_of_them ys xs (λ p e. h p (or_right (same_text p x) (is_among p xs) e)),
)

same_sum : (c : List ℕ → ℕ) (xs ys : Paths) → are_distinct xs ≡ true → are_distinct ys ≡ true → ((p : List ℕ) → is_among p xs ≡ is_among p ys) → sum_by c xs ≡ sum_by c ys
same_sum c xs ys dx dy same =
    let a = sum_le c xs ys dx dy (all_of_them ys xs (λ p e. sym (same p) ∙ e)) in
    let b = sum_le c ys xs dy dx (all_of_them xs ys (λ p e. same p ∙ e)) in
    omega arith

-- ---- paths in order stand once each

member_among : (xs : Paths) (p : List ℕ) → is_member path_cmp xs p ≡ is_among p xs
member_among [] p = refl
member_among (x ∷ xs) p = ap (λ b. b || is_member path_cmp xs p) (is_eq_path_cmp x p ∙ turned x p) ∙ ap (λ b. same_text p x || b) (member_among xs p)
  where
    turned : (a b : List ℕ) → same_text a b ≡ same_text b a
    turned a b = elim (cases_Bool (same_text a b)) [
      | inl e ↦ e ∙ sym ((same_text-Decides b a).1 (sym ((same_text-Decides a b).0 e)))
      | inr e ↦ e ∙ sym (false_from_ne_true (same_text b a) (λ f. false≢true (sym e ∙ (same_text-Decides a b).1 (sym ((same_text-Decides b a).0 f)))))
    ]

ascending_distinct : (xs : Paths) → ascending path_cmp xs ≡ true → are_distinct xs ≡ true
ascending_distinct [] e = refl
ascending_distinct (x ∷ xs) e =
    let k = and_parts (list_all (λ y. is_lt (path_cmp x y)) xs) (ascending path_cmp xs) e in
    and_from (not (is_among x xs)) (are_distinct xs) (not_from_false (is_among x xs) (absent xs k.0)) (ascending_distinct xs k.1)
  where
    absent : (ys : Paths) → list_all (λ y. is_lt (path_cmp x y)) ys ≡ true → is_among x ys ≡ false
    absent [] l = refl
    absent (y ∷ ys) l =
        let m = and_parts (is_lt (path_cmp x y)) (list_all (λ z. is_lt (path_cmp x z)) ys) l in
        or_from (same_text x y) (is_among x ys) (false_from_ne_true (same_text x y) (λ s.
        false≢true (sym (ap is_eq (is_lt-Less (path_cmp x y) m.0)) ∙ is_eq_path_cmp x y ∙ s))) (absent ys m.1)

module _ (keys : ℕ → ℕ) where
  -- ---- the rows of all states' worlds

  module _ (stmts : List Stmt) (ns : Names) (names : AreNames ns) where
    some_path : Option (List ℕ) → List ℕ
    some_path None = []
    some_path (Some w) = w

    path : ℕ → List ℕ
    path n = some_path (path_of ns n)

    path_is : (n : ℕ) (w : List ℕ) → path_of ns n ≡ Some w → path n ≡ w
    unfolding path some_path
    path_is n w e = ap some_path e

    sums_meet : (ks : List ℕ) → AllNamed (path_of ns) ks → sum_by (rows_of keys stmts ns) ks ≡ sum_by (row_count keys stmts) (map path ks)
    sums_meet [] h = refl
    sums_meet (k ∷ ks) h =
        let w = first_named (path_of ns) k ks h in
        sum_by-cons (rows_of keys stmts ns) k ks
        ∙ ap (λ n. n + sum_by (rows_of keys stmts ns) ks) (rows_of_is keys stmts ns k w.0 w.1 ∙ ap (row_count keys stmts) (sym (path_is k w.0 w.1)))
        ∙ ap (λ n. row_count keys stmts (path k) + n) (sums_meet ks (rest_named (path_of ns) k ks h))
        ∙ sym (sum_by-cons (row_count keys stmts) (path k) (map path ks))

    one_number : (j k : ℕ) (v w : List ℕ) → path_of ns j ≡ Some v → path_of ns k ≡ Some w → v ≡ w → j ≡ k
    one_number j k v w p q e = one (number_of ns w) (ap (number_of ns) (sym e) ∙ names.named j v p) (names.named k w q)
      where
        one : (o : Option ℕ) → o ≡ Some j → o ≡ Some k → j ≡ k
        one o a b = cc

    listed : (k : ℕ) (v : List ℕ) → path_of ns k ≡ Some v → (ks : List ℕ) → AllNamed (path_of ns) ks → is_among v (map path ks) ≡ true → is_listed k ks ≡ true
    listed k v p [] h e = absurd (false≢true e)
    listed k v p (j ∷ ks) h e = elim (or_cases (same_text v (path j)) (is_among v (map path ks)) e) [
      | inl s ↦
          let w = first_named (path_of ns) j ks h in
          or_left (nat_eq k j) (is_listed k ks) (eq-eqb k j (one_number k j v w.0 p w.1 ((same_text-Decides v (path j)).0 s ∙ path_is j w.0 w.1)))
      | inr s ↦ or_right (nat_eq k j) (is_listed k ks) (listed k v p ks (rest_named (path_of ns) j ks h) s)
    ]

    among : (k : ℕ) (v : List ℕ) → path_of ns k ≡ Some v → (ks : List ℕ) → is_listed k ks ≡ true → is_among v (map path ks) ≡ true
    among k v p [] e = absurd (false≢true e)
    among k v p (j ∷ ks) e = elim (or_cases (nat_eq k j) (is_listed k ks) e) [
      | inl s ↦ or_left (same_text v (path j)) (is_among v (map path ks)) ((same_text-Decides v (path j)).1 (sym (ap path (sym (eqb-true k j s)) ∙ path_is k v p)))
      | inr s ↦ or_right (same_text v (path j)) (is_among v (map path ks)) (among k v p ks s)
    ]

    named_by : (v : List ℕ) (ks : List ℕ) → AllNamed (path_of ns) ks → is_among v (map path ks) ≡ true → is_named ns v ≡ true
    named_by v [] h e = absurd (false≢true e)
    named_by v (j ∷ ks) h e = elim (or_cases (same_text v (path j)) (is_among v (map path ks)) e) [
      | inl s ↦
          let w = first_named (path_of ns) j ks h in
          ap (is_named ns) ((same_text-Decides v (path j)).0 s ∙ path_is j w.0 w.1) ∙ ap is_some (names.named j w.0 w.1)
      | inr s ↦ named_by v ks (rest_named (path_of ns) j ks h) s
    ]

    paths_distinct : (ks : List ℕ) → AllNamed (path_of ns) ks → are_once ks ≡ true → are_distinct (map path ks) ≡ true
    paths_distinct [] h o = refl
    paths_distinct (k ∷ ks) h o =
        let c = and_parts (not (is_listed k ks)) (are_once ks) o in
        let w = first_named (path_of ns) k ks h in
        and_from (not (is_among (path k) (map path ks))) (are_distinct (map path ks))
        (not_from_false (is_among (path k) (map path ks)) (false_from_ne_true (is_among (path k) (map path ks)) (λ e.
        false≢true (sym (not-true (is_listed k ks) c.0) ∙ listed k w.0 w.1 ks (rest_named (path_of ns) k ks h) (ap (λ z. is_among z (map path ks)) (sym (path_is k w.0 w.1)) ∙ e)))))
        (paths_distinct ks (rest_named (path_of ns) k ks h) c.1)

    all_named : AllNamed (path_of ns) ns.used
    all_named k e = sym (names.counted k) ∙ e

    pub sum_of_states : ((w : List ℕ) → is_named ns w ≡ is_state stmts w) → sum_by (rows_of keys stmts ns) ns.used ≡ sum_by (row_count keys stmts) (states_of stmts)
    sum_of_states is =
        sums_meet ns.used all_named
        ∙ same_sum (row_count keys stmts) (map path ns.used) (states_of stmts) (paths_distinct ns.used all_named names.once)
        (ascending_distinct (states_of stmts) (set_is_ascending path_exact (stated_prefixes stmts)))
        (λ w. meet w ∙ is w ∙ sym (list_has_states stmts w) ∙ member_among (states_of stmts) w)
      where
        meet : (w : List ℕ) → is_among w (map path ns.used) ≡ is_named ns w
        meet w = elim (cases_Bool (is_named ns w)) [
          | inl e ↦
              let n = some_of (number_of ns w) e in
              let p = names.numbered w n.0 n.1 in
              among n.0 w p ns.used (names.counted n.0 ∙ ap is_some p) ∙ sym e
          | inr e ↦ false_from_ne_true (is_among w (map path ns.used)) (λ f. false≢true (sym e ∙ named_by w ns.used all_named f)) ∙ sym e
        ]

  -- ---- how many rows there are at most

  few_at : (stmts : List Stmt) → IsConsistent keys stmts → (w : List ℕ) (us : List Tuple) → length (flat_map (rows_at keys stmts w) us) ≤ length us
  few_at stmts c w [] = omega arith
  few_at stmts c w (u ∷ us) =
      let ih = few_at stmts c w us in
      let e = length-flat_map (rows_at keys stmts w) (u ∷ us) in
      let f = length-flat_map (rows_at keys stmts w) us in
      let g = sum_by-cons (λ x. length (rows_at keys stmts w x)) u us in
      let one : length (rows_at keys stmts w u) ≤ 1 = elim (one_row keys stmts c w u) [
        | inl a ↦ let z = ap length a in omega arith
        | inr a ↦ let z = ap length a.1 in omega arith
      ] in
      omega arith

  set_shorter : (xs : List Tuple) → length (sorted_set tuple_cmp xs) ≤ length xs
  set_shorter [] = omega arith
  set_shorter (x ∷ xs) =
      let ih = set_shorter xs in
      let e = length-put_in tuple_exact (sorted_set tuple_cmp xs) x (set_is_ascending tuple_exact xs) in
      let f : cond (is_member tuple_cmp (sorted_set tuple_cmp xs) x) 0 1 ≤ 1 = one (is_member tuple_cmp (sorted_set tuple_cmp xs) x) in
      omega arith
    where
      one : (b : Bool) → cond b 0 1 ≤ 1
      one true = omega arith
      one false = omega arith

  few_rows : (stmts : List Stmt) → IsConsistent keys stmts → (w : List ℕ) → row_count keys stmts w ≤ length stmts
  few_rows stmts c w =
      let a = few_at stmts c w (tuples_of stmts) in
      let b = set_shorter (map (λ (x : Stmt). x.tuple) stmts) in
      let d = length-map stmts (λ (x : Stmt). x.tuple) in
      omega arith

  sum_few : (f : ℕ → ℕ) (xs : List ℕ) → ((x : ℕ) → f x ≤ 20000) → sum_by f xs ≤ length xs * 20000
  sum_few f [] h = omega arith
  sum_few f (x ∷ xs) h =
      let ih = sum_few f xs h in
      let e = sum_by-cons f x xs in
      let g = h x in
      omega arith

  pub rows_are_few : (stmts : List Stmt) (ns : Names) → IsConsistent keys stmts → length stmts ≤ most_statements → length ns.used ≤ 65536 → sum_by (rows_of keys stmts ns) ns.used ≤ 1310720000
  rows_are_few stmts ns c few used =
      let a = sum_few (rows_of keys stmts ns) ns.used (λ n. let l = rows_of_few keys stmts ns n (few_rows stmts c) in omega arith) in
      omega arith
