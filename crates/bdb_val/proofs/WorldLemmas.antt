-- The rows that are read of a world are those of the world of its path.
use Rattle.std.proofs.Common.{◌≡◌, ◌∙◌, ℕ, suc, ◌+◌, ◌*◌, ◌<◌, ◌≤◌, Bool, true, false, not, ◌||◌, nat_eq, List, [], ◌∷◌, length, filter, get_or, Option, Some, None, cond, inl, inr, map, refl, ap, sym, subst, arith}
use Rattle.std.specs.List.{list_any, list_all, AllByRecursion}
use Rattle.std.specs.List.Sorted.{IsPermutation}
use Rattle.std.specs.declared.cmp.Ordering.{Ordering}
use Rattle.std.specs.declared.cmp.Ordering.TheVariants.{Less, Equal, Greater}
use Rattle.std.specs.Ordering.{is_lt, ordering_reverse}
use Rattle.std.proofs.lemmas.Bool.{true≢false, false≢true, cases_Bool, and_parts, and_from, or_cases, or_left, or_right, or_parts, false_from_ne_true, not_from_false, cond-true, cond-false, eqb-true, eq-eqb}
use Rattle.std.proofs.lemmas.Cmp.{tied_itself}
use Rattle.std.proofs.lemmas.List.Sorted.{sorted_far, ranks_by, length_permutation, list_any-IsPermutation, sum_by-IsPermutation}
use Rattle.std.proofs.lemmas.List.Sums.{length-filter}
use Rattle.bdb_base.specs.declared.kinds.Held.{Held}
use Rattle.bdb_base.specs.declared.kinds.Sign.{Sign}
use Rattle.bdb_base.specs.declared.kinds.Sign.TheVariants.{Plus, Minus}
use Rattle.bdb_base.specs.declared.kinds.Stmt.{Stmt}
use Rattle.bdb_base.specs.declared.tuple.Tuple.{Tuple}
use Rattle.bdb_base.specs.Order.{tuple_cmp}
use Rattle.bdb_base.specs.OrderLemmas.{tuple_total, tuple_exact}
use Rattle.bdb_base.specs.Same.{same_tuple}
use Rattle.bdb_base.specs.SameLemmas.{same_tuple-Decides}
use Rattle.bdb_base.specs.SortedSet.{ascending}
use Rattle.bdb_base.specs.WorldRows.{same_row, has_row, row_tuple_cmp, world_of}
use Rattle.bdb_base.specs.Worlds.{explicit, stated, IsConsistent}
use Rattle.bdb_base.proofs.ListLemmas.{filter_kept_one, filter_dropped_one, length_map}
use Rattle.bdb_base.proofs.WorldLemmas.{worlds_are_consistent, stated_tuples_are_explicit}
use Rattle.bdb_base.proofs.WorldRowsLemmas.{same_row_tells, same_row_from, rows_are_the_world, tuples_stand_once}
use Rattle.bdb_base.proofs.SetLemmas.{is_lt-Less}
use Rattle.bdb_base.proofs.OptionLemmas.{some_of, none_and_some, one_there}
use Rattle.bdb_base.proofs.BoolLemmas.{same_tests}
use Rattle.bdb_keep.specs.Tables.{Tables}
use Rattle.bdb_key.specs.Grammar.{IsNum}
use Rattle.bdb_tables.specs.InUse.{ValKey}
use Rattle.bdb_tables.specs.Marks.{Mark, sign_by, marked, mark_of}
use Rattle.bdb_tables.specs.Names.{Names, path_of}
use Rattle.bdb_tables.specs.Rows.{AreKeyLengths, Tuples, HoldsTuples, HoldsRows, row_for}
use Rattle.bdb_val.specs.Reads.{HasRows, AreReadUnder, world_prefix}
use Rattle.bdb_val.specs.Settling.{mark_in, AreNamed, numbers_are_apart}
use Rattle.bdb_val.specs.WorldReads.{held_row, tuple_is_before, AreInTupleOrder, AreRowsAt}
use Rattle.bdb_val.specs.declared.stored.StoredRow.{StoredRow}
use Rattle.bdb_val.proofs.HeldLemmas.{held_names, right_row}
use Rattle.bdb_val.proofs.ReadLemmas.{read_named, read_apart, read_mark, world_span}
use Rattle.bdb_val.proofs.StepLemmas.{mark_of_each}

-- ---- two lists of rows by tuple with the same rows are one

above_has : (x : Held) (xs : List Held) (h : Held) → list_all (λ z. is_lt (row_tuple_cmp x z)) xs ≡ true → has_row xs h ≡ true → is_lt (row_tuple_cmp x h) ≡ true
above_has x [] h a e = absurd (false≢true e)
above_has x (y ∷ ys) h a e =
    let p = and_parts (is_lt (row_tuple_cmp x y)) (list_all (λ z. is_lt (row_tuple_cmp x z)) ys) a in
    elim (or_cases (same_row h y) (has_row ys h) e) [
      | inl k ↦ ap (λ u. is_lt (tuple_cmp x.tuple u)) ((same_row_tells h y k).0) ∙ p.0
      | inr k ↦ above_has x ys h p.1 k
    ]

not_before_itself : (t : Tuple) → is_lt (tuple_cmp t t) ≡ true → ⊥
not_before_itself t e = true≢false (sym e ∙ ap is_lt (tied_itself tuple_total t))

not_both : (t u : Tuple) → is_lt (tuple_cmp t u) ≡ true → is_lt (tuple_cmp u t) ≡ true → ⊥
not_both t u a b = true≢false (sym a ∙ ap is_lt (tuple_total.antisymm t u ∙ ap ordering_reverse (is_lt-Less (tuple_cmp u t) b)))

row_itself : (h : Held) → same_row h h ≡ true
row_itself h = same_row_from h h refl refl refl

same_rows_make_list : (xs ys : List Held) → ascending row_tuple_cmp xs ≡ true → ascending row_tuple_cmp ys ≡ true → ((h : Held) → has_row xs h ≡ has_row ys h) → xs ≡ ys
same_rows_make_list [] [] a b m = refl
same_rows_make_list [] (y ∷ ys) a b m = absurd (false≢true (m y ∙ or_left (same_row y y) (has_row ys y) (row_itself y)))
same_rows_make_list (x ∷ xs) [] a b m = absurd (false≢true (sym (m x) ∙ or_left (same_row x x) (has_row xs x) (row_itself x)))
same_rows_make_list (x ∷ xs) (y ∷ ys) a b m =
    elim (or_cases (same_row x y) (has_row ys x) (sym (m x) ∙ or_left (same_row x x) (has_row xs x) (row_itself x))) [
      | inl k ↦
          let same : x ≡ y = whole x y (same_row_tells x y k) in
          ap (λ h. h ∷ xs) same ∙ ap (λ (hs : List Held). y ∷ hs) (same_rows_make_list xs ys p.1 q.1 (λ h. tails same h))
      | inr k ↦ elim (or_cases (same_row y x) (has_row xs y) (m y ∙ or_left (same_row y y) (has_row ys y) (row_itself y))) [
        | inl j ↦ absurd (not_before_itself y.tuple (ap (λ u. is_lt (tuple_cmp y.tuple u)) (same_row_tells y x j).0 ∙ above_has y ys x q.0 k))
        | inr j ↦ absurd (not_both x.tuple y.tuple (above_has x xs y p.0 j) (above_has y ys x q.0 k))
      ]
    ]
  where
    p : (list_all (λ z. is_lt (row_tuple_cmp x z)) xs ≡ true) × (ascending row_tuple_cmp xs ≡ true)
    p = and_parts (list_all (λ z. is_lt (row_tuple_cmp x z)) xs) (ascending row_tuple_cmp xs) a

    q : (list_all (λ z. is_lt (row_tuple_cmp y z)) ys ≡ true) × (ascending row_tuple_cmp ys ≡ true)
    q = and_parts (list_all (λ z. is_lt (row_tuple_cmp y z)) ys) (ascending row_tuple_cmp ys) b

    whole : (g h : Held) → (g.tuple ≡ h.tuple) × (g.sign ≡ h.sign) × (g.explicit ≡ h.explicit) → g ≡ h
    whole g h e = ap (λ (t : Tuple). make t g.sign g.explicit) e.0 ∙ ap (λ (s : Sign). make h.tuple s g.explicit) e.1 ∙ ap (λ (c : Bool). make h.tuple h.sign c) e.2
      where
        make : Tuple → Sign → Bool → Held
        make t s c = record { tuple = t; sign = s; explicit = c }

    -- no row of a tail is the first
    not_first : (z : Held) (zs : List Held) → list_all (λ v. is_lt (row_tuple_cmp z v)) zs ≡ true → (h : Held) → same_row h z ≡ true → has_row zs h ≡ false
    not_first z zs c h e = false_from_ne_true (has_row zs h) (λ k. not_before_itself z.tuple (ap (λ u. is_lt (tuple_cmp z.tuple u)) (sym (same_row_tells h z e).0) ∙ above_has z zs h c k))

    tails : x ≡ y → (h : Held) → has_row xs h ≡ has_row ys h
    tails same h = elim (cases_Bool (same_row h x)) [
      | inl e ↦ not_first x xs p.0 h e ∙ sym (not_first y ys q.0 h (ap (same_row h) (sym same) ∙ e))
      | inr e ↦ sym (ap (λ c. c || has_row xs h) e) ∙ m h ∙ ap (λ c. c || has_row ys h) (ap (same_row h) (sym same) ∙ e)
    ]

-- ---- rows in order, of which no tuple stands twice, ascend

-- none of these comes before the first
abbrev none_before : Held → List Held → Bool
none_before x ys = list_all (λ y. not (tuple_is_before y x)) ys

all_by_place : (p : Held → Bool) (xs : List Held) → ((j : ℕ) (d : Held) → j < length xs → p (get_or xs j d) ≡ true) → list_all p xs ≡ true
all_by_place p [] h = refl
all_by_place p (x ∷ xs) h = and_from (p x) (list_all p xs) (h 0 x (omega arith)) (all_by_place p xs (λ j d lt. h (suc j) d (omega arith)))

order_ascends : (xs : List Held) → ((i j : ℕ) (d : Held) → i ≤ j → j < length xs → tuple_is_before (get_or xs j d) (get_or xs i d) ≡ false) → ((u : Tuple) → length (filter (λ h. same_tuple h.tuple u) xs) ≤ 1)
    → ascending row_tuple_cmp xs ≡ true
order_ascends [] far once = refl
order_ascends (x ∷ xs) far once =
    let u = x.tuple in
    let here : filter (λ h. same_tuple h.tuple u) (x ∷ xs) ≡ x ∷ filter (λ h. same_tuple h.tuple u) xs = filter_kept_one (λ h. same_tuple h.tuple u) x xs ((same_tuple-Decides u u).1 refl) in
    let none : length (filter (λ h. same_tuple h.tuple u) xs) ≤ 0 =
    (let le = once u in let n : length (filter (λ h. same_tuple h.tuple u) (x ∷ xs)) ≡ suc (length (filter (λ h. same_tuple h.tuple u) xs)) = ap length here in omega (arith, le, n)) in
    and_from (list_all (λ y. is_lt (row_tuple_cmp x y)) xs) (ascending row_tuple_cmp xs)
    (above xs (all_by_place (λ y. not (tuple_is_before y x)) xs (λ j d lt. not_from_false (tuple_is_before (get_or xs j d) x) (far 0 (suc j) d (omega arith) (omega arith)))) none)
    (order_ascends xs (λ i j d le lt. far (suc i) (suc j) d (omega arith) (omega arith)) (λ v. fewer v))
  where
    fewer : (v : Tuple) → length (filter (λ h. same_tuple h.tuple v) xs) ≤ 1
    fewer v = elim (cases_Bool (same_tuple x.tuple v)) [
      | inl e ↦
          let n : length (filter (λ h. same_tuple h.tuple v) (x ∷ xs)) ≡ suc (length (filter (λ h. same_tuple h.tuple v) xs)) = ap length (filter_kept_one (λ h. same_tuple h.tuple v) x xs e) in
          let le = once v in omega (arith, n, le)
      | inr e ↦
          let n : length (filter (λ h. same_tuple h.tuple v) (x ∷ xs)) ≡ length (filter (λ h. same_tuple h.tuple v) xs) = ap length (filter_dropped_one (λ h. same_tuple h.tuple v) x xs e) in
          let le = once v in omega (arith, n, le)
    ]

    less : (t u : Tuple) → not (is_lt (tuple_cmp u t)) ≡ true → same_tuple u t ≡ false → is_lt (tuple_cmp t u) ≡ true
    less t u a b = go (tuple_cmp u t) refl
      where
        go : (r : Ordering) → tuple_cmp u t ≡ r → is_lt (tuple_cmp t u) ≡ true
        go Less e = absurd (false≢true (sym (ap (λ q. not (is_lt q)) e) ∙ a))
        go Equal e = absurd (false≢true (sym b ∙ (same_tuple-Decides u t).1 (tuple_exact.exact u t e)))
        go Greater e = ap is_lt (tuple_total.antisymm t u ∙ ap ordering_reverse e)

    above : (ys : List Held) → none_before x ys ≡ true → length (filter (λ h. same_tuple h.tuple x.tuple) ys) ≤ 0 → list_all (λ y. is_lt (row_tuple_cmp x y)) ys ≡ true
    above [] a n = refl
    above (y ∷ ys) a n =
        let k = and_parts (not (tuple_is_before y x)) (none_before x ys) a in
        elim (cases_Bool (same_tuple y.tuple x.tuple)) [
          | inl e ↦
              let m : length (filter (λ h. same_tuple h.tuple x.tuple) (y ∷ ys)) ≡ suc (length (filter (λ h. same_tuple h.tuple x.tuple) ys)) = ap length (filter_kept_one (λ h. same_tuple h.tuple x.tuple) y ys e) in
              absurd (omega (arith, m, n))
          | inr e ↦
              let m : length (filter (λ h. same_tuple h.tuple x.tuple) (y ∷ ys)) ≡ length (filter (λ h. same_tuple h.tuple x.tuple) ys) = ap length (filter_dropped_one (λ h. same_tuple h.tuple x.tuple) y ys e) in
              and_from (is_lt (row_tuple_cmp x y)) (list_all (λ z. is_lt (row_tuple_cmp x z)) ys) (less x.tuple y.tuple k.0 e) (above ys k.1 (omega (arith, m, n)))
        ]

-- ---- marks and signs

-- a mark is that of a tuple exactly where the world has it so
pub mark_tells : (keys : ℕ → ℕ) (stmts : List Stmt) (w : List ℕ) (u : Tuple) (m : Mark) → mark_of keys stmts w u ≡ Some m → (stated keys stmts w u m.0 ≡ true) × (m.1 ≡ explicit stmts w u m.0)
mark_tells keys stmts w u m e = go (stated keys stmts w u Plus) (stated keys stmts w u Minus) refl refl e
  where
    some_mark : (s : Sign) → Some (s, explicit stmts w u s) ≡ Some m → (s, explicit stmts w u s) ≡ m
    some_mark s q = cc

    by : (s : Sign) → stated keys stmts w u s ≡ true → Some (s, explicit stmts w u s) ≡ Some m → (stated keys stmts w u m.0 ≡ true) × (m.1 ≡ explicit stmts w u m.0)
    by s a q =
        let same = some_mark s q in (
          ap (λ (k : Mark). stated keys stmts w u k.0) (sym same) ∙ a,
          ap (λ (k : Mark). k.1) (sym same) ∙ ap (λ (k : Mark). explicit stmts w u k.0) same,
        )

    go : (p q : Bool) → stated keys stmts w u Plus ≡ p → stated keys stmts w u Minus ≡ q → marked (explicit stmts w u) (sign_by (stated keys stmts w u Plus) (stated keys stmts w u Minus)) ≡ Some m
        → (stated keys stmts w u m.0 ≡ true) × (m.1 ≡ explicit stmts w u m.0)
    go true q a b k = by Plus a (sym (ap (λ x. marked (explicit stmts w u) (sign_by x (stated keys stmts w u Minus))) a) ∙ k)
    go false true a b k = by Minus b (sym (ap (λ x. marked (explicit stmts w u) (sign_by x (stated keys stmts w u Minus))) a ∙ ap (λ x. marked (explicit stmts w u) (sign_by false x)) b) ∙ k)
    go false false a b k = absurd (none_and_some m None refl (sym (ap (λ x. marked (explicit stmts w u) (sign_by x (stated keys stmts w u Minus))) a ∙ ap (λ x. marked (explicit stmts w u) (sign_by false x)) b) ∙ k))

pub mark_has : (keys : ℕ → ℕ) (stmts : List Stmt) (w : List ℕ) (u : Tuple) (s : Sign) → IsConsistent keys stmts → stated keys stmts w u s ≡ true → mark_of keys stmts w u ≡ Some (s, explicit stmts w u s)
mark_has keys stmts w u Plus c e = ap (λ x. marked (explicit stmts w u) (sign_by x (stated keys stmts w u Minus))) e
mark_has keys stmts w u Minus c e =
    let no : stated keys stmts w u Plus ≡ false = false_from_ne_true (stated keys stmts w u Plus) (λ k.
    false≢true (sym (worlds_are_consistent keys stmts c w u u Plus Minus k e) ∙ (same_tuple-Decides u u).1 refl)) in
    ap (λ x. marked (explicit stmts w u) (sign_by x (stated keys stmts w u Minus))) no ∙ ap (λ x. marked (explicit stmts w u) (sign_by false x)) e

-- ---- the rows that are read

has_mapped : (xs : List StoredRow) (h : Held) → has_row (map held_row xs) h ≡ list_any (λ x. same_row h (held_row x)) xs
has_mapped [] h = refl
has_mapped (x ∷ xs) h = ap (λ b. same_row h (held_row x) || b) (has_mapped xs h)

-- where numbers stand once, tuples do
tuples_once : (ts : Tuples) → ((tid : ℕ) (u : Tuple) → ts.tuple tid ≡ Some u → ts.number u ≡ Some tid) → (xs : List StoredRow) → AreNamed ts.tuple xs → numbers_are_apart xs ≡ true
    → (u : Tuple) → length (filter (λ h. same_tuple h.tuple u) (map held_row xs)) ≤ 1
tuples_once ts named [] n a u = omega arith
tuples_once ts named (x ∷ xs) n a u =
    let later : numbers_are_apart xs ≡ true = apart_later (list_any (λ y. nat_eq y.tid x.tid) xs) a in
    elim (cases_Bool (same_tuple x.tuple u)) [
      | inr e ↦
          let k : length (filter (λ h. same_tuple h.tuple u) (map held_row (x ∷ xs))) ≡ length (filter (λ h. same_tuple h.tuple u) (map held_row xs)) = ap length (filter_dropped_one (λ h. same_tuple h.tuple u) (held_row x) (map held_row xs) e) in
          let r = tuples_once ts named xs n.1 later u in omega (arith, k, r)
      | inl e ↦
          let k : length (filter (λ h. same_tuple h.tuple u) (map held_row (x ∷ xs))) ≡ suc (length (filter (λ h. same_tuple h.tuple u) (map held_row xs))) = ap length (filter_kept_one (λ h. same_tuple h.tuple u) (held_row x) (map held_row xs) e) in
          let r = none xs n.1 (apart_here (list_any (λ y. nat_eq y.tid x.tid) xs) refl a) e in omega (arith, k, r)
    ]
  where
    apart_later : (b : Bool) → cond b false (numbers_are_apart xs) ≡ true → numbers_are_apart xs ≡ true
    apart_later true e = absurd (false≢true e)
    apart_later false e = e

    apart_here : (b : Bool) → list_any (λ y. nat_eq y.tid x.tid) xs ≡ b → cond b false (numbers_are_apart xs) ≡ true → list_any (λ y. nat_eq y.tid x.tid) xs ≡ false
    apart_here true q e = absurd (false≢true e)
    apart_here false q e = q

    none : (ys : List StoredRow) → AreNamed ts.tuple ys → list_any (λ y. nat_eq y.tid x.tid) ys ≡ false → same_tuple x.tuple u ≡ true → length (filter (λ h. same_tuple h.tuple u) (map held_row ys)) ≤ 0
    none [] m q e = omega arith
    none (y ∷ ys) m q e =
        let p = or_parts (nat_eq y.tid x.tid) (list_any (λ z. nat_eq z.tid x.tid) ys) q in
        let other : same_tuple y.tuple u ≡ false = false_from_ne_true (same_tuple y.tuple u) (λ k.
        let same : y.tuple ≡ x.tuple = (same_tuple-Decides y.tuple u).0 k ∙ sym ((same_tuple-Decides x.tuple u).0 e) in
        false≢true (sym p.0 ∙ eq-eqb y.tid x.tid (one_there y.tid x.tid (ts.number x.tuple) (ap ts.number (sym same) ∙ named y.tid y.tuple m.0) (named x.tid x.tuple n.0)))) in
        let k : length (filter (λ h. same_tuple h.tuple u) (map held_row (y ∷ ys))) ≡ length (filter (λ h. same_tuple h.tuple u) (map held_row ys)) = ap length (filter_dropped_one (λ h. same_tuple h.tuple u) (held_row y) (map held_row ys) other) in
        let r = none ys m.1 p.1 e in omega (arith, k, r)

filtered_moved : (p : Held → Bool) (xs ys : List Held) → IsPermutation xs ys → length (filter p ys) ≡ length (filter p xs)
filtered_moved p xs ys h = length-filter p ys ∙ sum_by-IsPermutation (λ x. cond (p x) 1 0) xs ys h ∙ sym (length-filter p xs)

module _ (keys : ℕ → ℕ) (stmts : List Stmt) (ns : Names) (ts : Tuples) (t : Tables) (lengths : AreKeyLengths keys) (consistent : IsConsistent keys stmts) (h : HoldsTuples stmts ts t) (r : HoldsRows keys stmts (path_of ns) ts.tuple t)
    (wid : ℕ) (n : IsNum wid) (w : List ℕ) (path : path_of ns wid ≡ Some w) (xs : List StoredRow) (read : AreReadUnder t (world_prefix wid) xs) where
  abbrev f : ValKey → Option Mark
  f = row_for keys stmts (path_of ns) ts.tuple

  rows : HasRows keys ts.tuple f t
  rows = record { lengths = lengths; tuples = h.tuples; rows = r; sized = h.sized; keyed = λ k v s. (held_names keys stmts stmts ns ts t h k s).1 }

  named : AreNamed ts.tuple xs
  named = read_named keys ts.tuple f t rows (world_prefix wid) xs read

  apart : numbers_are_apart xs ≡ true
  apart = read_apart keys ts.tuple f t rows wid (λ _. true) (world_prefix wid) xs (world_span keys wid n) read

  -- the mark of a named tuple among the rows is that of the world
  mark_right : (tid : ℕ) (u : Tuple) → ts.tuple tid ≡ Some u → mark_in xs tid ≡ mark_of keys stmts w u
  mark_right tid u e = read_mark keys ts.tuple f t rows wid (λ _. true) (world_prefix wid) xs n (world_span keys wid n) read tid u e refl ∙ right_row keys stmts stmts ns ts t h wid w tid u path e

  -- each row that is read is one of the world
  read_are_rows : (ys : List StoredRow) → AreNamed ts.tuple ys → AllByRecursion (λ x. mark_in xs x.tid ≡ Some x.mark) ys → (g : Held) → list_any (λ x. same_row g (held_row x)) ys ≡ true
      → has_row (world_of keys stmts w) g ≡ true
  read_are_rows [] a b g e = absurd (false≢true e)
  read_are_rows (y ∷ ys) a b g e = elim (or_cases (same_row g (held_row y)) (list_any (λ x. same_row g (held_row x)) ys) e) [
    | inr k ↦ read_are_rows ys a.1 b.1 g k
    | inl k ↦
        let same = same_row_tells g (held_row y) k in
        let m = mark_tells keys stmts w y.tuple y.mark (sym (mark_right y.tid y.tuple a.0) ∙ b.0) in
        (rows_are_the_world keys stmts w g).1 (
          ap (λ u. stated keys stmts w u g.sign) same.0 ∙ ap (λ s. stated keys stmts w y.tuple s) same.1 ∙ m.0,
          same.2 ∙ m.1 ∙ ap (λ u. explicit stmts w u y.mark.0) (sym same.0) ∙ ap (λ s. explicit stmts w g.tuple s) (sym same.1),
        )
  ]

  -- each row of the world is read
  row_is_read : (g : Held) → has_row (world_of keys stmts w) g ≡ true → list_any (λ x. same_row g (held_row x)) xs ≡ true
  row_is_read g e =
      let is = (rows_are_the_world keys stmts w g).0 e in
      let number = some_of (ts.number g.tuple) (h.stated g.tuple ∙ stated_tuples_are_explicit keys stmts w g.tuple g.sign is.0) in
      let tuple = h.numbered g.tuple number.0 number.1 in
      let mark : mark_in xs number.0 ≡ Some (g.sign, g.explicit) =
      mark_right number.0 g.tuple tuple ∙ mark_has keys stmts w g.tuple g.sign consistent is.0 ∙ ap (λ (b : Bool). Some (g.sign, b)) (sym is.1) in
      go xs named number.0 tuple mark
    where
      some_mark : (a b : Mark) → Some a ≡ Some b → a ≡ b
      some_mark a b q = cc

      some_tuple : (a b : Tuple) (o : Option Tuple) → o ≡ Some a → o ≡ Some b → a ≡ b
      some_tuple a b o p q = cc

      go : (ys : List StoredRow) → AreNamed ts.tuple ys → (tid : ℕ) → ts.tuple tid ≡ Some g.tuple → mark_in ys tid ≡ Some (g.sign, g.explicit) → list_any (λ x. same_row g (held_row x)) ys ≡ true
      go [] a tid q k = absurd (none_and_some (g.sign, g.explicit) None refl k)
      go (y ∷ ys) a tid q k = elim (cases_Bool (nat_eq y.tid tid)) [
        | inl c ↦
            let mark : y.mark ≡ (g.sign, g.explicit) = some_mark y.mark (g.sign, g.explicit) (sym (cond-true (nat_eq y.tid tid) (Some y.mark) (mark_in ys tid) c) ∙ k) in
            let same : g.tuple ≡ y.tuple = some_tuple g.tuple y.tuple (ts.tuple tid) q (ap ts.tuple (sym (eqb-true y.tid tid c)) ∙ a.0) in
            or_left (same_row g (held_row y)) (list_any (λ x. same_row g (held_row x)) ys)
            (same_row_from g (held_row y) same (sym (ap (λ (m : Mark). m.0) mark)) (sym (ap (λ (m : Mark). m.1) mark)))
        | inr c ↦ or_right (same_row g (held_row y)) (list_any (λ x. same_row g (held_row x)) ys)
            (go ys a.1 tid q (sym (cond-false (nat_eq y.tid tid) (Some y.mark) (mark_in ys tid) c) ∙ k))
      ]

  -- rows that are read, in order, are the world
  pub ordered_is_world : (held : List Held) → AreInTupleOrder xs held → held ≡ world_of keys stmts w
  ordered_is_world held o =
      same_rows_make_list held (world_of keys stmts w)
      (order_ascends held (λ i j d le lt. sorted_far tuple_is_before (ranks_by tuple_total (λ (g : Held). g.tuple)) held o.sorted i j d le lt)
      (λ u.
      let e = filtered_moved (λ g. same_tuple g.tuple u) (map held_row xs) held o.moved in
      let le = tuples_once ts h.named xs named apart u in
      omega (arith, e, le)))
      (tuples_stand_once keys stmts consistent w)
      (λ g. sym (list_any-IsPermutation (same_row g) (map held_row xs) held o.moved) ∙ has_mapped xs g
      ∙ same_tests (list_any (λ x. same_row g (held_row x)) xs) (has_row (world_of keys stmts w) g)
      (read_are_rows xs named (mark_of_each xs xs (λ _ _ k. k) apart) g) (row_is_read g))

-- what is read of a world, in order, are the rows of the world of its path
pub read_is_world : (t : Tables) (wid : ℕ) (xs : List StoredRow) (held : List Held) → IsNum wid → AreReadUnder t (world_prefix wid) xs → AreInTupleOrder xs held → AreRowsAt t wid held
read_is_world t wid xs held n read o keys stmts ns ts w lengths consistent names h r path = ordered_is_world keys stmts ns ts t lengths consistent h r wid n w path xs read held o

-- as many rows are shown as were read
pub read_within : (a b : ℕ) (xs : List StoredRow) (held : List Held) → AreInTupleOrder xs held → b ≤ a + (2 * length xs + 1) → b ≤ a + (2 * length held + 1)
read_within a b xs held o le = subst (λ n. b ≤ a + (2 * n + 1)) (sym (length_permutation (map held_row xs) held o.moved ∙ length_map held_row xs)) le
