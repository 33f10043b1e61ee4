-- In order, a statement that clashes with an earlier one of its path clashes with the last plus statement before it.
use Rattle.std.proofs.Common.{◌≡◌, ◌∙◌, ℕ, Bool, true, false, not, ◌&&◌, ◌||◌, nat_eq, List, [], ◌∷◌, ◌++◌, ◌⊎◌, inl, inr, refl, ap, sym, suc, arith, Option, None, Some, cond, find, take}
use Prim.Native.Nat.{zero}
use Rattle.std.specs.declared.cmp.Ordering.{Ordering}
use Rattle.std.specs.declared.cmp.Ordering.TheVariants.{Less, Equal, Greater}
use Rattle.std.specs.List.{list_any, list_all}
use Rattle.std.specs.Ordering.{nat_cmp, is_lt, is_eq, ordering_then}
use Rattle.std.proofs.lemmas.Bool.{true≢false, false≢true, cases_Bool, and_parts, and_from, and_left, and_right, or_parts, or_from, or_left, cond-true, cond-false, false_from_ne_true, not_from_false, eqb-true, eq-eqb}
use Rattle.std.proofs.lemmas.Bool.Decides.{nat_tests}
use Rattle.std.proofs.lemmas.Cmp.{tied_itself}
use Rattle.bdb_base.specs.declared.kinds.Sign.{Sign}
use Rattle.bdb_base.specs.declared.kinds.Sign.TheVariants.{Plus, Minus}
use Rattle.bdb_base.specs.declared.kinds.Stmt.{Stmt}
use Rattle.bdb_base.specs.declared.kinds.Value.{Value}
use Rattle.bdb_base.specs.declared.tuple.Tuple.{Tuple}
use Rattle.bdb_base.specs.Changes.{first_clashing}
use Rattle.bdb_base.specs.Clash.{clash, same_key, key_of}
use Rattle.bdb_base.specs.Order.{value_cmp, row_cmp, tuple_cmp, path_cmp, sign_cmp, statement_cmp}
use Rattle.bdb_base.specs.OrderLemmas.{value_exact, tuple_exact, tuple_total, path_total, is_eq_tuple_cmp}
use Rattle.bdb_base.specs.Queries.{option_list}
use Rattle.bdb_base.specs.Same.{same_path, same_tuple, same_values, same_sign}
use Rattle.bdb_base.specs.SameLemmas.{same_path-Decides, same_tuple-Decides, same_values-Decides, same_sign-Decides}
use Rattle.bdb_base.specs.SortedSet.{ascending}
use Rattle.bdb_base.specs.Worlds.{contradicted}
use Rattle.bdb_base.proofs.BaseLemmas.{clash_itself}
use Rattle.bdb_base.proofs.ClashLemmas.{clash_is_symmetric}
use Rattle.bdb_base.proofs.ListLemmas.{list_any_fails, list_any_under}
use Rattle.bdb_base.proofs.SetLemmas.{cases_Ordering, greater_from_less}
use Rattle.bdb_model.specs.Clashes.{clashes_after, last_plus}

-- ---- the first clashing statement, one statement at a time

-- where a test fails throughout, and two tests agree wherever it fails, they find the same
find_same : {X : Type 0} (p q r : X → Bool) → ((x : X) → r x ≡ false → p x ≡ q x) → (xs : List X) → list_any r xs ≡ false → find p xs ≡ find q xs
find_same p q r h [] e = refl
find_same p q r h (x ∷ xs) e =
    let k = or_parts (r x) (list_any r xs) e in
    ap (λ b. cond b (Some x) (find p xs)) (h x k.0) ∙ ap (λ o. cond (q x) (Some x) o) (find_same p q r h xs k.1)

or_dropped : (a b c d : Bool) → (a && (b && c)) ≡ false → (b && ((a && c) || d)) ≡ (b && d)
or_dropped true true true d h = absurd (true≢false h)
or_dropped true true false d h = refl
or_dropped true false c d h = refl
or_dropped false b c d h = refl

-- a statement does not clash with itself: what contradicts it is another one
own_contradiction : (keys : ℕ → ℕ) (x : Stmt) (xs : List Stmt) (w : List ℕ) → contradicted keys (x ∷ xs) w x.tuple x.sign ≡ contradicted keys xs w x.tuple x.sign
own_contradiction keys x xs w = ap (λ b. b || contradicted keys xs w x.tuple x.sign)
    (and_right (same_path x.path w) (clash keys x.tuple x.sign x.tuple x.sign) (clash_itself keys x.tuple x.sign))

-- the first clashing statement is the first one, where a later one contradicts it, else that of the rest
first_on : (keys : ℕ → ℕ) (x : Stmt) (xs : List Stmt) (w : List ℕ)
    → first_clashing keys (x ∷ xs) w ≡ cond (same_path x.path w && contradicted keys xs w x.tuple x.sign) (Some x) (first_clashing keys xs w)
first_on keys x xs w =
    let p : Stmt → Bool = λ y. same_path y.path w && contradicted keys (x ∷ xs) w y.tuple y.sign in
    let q : Stmt → Bool = λ y. same_path y.path w && contradicted keys xs w y.tuple y.sign in
    let f : Stmt → Bool = λ y. same_path y.path w && clash keys x.tuple x.sign y.tuple y.sign in
    let test = same_path x.path w && contradicted keys xs w x.tuple x.sign in
    ap (λ b. cond (same_path x.path w && b) (Some x) (find p xs)) (own_contradiction keys x xs w)
    ∙ elim (cases_Bool test) [
      | inl e ↦ cond-true test (Some x) (find p xs) e ∙ sym (cond-true test (Some x) (find q xs) e)
      | inr e ↦ ap (λ o. cond test (Some x) o) (find_same p q (λ y. same_path x.path w && f y) (λ y h.
          or_dropped (same_path x.path w) (same_path y.path w) (clash keys y.tuple y.sign x.tuple x.sign) (contradicted keys xs w y.tuple y.sign)
          (ap (λ b. same_path x.path w && (same_path y.path w && b)) (clash_is_symmetric keys y.tuple x.tuple y.sign x.sign) ∙ h))
          xs (list_any_under (same_path x.path w) f xs ∙ e))
    ]

first_past : (keys : ℕ → ℕ) (x : Stmt) (xs : List Stmt) (w : List ℕ) → (same_path x.path w && contradicted keys xs w x.tuple x.sign) ≡ false
    → first_clashing keys (x ∷ xs) w ≡ first_clashing keys xs w
first_past keys x xs w e = first_on keys x xs w ∙ cond-false (same_path x.path w && contradicted keys xs w x.tuple x.sign) (Some x) (first_clashing keys xs w) e

first_here : (keys : ℕ → ℕ) (x : Stmt) (xs : List Stmt) (w : List ℕ) → (same_path x.path w && contradicted keys xs w x.tuple x.sign) ≡ true
    → first_clashing keys (x ∷ xs) w ≡ Some x
first_here keys x xs w e = first_on keys x xs w ∙ cond-true (same_path x.path w && contradicted keys xs w x.tuple x.sign) (Some x) (first_clashing keys xs w) e

-- ---- what lies between two tuples of one key

then_less : (a b : Ordering) → ordering_then a b ≡ Less → (a ≡ Less) ⊎ ((a ≡ Equal) × (b ≡ Less))
then_less Less b h = inl refl
then_less Equal b h = inr (refl, h)
then_less Greater b h = cc

-- rows between two that begin alike begin as they do
row_between : (n : ℕ) (a b c : List Value) → row_cmp a b ≡ Less → row_cmp b c ≡ Less → take n a ≡ take n c → take n a ≡ take n b
row_between zero a b c h g e = refl
row_between (suc n) [] [] c h g e = refl
row_between (suc n) [] (y ∷ ys) [] h g e = cc
row_between (suc n) [] (y ∷ ys) (z ∷ zs) h g e = cc
row_between (suc n) (x ∷ xs) [] c h g e = cc
row_between (suc n) (x ∷ xs) (y ∷ ys) [] h g e = cc
row_between (suc n) (x ∷ xs) (y ∷ ys) (z ∷ zs) h g e =
    let s : x ≡ z = cc in
    let rest : take n xs ≡ take n zs = cc in
    elim (then_less (value_cmp x y) (row_cmp xs ys) h) [
      | inl l ↦
          let turned : value_cmp y z ≡ Greater = ap (value_cmp y) (sym s) ∙ greater_from_less value_exact x y l in
          let no_less : Greater ≡ Less = ap (λ o. ordering_then o (row_cmp ys zs)) (sym turned) ∙ g in
          cc
      | inr k ↦
          let same : x ≡ y = value_exact.exact x y k.0 in
          elim (then_less (value_cmp y z) (row_cmp ys zs) g) [
            | inl l ↦
                let tied : value_cmp y z ≡ Equal = ap (λ v. value_cmp v z) (sym same) ∙ ap (λ v. value_cmp v z) s ∙ tied_itself value_exact.total z in
                cc
            | inr m ↦ ap (λ v. v ∷ take n xs) same ∙ ap (λ vs. y ∷ vs) (row_between n xs ys zs k.1 m.1 rest)
          ]
    ]

nat_tied : (m n : ℕ) → nat_cmp m n ≡ Equal → m ≡ n
nat_tied m n h = grind (arith, nat_tests)

nat_same : (m n : ℕ) → m ≡ n → nat_cmp m n ≡ Equal
nat_same m n h = grind (arith, nat_tests)

nat_turned : (m n : ℕ) → nat_cmp m n ≡ Less → nat_cmp n m ≡ Greater
nat_turned m n h = grind (arith, nat_tests)

-- a tuple between two of one relation is of that relation, and its values are between theirs
rel_between : (a b c : Tuple) → tuple_cmp a b ≡ Less → tuple_cmp b c ≡ Less → a.rel ≡ c.rel → (a.rel ≡ b.rel) × (row_cmp a.vals b.vals ≡ Less) × (row_cmp b.vals c.vals ≡ Less)
rel_between a b c h g e = elim (then_less (nat_cmp a.rel b.rel) (row_cmp a.vals b.vals) h) [
  | inl l ↦
      let turned : nat_cmp b.rel c.rel ≡ Greater = ap (nat_cmp b.rel) (sym e) ∙ nat_turned a.rel b.rel l in
      let no_less : Greater ≡ Less = ap (λ o. ordering_then o (row_cmp b.vals c.vals)) (sym turned) ∙ g in
      cc
  | inr k ↦
      let same : a.rel ≡ b.rel = nat_tied a.rel b.rel k.0 in
      elim (then_less (nat_cmp b.rel c.rel) (row_cmp b.vals c.vals) g) [
        | inl l ↦ let tied : nat_cmp b.rel c.rel ≡ Equal = nat_same b.rel c.rel (sym same ∙ e) in cc
        | inr m ↦ (same, k.1, m.1)
      ]
]

key_between : (keys : ℕ → ℕ) (a b c : Tuple) → tuple_cmp a b ≡ Less → tuple_cmp b c ≡ Less → same_key keys a c ≡ true → same_key keys a b ≡ true
key_between keys a b c h g e =
    let k = and_parts (nat_eq a.rel c.rel) (same_values (key_of keys a) (key_of keys c)) e in
    let rel : a.rel ≡ c.rel = eqb-true a.rel c.rel k.0 in
    let between = rel_between a b c h g rel in
    let ends : take (keys a.rel) a.vals ≡ take (keys a.rel) c.vals = (same_values-Decides (key_of keys a) (key_of keys c)).0 k.1 ∙ ap (λ r. take (keys r) c.vals) (sym rel) in
    let begins : key_of keys a ≡ key_of keys b = row_between (keys a.rel) a.vals b.vals c.vals between.1 between.2 ends ∙ ap (λ r. take (keys r) b.vals) between.0 in
    and_from (nat_eq a.rel b.rel) (same_values (key_of keys a) (key_of keys b)) (eq-eqb a.rel b.rel between.0) ((same_values-Decides (key_of keys a) (key_of keys b)).1 begins)

-- ---- signed tuples in order

below_differs : (a b : Tuple) → tuple_cmp a b ≡ Less → same_tuple a b ≡ false
below_differs a b h = sym (is_eq_tuple_cmp a b) ∙ ap is_eq h

-- what is at or above a tuple that is above another is above that one
above_both : (a b c : Tuple) (r : Ordering) → tuple_cmp a b ≡ Less → is_lt (ordering_then (tuple_cmp b c) r) ≡ true → tuple_cmp a c ≡ Less
above_both a b c r h g = elim (cases_Ordering (tuple_cmp b c)) [
  | inl e ↦ tuple_total.trans a b c h e
  | inr (inl e) ↦ ap (tuple_cmp a) (sym (tuple_exact.exact b c e)) ∙ h
  | inr (inr e) ↦ absurd (false≢true (ap (λ o. is_lt (ordering_then o r)) (sym e) ∙ g))
]

-- a minus statement clashes with nothing above it
minus_first : (keys : ℕ → ℕ) (t u : Tuple) (s : Sign) → is_lt (ordering_then (tuple_cmp t u) (sign_cmp Minus s)) ≡ true → clash keys t Minus u s ≡ false
minus_first keys t u Minus h = refl
minus_first keys t u Plus h = false_from_ne_true (same_tuple t u) (λ e.
    let tied : tuple_cmp t u ≡ Equal = ap (tuple_cmp t) (sym ((same_tuple-Decides t u).0 e)) ∙ tied_itself tuple_total t in
    false≢true (ap (λ o. is_lt (ordering_then o Greater)) (sym tied) ∙ h))

-- a plus statement that does not clash with the next plus statement clashes with nothing above that one
plus_apart : (keys : ℕ → ℕ) (t u v : Tuple) (s : Sign) → tuple_cmp t u ≡ Less → is_lt (ordering_then (tuple_cmp u v) (sign_cmp Plus s)) ≡ true → clash keys t Plus u Plus ≡ false
    → clash keys t Plus v s ≡ false
plus_apart keys t u v Minus h g c = below_differs t v (above_both t u v Less h g)
plus_apart keys t u v Plus h g c = false_from_ne_true (clash keys t Plus v Plus) (λ e.
    let less : tuple_cmp u v ≡ Less = elim (cases_Ordering (tuple_cmp u v)) [
      | inl k ↦ k
      | inr (inl k) ↦ absurd (false≢true (ap (λ o. is_lt (ordering_then o Equal)) (sym k) ∙ g))
      | inr (inr k) ↦ absurd (false≢true (ap (λ o. is_lt (ordering_then o Equal)) (sym k) ∙ g))
    ] in
    let k = and_parts (same_key keys t v) (not (same_tuple t v)) e in
    false≢true (sym c ∙ and_from (same_key keys t u) (not (same_tuple t u)) (key_between keys t u v h less k.0) (not_from_false (same_tuple t u) (below_differs t u h))))

-- of two statements of one path the tuples and signs are in order
in_order : (x y : Stmt) (w : List ℕ) → same_path x.path w ≡ true → same_path y.path w ≡ true → is_lt (statement_cmp x y) ≡ true
    → is_lt (ordering_then (tuple_cmp x.tuple y.tuple) (sign_cmp x.sign y.sign)) ≡ true
in_order x y w a b h =
    let one : x.path ≡ y.path = (same_path-Decides x.path w).0 a ∙ sym ((same_path-Decides y.path w).0 b) in
    let tied : path_cmp x.path y.path ≡ Equal = ap (path_cmp x.path) (sym one) ∙ tied_itself path_total x.path in
    ap (λ o. is_lt (ordering_then o (ordering_then (tuple_cmp x.tuple y.tuple) (sign_cmp x.sign y.sign)))) (sym tied) ∙ h

minus_apart : (keys : ℕ → ℕ) (x y : Stmt) (w : List ℕ) → same_path x.path w ≡ true → x.sign ≡ Minus → is_lt (statement_cmp x y) ≡ true
    → (same_path y.path w && clash keys x.tuple x.sign y.tuple y.sign) ≡ false
minus_apart keys x y w a s h = false_from_ne_true (same_path y.path w && clash keys x.tuple x.sign y.tuple y.sign) (λ e.
    let k = and_parts (same_path y.path w) (clash keys x.tuple x.sign y.tuple y.sign) e in
    let order = ap (λ r. is_lt (ordering_then (tuple_cmp x.tuple y.tuple) (sign_cmp r y.sign))) (sym s) ∙ in_order x y w a k.0 h in
    false≢true (sym (minus_first keys x.tuple y.tuple y.sign order) ∙ ap (λ r. clash keys x.tuple r y.tuple y.sign) (sym s) ∙ k.1))

-- nothing above a minus statement contradicts it
minus_stands : (keys : ℕ → ℕ) (x : Stmt) (xs : List Stmt) (w : List ℕ) → same_path x.path w ≡ true → x.sign ≡ Minus → list_all (λ y. is_lt (statement_cmp x y)) xs ≡ true
    → contradicted keys xs w x.tuple x.sign ≡ false
minus_stands keys x xs w a s h = list_any_fails (λ y. is_lt (statement_cmp x y)) (λ y. same_path y.path w && clash keys x.tuple x.sign y.tuple y.sign)
    (λ y k. minus_apart keys x y w a s k) xs h

next_apart : (keys : ℕ → ℕ) (o x y : Stmt) (w : List ℕ) → (same_path o.path w && same_sign o.sign Plus) ≡ true → (same_path x.path w && same_sign x.sign Plus) ≡ true
    → is_lt (statement_cmp o x) ≡ true → clash keys o.tuple o.sign x.tuple x.sign ≡ false → is_lt (statement_cmp x y) ≡ true
    → (same_path y.path w && clash keys o.tuple o.sign y.tuple y.sign) ≡ false
next_apart keys o x y w p q h c g = false_from_ne_true (same_path y.path w && clash keys o.tuple o.sign y.tuple y.sign) (λ e.
    let k = and_parts (same_path y.path w) (clash keys o.tuple o.sign y.tuple y.sign) e in
    let a = and_parts (same_path o.path w) (same_sign o.sign Plus) p in
    let b = and_parts (same_path x.path w) (same_sign x.sign Plus) q in
    let r : o.sign ≡ Plus = (same_sign-Decides o.sign Plus).0 a.1 in
    let s : x.sign ≡ Plus = (same_sign-Decides x.sign Plus).0 b.1 in
    let first = ap (λ n. is_lt (ordering_then (tuple_cmp o.tuple x.tuple) (sign_cmp n x.sign))) (sym r) ∙ in_order o x w a.0 b.0 h in
    let both = ap (λ n. is_lt (ordering_then (tuple_cmp o.tuple x.tuple) (sign_cmp Plus n))) (sym s) ∙ first in
    let less : tuple_cmp o.tuple x.tuple ≡ Less = plus_below o.tuple x.tuple both in
    let order = ap (λ n. is_lt (ordering_then (tuple_cmp x.tuple y.tuple) (sign_cmp n y.sign))) (sym s) ∙ in_order x y w b.0 k.0 g in
    let free : clash keys o.tuple Plus x.tuple Plus ≡ false = ap (λ n. clash keys o.tuple n x.tuple Plus) (sym r) ∙ ap (λ n. clash keys o.tuple o.sign x.tuple n) (sym s) ∙ c in
    false≢true (sym (plus_apart keys o.tuple x.tuple y.tuple y.sign less order free) ∙ ap (λ n. clash keys o.tuple n y.tuple y.sign) (sym r) ∙ k.1))
  where
    plus_below : (a b : Tuple) → is_lt (ordering_then (tuple_cmp a b) Equal) ≡ true → tuple_cmp a b ≡ Less
    plus_below a b h = elim (cases_Ordering (tuple_cmp a b)) [
      | inl k ↦ k
      | inr (inl k) ↦ absurd (false≢true (ap (λ o. is_lt (ordering_then o Equal)) (sym k) ∙ h))
      | inr (inr k) ↦ absurd (false≢true (ap (λ o. is_lt (ordering_then o Equal)) (sym k) ∙ h))
    ]

-- ---- one step of the pass

-- the last plus statement and those to come
abbrev pub ahead : Option Stmt → List Stmt → List Stmt
ahead last xs = option_list last ++ xs

-- what is kept is a plus statement of this very path
abbrev pub is_plus_at : List ℕ → Option Stmt → Bool
is_plus_at w None = true
is_plus_at w (Some o) = same_path o.path w && same_sign o.sign Plus

-- the last plus statement and those to come are in order, and have the first clashing statement of the whole
pub record HasFirst (keys : ℕ → ℕ) (w : List ℕ) (stmts : List Stmt) (last : Option Stmt) (xs : List Stmt) : Type 0 where
  pub sorted : ascending statement_cmp (ahead last xs) ≡ true
  pub plus : is_plus_at w last ≡ true
  pub same : first_clashing keys (ahead last xs) w ≡ first_clashing keys stmts w

-- a plus statement that does not clash with the one kept takes its place
plus_next : (keys : ℕ → ℕ) (w : List ℕ) (last : Option Stmt) (x : Stmt) (xs : List Stmt) → ascending statement_cmp (ahead last (x ∷ xs)) ≡ true → is_plus_at w last ≡ true
    → clashes_after keys w last x ≡ false → (same_path x.path w && same_sign x.sign Plus) ≡ true
    → (ascending statement_cmp (x ∷ xs) ≡ true) × (first_clashing keys (ahead last (x ∷ xs)) w ≡ first_clashing keys (x ∷ xs) w)
plus_next keys w None x xs a p c e = (a, refl)
plus_next keys w (Some o) x xs a p c e =
    let above = and_parts (list_all (λ y. is_lt (statement_cmp o y)) (x ∷ xs)) (ascending statement_cmp (x ∷ xs)) a in
    let first = and_parts (is_lt (statement_cmp o x)) (list_all (λ y. is_lt (statement_cmp o y)) xs) above.0 in
    let rest = and_parts (list_all (λ y. is_lt (statement_cmp x y)) xs) (ascending statement_cmp xs) above.1 in
    let here = (and_parts (same_path x.path w) (same_sign x.sign Plus) e).0 in
    let free : clash keys o.tuple o.sign x.tuple x.sign ≡ false = ap (λ b. b && clash keys o.tuple o.sign x.tuple x.sign) (sym here) ∙ c in
    let none : contradicted keys xs w o.tuple o.sign ≡ false = list_any_fails (λ y. is_lt (statement_cmp x y)) (λ y. same_path y.path w && clash keys o.tuple o.sign y.tuple y.sign)
    (λ y k. next_apart keys o x y w p e first.0 free k) xs rest.0 in (
      above.1,
      first_past keys o (x ∷ xs) w (and_right (same_path o.path w) (contradicted keys (x ∷ xs) w o.tuple o.sign)
          (or_from (same_path x.path w && clash keys o.tuple o.sign x.tuple x.sign) (contradicted keys xs w o.tuple o.sign) c none)),
    )

-- a statement of another path, and a minus statement, is the first clashing one of no list that it begins
other_past : (keys : ℕ → ℕ) (w : List ℕ) (x : Stmt) (xs : List Stmt) → ascending statement_cmp (x ∷ xs) ≡ true → (same_path x.path w && same_sign x.sign Plus) ≡ false
    → first_clashing keys (x ∷ xs) w ≡ first_clashing keys xs w
other_past keys w x xs a e = first_past keys x xs w (elim (cases_Bool (same_path x.path w)) [
  | inl h ↦
      let minus : x.sign ≡ Minus = is_minus x.sign (ap (λ b. b && same_sign x.sign Plus) (sym h) ∙ e) in
      and_right (same_path x.path w) (contradicted keys xs w x.tuple x.sign)
      (minus_stands keys x xs w h minus (and_parts (list_all (λ y. is_lt (statement_cmp x y)) xs) (ascending statement_cmp xs) a).0)
  | inr h ↦ and_left (same_path x.path w) (contradicted keys xs w x.tuple x.sign) h
])
  where
    is_minus : (s : Sign) → same_sign s Plus ≡ false → s ≡ Minus
    is_minus Plus h = absurd (true≢false h)
    is_minus Minus h = refl

other_next : (keys : ℕ → ℕ) (w : List ℕ) (last : Option Stmt) (x : Stmt) (xs : List Stmt) → ascending statement_cmp (ahead last (x ∷ xs)) ≡ true
    → clashes_after keys w last x ≡ false → (same_path x.path w && same_sign x.sign Plus) ≡ false
    → (ascending statement_cmp (ahead last xs) ≡ true) × (first_clashing keys (ahead last (x ∷ xs)) w ≡ first_clashing keys (ahead last xs) w)
other_next keys w None x xs a c e = ((and_parts (list_all (λ y. is_lt (statement_cmp x y)) xs) (ascending statement_cmp xs) a).1, other_past keys w x xs a e)
other_next keys w (Some o) x xs a c e =
    let above = and_parts (list_all (λ y. is_lt (statement_cmp o y)) (x ∷ xs)) (ascending statement_cmp (x ∷ xs)) a in
    let first = and_parts (is_lt (statement_cmp o x)) (list_all (λ y. is_lt (statement_cmp o y)) xs) above.0 in
    let rest = and_parts (list_all (λ y. is_lt (statement_cmp x y)) xs) (ascending statement_cmp xs) above.1 in
    let same : contradicted keys (x ∷ xs) w o.tuple o.sign ≡ contradicted keys xs w o.tuple o.sign = ap (λ b. b || contradicted keys xs w o.tuple o.sign) c in (
      and_from (list_all (λ y. is_lt (statement_cmp o y)) xs) (ascending statement_cmp xs) first.1 rest.1,
      first_on keys o (x ∷ xs) w
          ∙ ap (λ b. cond (same_path o.path w && b) (Some o) (first_clashing keys (x ∷ xs) w)) same
          ∙ ap (λ r. cond (same_path o.path w && contradicted keys xs w o.tuple o.sign) (Some o) r) (other_past keys w x xs above.1 e)
          ∙ sym (first_on keys o xs w),
    )

pub first_begins : (keys : ℕ → ℕ) (w : List ℕ) (stmts : List Stmt) → ascending statement_cmp stmts ≡ true → HasFirst keys w stmts None stmts
first_begins keys w stmts a = record { sorted = a; plus = refl; same = refl }

pub first_goes_on : (keys : ℕ → ℕ) (w : List ℕ) (stmts : List Stmt) (last : Option Stmt) (x : Stmt) (xs : List Stmt) → HasFirst keys w stmts last (x ∷ xs)
    → clashes_after keys w last x ≡ false → HasFirst keys w stmts (last_plus w last x) xs
first_goes_on keys w stmts last x xs h c =
    let test = same_path x.path w && same_sign x.sign Plus in
    elim (cases_Bool test) [
      | inl e ↦
          let k = plus_next keys w last x xs h.sorted h.plus c e in
          let s : Some x ≡ last_plus w last x = sym (cond-true test (Some x) last e) in
          record {
            sorted = ap (λ o. ascending statement_cmp (ahead o xs)) (sym s) ∙ k.0;
            plus = ap (is_plus_at w) (sym s) ∙ e;
            same = ap (λ o. first_clashing keys (ahead o xs) w) (sym s) ∙ sym k.1 ∙ h.same;
          }
      | inr e ↦
          let k = other_next keys w last x xs h.sorted c e in
          let s : last ≡ last_plus w last x = sym (cond-false test (Some x) last e) in
          record {
            sorted = ap (λ o. ascending statement_cmp (ahead o xs)) (sym s) ∙ k.0;
            plus = ap (is_plus_at w) (sym s) ∙ h.plus;
            same = ap (λ o. first_clashing keys (ahead o xs) w) (sym s) ∙ sym k.1 ∙ h.same;
          }
    ]

pub first_is_kept : (keys : ℕ → ℕ) (w : List ℕ) (stmts : List Stmt) (last : Option Stmt) (x : Stmt) (xs : List Stmt) → HasFirst keys w stmts last (x ∷ xs)
    → clashes_after keys w last x ≡ true → last ≡ first_clashing keys stmts w
first_is_kept keys w stmts None x xs h c = absurd (false≢true c)
first_is_kept keys w stmts (Some o) x xs h c =
    sym (first_here keys o (x ∷ xs) w (and_from (same_path o.path w) (contradicted keys (x ∷ xs) w o.tuple o.sign) (and_parts (same_path o.path w) (same_sign o.sign Plus) h.plus).0
    (or_left (same_path x.path w && clash keys o.tuple o.sign x.tuple x.sign) (contradicted keys xs w o.tuple o.sign) c)))
    ∙ h.same

pub none_clashes : (keys : ℕ → ℕ) (w : List ℕ) (stmts : List Stmt) (last : Option Stmt) → HasFirst keys w stmts last [] → None ≡ first_clashing keys stmts w
none_clashes keys w stmts None h = h.same
none_clashes keys w stmts (Some o) h = sym (first_past keys o [] w (and_right (same_path o.path w) false refl)) ∙ h.same
