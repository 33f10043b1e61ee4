-- A path's prefixes are states as far as it goes along with a statement's path.
use Rattle.std.proofs.Common.{◌≡◌, ◌∙◌, ℕ, ◌+◌, ◌-◌, ◌≤◌, ◌<◌, max, Bool, true, not, ◌&&◌, ◌||◌, nat_eq, nat_lt, nat_le, List, [], ◌∷◌, refl, ap, sym, inl, inr, suc, arith, filter, length, map}
use Rattle.std.specs.List.{list_any}
use Rattle.std.proofs.Math.Dec.{leb-zero, leb-suc-zero}
use Rattle.std.proofs.lemmas.Bool.{cases_Bool, and_parts, and_from, false≢true, cond-true, cond-false, eqb-true, eq-eqb, ltb-true}
use Rattle.std.proofs.lemmas.Bool.Decides.{nat_tests}
use Rattle.bdb_base.specs.declared.kinds.Stmt.{Stmt}
use Rattle.bdb_base.specs.Segments.{is_prefix}
use Rattle.bdb_base.specs.States.{is_state, prefixes, new_states}
use Rattle.bdb_base.proofs.ListLemmas.{filter_kept_one, filter_dropped_one}
use Rattle.bdb_paths.specs.Shared.{shared_length, stated_length}

le_one_more : (a b : ℕ) → nat_le (suc a) (1 + b) ≡ nat_le a b
le_one_more a b = grind (arith, nat_tests)

le_max : (n a b : ℕ) → nat_le n (max a b) ≡ (nat_le n a || nat_le n b)
le_max n a b = grind (arith, nat_tests)

-- a prefix of a path is one of another exactly where it is no longer than what the two share
prefix_within_shared : (v w p : List ℕ) → is_prefix v w ≡ true → is_prefix v p ≡ nat_le (length v) (shared_length w p)
prefix_within_shared [] w p h = sym (leb-zero (shared_length w p))
prefix_within_shared (i ∷ v) [] p h = absurd (false≢true h)
prefix_within_shared (i ∷ v) (j ∷ w) [] h = sym (leb-suc-zero (length v))
prefix_within_shared (i ∷ v) (j ∷ w) (k ∷ p) h =
    let l = and_parts (nat_eq i j) (is_prefix v w) h in
    let e : i ≡ j = eqb-true i j l.0 in
    let n : nat_eq i k ≡ nat_eq j k = ap (λ m. nat_eq m k) e in
    elim (cases_Bool (nat_eq j k)) [
      | inl t ↦ ap (λ b. b && is_prefix v p) (n ∙ t) ∙ prefix_within_shared v w p l.1 ∙ sym (le_one_more (length v) (shared_length w p))
          ∙ ap (λ m. nat_le (suc (length v)) m) (sym (cond-true (nat_eq j k) (1 + shared_length w p) 0 t))
      | inr f ↦ ap (λ b. b && is_prefix v p) (n ∙ f) ∙ sym (leb-suc-zero (length v))
          ∙ ap (λ m. nat_le (suc (length v)) m) (sym (cond-false (nat_eq j k) (1 + shared_length w p) 0 f))
    ]

-- a prefix of a path is a state exactly where it is no longer than the longest that is one
state_within_length : (stmts : List Stmt) (v w : List ℕ) → is_prefix v w ≡ true → is_state stmts v ≡ nat_le (length v) (stated_length stmts w)
state_within_length stmts [] w h = sym (leb-zero (stated_length stmts w))
state_within_length stmts (i ∷ v) w h = go stmts
  where
    go : (xs : List Stmt) → list_any (λ x. is_prefix (i ∷ v) x.path) xs ≡ nat_le (suc (length v)) (stated_length xs w)
    go [] = sym (leb-suc-zero (length v))
    go (x ∷ xs) = ap (λ b. b || list_any (λ y. is_prefix (i ∷ v) y.path) xs) (prefix_within_shared (i ∷ v) w x.path h)
        ∙ ap (λ b. nat_le (suc (length v)) (shared_length w x.path) || b) (go xs)
        ∙ sym (le_max (suc (length v)) (shared_length w x.path) (stated_length xs w))

filter-map_length : {X Y : Type 0} (q : Y → Bool) (f : X → Y) (xs : List X) → length (filter q (map f xs)) ≡ length (filter (λ x. q (f x)) xs)
filter-map_length q f [] = refl
filter-map_length q f (x ∷ xs) = elim (cases_Bool (q (f x))) [
  | inl e ↦ ap length (filter_kept_one q (f x) (map f xs) e) ∙ ap suc (filter-map_length q f xs) ∙ sym (ap length (filter_kept_one (λ y. q (f y)) x xs e))
  | inr e ↦ ap length (filter_dropped_one q (f x) (map f xs) e) ∙ filter-map_length q f xs ∙ sym (ap length (filter_dropped_one (λ y. q (f y)) x xs e))
]

below_one_less : (n k : ℕ) → nat_lt (suc n) k ≡ nat_lt n (k - 1)
below_one_less n k = grind (arith, nat_tests)

-- how many prefixes are not among those of fewer than k users
count_long : (P : List ℕ → Bool) (k : ℕ) (w : List ℕ) → ((p : List ℕ) → is_prefix p w ≡ true → P p ≡ nat_lt (length p) k)
    → length (filter (λ p. not (P p)) (prefixes w)) ≡ suc (length w) - k
count_long P k [] h = elim (cases_Bool (nat_lt 0 k)) [
  | inl e ↦
      let d = ap length (filter_dropped_one (λ p. not (P p)) [] [] (ap not (h [] refl ∙ e))) in
      let l : 0 < k = ltb-true 0 k e in
      omega arith
  | inr e ↦
      let d = ap length (filter_kept_one (λ p. not (P p)) [] [] (ap not (h [] refl ∙ e))) in
      let l : k ≡ 0 = grind (arith, nat_tests) in
      omega arith
]
count_long P k (i ∷ w) h =
    let Q : List ℕ → Bool = λ p. P (i ∷ p) in
    let rest = map (λ p. i ∷ p) (prefixes w) in
    let m = filter-map_length (λ p. not (P p)) (λ p. i ∷ p) (prefixes w) in
    let ih = count_long Q (k - 1) w
    (λ p g. h (i ∷ p) (and_from (nat_eq i i) (is_prefix p w) (eq-eqb i i refl) g) ∙ below_one_less (length p) k) in
    elim (cases_Bool (nat_lt 0 k)) [
      | inl e ↦
          let d = ap length (filter_dropped_one (λ p. not (P p)) [] rest (ap not (h [] refl ∙ e))) in
          let l : 0 < k = ltb-true 0 k e in
          omega arith
      | inr e ↦
          let d = ap length (filter_kept_one (λ p. not (P p)) [] rest (ap not (h [] refl ∙ e))) in
          let l : k ≡ 0 = grind (arith, nat_tests) in
          omega arith
    ]

below_one_more : (n k : ℕ) → nat_le n k ≡ nat_lt n (suc k)
below_one_more n k = grind (arith, nat_tests)

pub new_states_by_length : (stmts : List Stmt) (w : List ℕ) → length (new_states stmts w) ≡ length w - stated_length stmts w
new_states_by_length stmts w =
    let c = count_long (is_state stmts) (suc (stated_length stmts w)) w (λ p h. state_within_length stmts p w h ∙ below_one_more (length p) (stated_length stmts w)) in
    omega arith

pub shared_length-le : (w p : List ℕ) → shared_length w p ≤ length w
shared_length-le [] p = omega arith
shared_length-le (i ∷ w) [] = omega arith
shared_length-le (i ∷ w) (j ∷ p) =
    let ih = shared_length-le w p in
    elim (cases_Bool (nat_eq i j)) [
      | inl e ↦ let c = cond-true (nat_eq i j) (1 + shared_length w p) 0 e in omega arith
      | inr e ↦ let c = cond-false (nat_eq i j) (1 + shared_length w p) 0 e in omega arith
    ]

pub stated_length-le : (stmts : List Stmt) (w : List ℕ) → stated_length stmts w ≤ length w
stated_length-le [] w = omega arith
stated_length-le (x ∷ xs) w =
    let a = shared_length-le w x.path in
    let b = stated_length-le xs w in
    omega arith
