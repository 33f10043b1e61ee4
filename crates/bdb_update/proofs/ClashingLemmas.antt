-- Over statements in order the first that clashes with another is the first that clashes with a neighbour ahead.
use Rattle.std.proofs.Common.{◌≡◌, ◌∙◌, ◌⊎◌, ℕ, zero, suc, Bool, true, false, not, ◌&&◌, ◌||◌, nat_eq, cond, List, [], ◌∷◌, Some, take, find, refl, ap, sym, subst, inl, inr}
use Rattle.std.specs.List.{list_all}
use Rattle.std.specs.declared.cmp.Ordering.{Ordering}
use Rattle.std.specs.declared.cmp.Ordering.TheVariants.{Less, Equal, Greater}
use Rattle.std.specs.Ordering.{nat_cmp, is_eq, is_gt, is_lt, ordering_then}
use Rattle.std.specs.Cmp.{IsTotalOrder}
use Rattle.std.proofs.lemmas.Bool.{cases_Bool, and_parts, and_from, or_from, false≢true, true≢false, false_from_ne_true, eqb-true, cond-true, cond-false}
use Rattle.std.proofs.lemmas.Cmp.{then_total, on_total, nat_cmp_total, alike_right, tied_itself}
use Rattle.bdb_base.specs.Changes.{first_clashing}
use Rattle.bdb_base.specs.Clash.{clash, key_of, same_key}
use Rattle.bdb_base.specs.Order.{value_cmp, row_cmp, path_cmp, tuple_cmp, sign_cmp, statement_cmp}
use Rattle.bdb_base.specs.OrderLemmas.{path_total, row_total, is_eq_path_cmp, is_eq_tuple_cmp, is_eq_row_cmp, is_eq_nat_cmp, is_eq-then}
use Rattle.bdb_base.specs.Same.{same_path, same_tuple, same_sign}
use Rattle.bdb_base.specs.SameLemmas.{same_path-Decides, same_tuple-Decides}
use Rattle.bdb_base.specs.SortedSet.{ascending}
use Rattle.bdb_base.specs.Worlds.{contradicted}
use Rattle.bdb_base.specs.declared.kinds.Sign.{Sign}
use Rattle.bdb_base.specs.declared.kinds.Sign.TheVariants.{Plus, Minus}
use Rattle.bdb_base.specs.declared.kinds.Stmt.{Stmt}
use Rattle.bdb_base.specs.declared.kinds.Value.{Value}
use Rattle.bdb_base.specs.declared.tuple.Tuple.{Tuple}
use Rattle.bdb_base.proofs.BaseLemmas.{clash_itself}
use Rattle.bdb_base.proofs.ClashLemmas.{turned, clash_is_symmetric}
use Rattle.bdb_base.proofs.ListLemmas.{list_any_fails}
use Rattle.bdb_base.proofs.SetLemmas.{is_lt-Less, cases_Ordering}
use Rattle.bdb_update.specs.Clashing.{is_beside, clashes_near, clashes_ahead, first_ahead}

-- ---- groups: statements of one path, relation and key

-- the order by path, then relation, then key
abbrev group_cmp : (ℕ → ℕ) → Stmt → Stmt → Ordering
group_cmp keys a b = ordering_then (path_cmp a.path b.path) (ordering_then (nat_cmp a.tuple.rel b.tuple.rel) (row_cmp (key_of keys a.tuple) (key_of keys b.tuple)))

group_total : (keys : ℕ → ℕ) → IsTotalOrder (group_cmp keys)
group_total keys = then_total (on_total (λ (x : Stmt). x.path) path_total)
    (then_total (on_total (λ (x : Stmt). x.tuple.rel) nat_cmp_total) (on_total (λ (x : Stmt). key_of keys x.tuple) row_total))

same_key_is : (keys : ℕ → ℕ) (t u : Tuple) → same_key keys t u ≡ is_eq (ordering_then (nat_cmp t.rel u.rel) (row_cmp (key_of keys t) (key_of keys u)))
same_key_is keys t u = sym (is_eq-then (nat_cmp t.rel u.rel) (row_cmp (key_of keys t) (key_of keys u))
    ∙ ap (λ b. b && is_eq (row_cmp (key_of keys t) (key_of keys u))) (is_eq_nat_cmp t.rel u.rel)
    ∙ ap (λ b. nat_eq t.rel u.rel && b) (is_eq_row_cmp (key_of keys t) (key_of keys u)))

path_is : (w : List ℕ) (x y : Stmt) → x.path ≡ w → same_path y.path w ≡ is_eq (path_cmp x.path y.path)
path_is w x y e = ap (same_path y.path) (sym e) ∙ turned same_path same_path-Decides y.path x.path ∙ sym (is_eq_path_cmp x.path y.path)

-- a statement is near one of the path exactly where both are of one group
near_is : (keys : ℕ → ℕ) (w : List ℕ) (x y : Stmt) → x.path ≡ w → is_beside keys w x y ≡ is_eq (group_cmp keys x y)
near_is keys w x y e =
    let rest = ordering_then (nat_cmp x.tuple.rel y.tuple.rel) (row_cmp (key_of keys x.tuple) (key_of keys y.tuple)) in
    ap (λ b. b && same_key keys x.tuple y.tuple) (path_is w x y e) ∙ ap (λ b. is_eq (path_cmp x.path y.path) && b) (same_key_is keys x.tuple y.tuple)
    ∙ sym (is_eq-then (path_cmp x.path y.path) rest)

-- the first values of two rows tie, or they compare as the rows do
first_tell : (n : ℕ) (xs ys : List Value) → (row_cmp (take n xs) (take n ys) ≡ Equal) ⊎ (row_cmp (take n xs) (take n ys) ≡ row_cmp xs ys)
first_tell zero xs ys = inl refl
first_tell (suc n) [] [] = inl refl
first_tell (suc n) [] (y ∷ ys) = inr refl
first_tell (suc n) (x ∷ xs) [] = inr refl
first_tell (suc n) (x ∷ xs) (y ∷ ys) = by (value_cmp x y) (row_cmp (take n xs) (take n ys)) (row_cmp xs ys) (first_tell n xs ys)
  where
    by : (r a q : Ordering) → (a ≡ Equal) ⊎ (a ≡ q) → (ordering_then r a ≡ Equal) ⊎ (ordering_then r a ≡ ordering_then r q)
    by Less a q d = inr refl
    by Equal a q d = d
    by Greater a q d = inr refl

-- the keys of two tuples of one relation tie, or they compare as the values do
pub keys_tell : (keys : ℕ → ℕ) (t u : Tuple) → nat_cmp t.rel u.rel ≡ Equal → (row_cmp (key_of keys t) (key_of keys u) ≡ Equal) ⊎ (row_cmp (key_of keys t) (key_of keys u) ≡ row_cmp t.vals u.vals)
keys_tell keys t u e =
    let rel : t.rel ≡ u.rel = eqb-true t.rel u.rel (sym (is_eq_nat_cmp t.rel u.rel) ∙ ap is_eq e) in
    subst (λ (r : ℕ). (row_cmp (key_of keys t) (take (keys r) u.vals) ≡ Equal) ⊎ (row_cmp (key_of keys t) (take (keys r) u.vals) ≡ row_cmp t.vals u.vals)) rel (first_tell (keys t.rel) t.vals u.vals)

not_greater_less : Greater ≡ Less → ⊥
not_greater_less e = false≢true (ap is_lt e)

no_group_above : (p n v k s : Ordering) → (n ≡ Equal → (k ≡ Equal) ⊎ (k ≡ v)) → ordering_then p (ordering_then (ordering_then n v) s) ≡ Less → is_gt (ordering_then p (ordering_then n k)) ≡ false
no_group_above Less n v k s d h = refl
no_group_above Equal Less v k s d h = refl
no_group_above Equal Equal v Less s d h = refl
no_group_above Equal Equal v Equal s d h = refl
no_group_above Equal Equal Less Greater s d h = elim (d refl) [ inl e ↦ absurd (false≢true (ap is_eq e)) | inr e ↦ absurd (not_greater_less e) ]
no_group_above Equal Equal Equal Greater s d h = elim (d refl) [ inl e ↦ absurd (false≢true (ap is_eq e)) | inr e ↦ absurd (false≢true (ap is_eq e)) ]
no_group_above Equal Equal Greater Greater s d h = absurd (not_greater_less h)
no_group_above Equal Greater v k s d h = absurd (not_greater_less h)
no_group_above Greater n v k s d h = absurd (not_greater_less h)

-- what is below is of no later group
groups_in_order : (keys : ℕ → ℕ) (x y : Stmt) → statement_cmp x y ≡ Less → is_gt (group_cmp keys x y) ≡ false
groups_in_order keys x y h =
    no_group_above (path_cmp x.path y.path) (nat_cmp x.tuple.rel y.tuple.rel) (row_cmp x.tuple.vals y.tuple.vals) (row_cmp (key_of keys x.tuple) (key_of keys y.tuple)) (sign_cmp x.sign y.sign)
    (keys_tell keys x.tuple y.tuple) h

-- what lies between two of one group is of it
between_is : {X : Type 0} (R : X → X → Ordering) → IsTotalOrder R → (x y z : X) → is_gt (R x y) ≡ false → is_gt (R y z) ≡ false → is_eq (R x z) ≡ true → is_eq (R x y) ≡ true
between_is R o x y z a b e = elim (cases_Ordering (R x y)) [
  | inl l ↦ absurd (between_less l (cases_Ordering (R y z)))
  | inr (inl l) ↦ ap is_eq l
  | inr (inr l) ↦ absurd (true≢false (sym (ap is_gt l) ∙ a))
]
  where
    between_less : R x y ≡ Less → (R y z ≡ Less) ⊎ ((R y z ≡ Equal) ⊎ (R y z ≡ Greater)) → ⊥
    between_less l (inl m) = false≢true (sym (ap is_eq (o.trans x y z l m)) ∙ e)
    between_less l (inr (inl m)) =
        let same : R x y ≡ R x z = alike_right o y z x m in
        false≢true (sym (ap is_eq (sym same ∙ l)) ∙ e)
    between_less l (inr (inr m)) = true≢false (sym (ap is_gt m) ∙ b)

near_between : (keys : ℕ → ℕ) (w : List ℕ) (x y z : Stmt) → x.path ≡ w → statement_cmp x y ≡ Less → statement_cmp y z ≡ Less → is_beside keys w x z ≡ true → is_beside keys w x y ≡ true
near_between keys w x y z e xy yz n = near_is keys w x y e
    ∙ between_is (group_cmp keys) (group_total keys) x y z (groups_in_order keys x y xy) (groups_in_order keys y z yz) (sym (near_is keys w x z e) ∙ n)

-- ---- what clashes is near, and the first of two is plus

same_key_itself : (keys : ℕ → ℕ) (t u : Tuple) → same_tuple t u ≡ true → same_key keys t u ≡ true
same_key_itself keys t u e =
    let one : t ≡ u = (same_tuple-Decides t u).0 e in
    ap (same_key keys t) (sym one) ∙ same_key_is keys t t ∙ ap is_eq (tied_itself (then_total (on_total (λ (v : Tuple). v.rel) nat_cmp_total) (on_total (λ (v : Tuple). key_of keys v) row_total)) t)

pub clash_is_of_key : (keys : ℕ → ℕ) (t u : Tuple) (a b : Sign) → clash keys t a u b ≡ true → same_key keys t u ≡ true
clash_is_of_key keys t u Plus Plus h = (and_parts (same_key keys t u) (not (same_tuple t u)) h).0
clash_is_of_key keys t u Plus Minus h = same_key_itself keys t u h
clash_is_of_key keys t u Minus Plus h = same_key_itself keys t u h
clash_is_of_key keys t u Minus Minus h = absurd (false≢true h)

-- a statement of the path that clashes with another is near it
clash_is_near : (keys : ℕ → ℕ) (w : List ℕ) (x y : Stmt) → (same_path y.path w && clash keys x.tuple x.sign y.tuple y.sign) ≡ true → is_beside keys w x y ≡ true
clash_is_near keys w x y h =
    let k = and_parts (same_path y.path w) (clash keys x.tuple x.sign y.tuple y.sign) h in
    and_from (same_path y.path w) (same_key keys x.tuple y.tuple) k.0 (clash_is_of_key keys x.tuple y.tuple x.sign y.sign k.1)

three : (p t s : Ordering) → is_eq p ≡ true → is_eq t ≡ true → ordering_then p (ordering_then t s) ≡ s
three Less t s a b = absurd (false≢true a)
three Equal Less s a b = absurd (false≢true b)
three Equal Equal s a b = refl
three Equal Greater s a b = absurd (false≢true b)
three Greater t s a b = absurd (false≢true a)

-- a minus statement clashes with none above it
minus_stands : (keys : ℕ → ℕ) (w : List ℕ) (x y : Stmt) (s : Sign) → x.path ≡ w → y.sign ≡ s → x.sign ≡ Minus → statement_cmp x y ≡ Less → same_path y.path w ≡ true → clash keys x.tuple Minus y.tuple s ≡ true → ⊥
minus_stands keys w x y Plus e sy sx h p c =
    let tie = three (path_cmp x.path y.path) (tuple_cmp x.tuple y.tuple) (sign_cmp x.sign y.sign) (sym (path_is w x y e) ∙ p) (is_eq_tuple_cmp x.tuple y.tuple ∙ c) in
    not_greater_less (sym (tie ∙ ap (λ s. sign_cmp s y.sign) sx ∙ ap (sign_cmp Minus) sy) ∙ h)
minus_stands keys w x y Minus e sy sx h p c = false≢true c

-- ---- those ahead

abbrev clashes_here : (ℕ → ℕ) → List ℕ → Stmt → Stmt → Bool
clashes_here keys w x y = same_path y.path w && clash keys x.tuple x.sign y.tuple y.sign

abbrev above_all : Stmt → List Stmt → Bool
above_all x ys = list_all (λ y. is_lt (statement_cmp x y)) ys

-- a statement clashes with one of those above it exactly where it does before the first that is not near
near_tells : (keys : ℕ → ℕ) (w : List ℕ) (x : Stmt) (ys : List Stmt) → x.path ≡ w → above_all x ys ≡ true → ascending statement_cmp ys ≡ true
    → clashes_near keys w x ys ≡ contradicted keys ys w x.tuple x.sign
near_tells keys w x [] e h s = refl
near_tells keys w x (y ∷ ys) e h s =
    let k = and_parts (is_lt (statement_cmp x y)) (above_all x ys) h in
    let m = and_parts (above_all y ys) (ascending statement_cmp ys) s in
    elim (cases_Bool (is_beside keys w x y)) [
      | inl n ↦
          let p = and_parts (same_path y.path w) (same_key keys x.tuple y.tuple) n in
          ap (λ b. b && (clash keys x.tuple x.sign y.tuple y.sign || clashes_near keys w x ys)) n
          ∙ ap (λ b. clash keys x.tuple x.sign y.tuple y.sign || b) (near_tells keys w x ys e k.1 m.1)
          ∙ sym (ap (λ b. (b && clash keys x.tuple x.sign y.tuple y.sign) || contradicted keys ys w x.tuple x.sign) p.0)
      | inr n ↦
          let here : clashes_here keys w x y ≡ false = false_from_ne_true (clashes_here keys w x y) (λ c. false≢true (sym n ∙ clash_is_near keys w x y c)) in
          let later : contradicted keys ys w x.tuple x.sign ≡ false =
          list_any_fails (λ z. is_lt (statement_cmp y z)) (clashes_here keys w x) (λ z l. false_from_ne_true (clashes_here keys w x z)
          (λ c. false≢true (sym n ∙ near_between keys w x y z e (is_lt-Less (statement_cmp x y) k.0) (is_lt-Less (statement_cmp y z) l) (clash_is_near keys w x z c)))) ys m.0 in
          ap (λ b. b && (clash keys x.tuple x.sign y.tuple y.sign || clashes_near keys w x ys)) n
          ∙ sym (or_from (clashes_here keys w x y) (contradicted keys ys w x.tuple x.sign) here later)
    ]

minus_tells : (keys : ℕ → ℕ) (w : List ℕ) (x : Stmt) (ys : List Stmt) → x.path ≡ w → x.sign ≡ Minus → above_all x ys ≡ true → contradicted keys ys w x.tuple x.sign ≡ false
minus_tells keys w x ys e sx h =
    list_any_fails (λ y. is_lt (statement_cmp x y)) (clashes_here keys w x) (λ y l. false_from_ne_true (clashes_here keys w x y) (λ c.
    let k = and_parts (same_path y.path w) (clash keys x.tuple x.sign y.tuple y.sign) c in
    minus_stands keys w x y y.sign e refl sx (is_lt-Less (statement_cmp x y) l) k.0 (sym (ap (λ s. clash keys x.tuple s y.tuple y.sign) sx) ∙ k.1))) ys h

-- it does so with one of those ahead
ahead_tells : (keys : ℕ → ℕ) (w : List ℕ) (x : Stmt) (xs : List Stmt) → above_all x xs ≡ true → ascending statement_cmp xs ≡ true
    → clashes_ahead keys w x xs ≡ (same_path x.path w && contradicted keys xs w x.tuple x.sign)
ahead_tells keys w x xs h s = elim (cases_Bool (same_path x.path w)) [
  | inl p ↦ ap (λ b. b && (same_sign x.sign Plus && clashes_near keys w x xs)) p
      ∙ by x.sign refl ((same_path-Decides x.path w).0 p)
      ∙ sym (ap (λ b. b && contradicted keys xs w x.tuple x.sign) p)
  | inr p ↦ ap (λ b. b && (same_sign x.sign Plus && clashes_near keys w x xs)) p ∙ sym (ap (λ b. b && contradicted keys xs w x.tuple x.sign) p)
]
  where
    by : (sign : Sign) → x.sign ≡ sign → x.path ≡ w → (same_sign x.sign Plus && clashes_near keys w x xs) ≡ contradicted keys xs w x.tuple x.sign
    by Plus sx e = ap (λ s. same_sign s Plus && clashes_near keys w x xs) sx ∙ near_tells keys w x xs e h s
    by Minus sx e = ap (λ s. same_sign s Plus && clashes_near keys w x xs) sx ∙ sym (minus_tells keys w x xs e sx h)

-- ---- the first

-- a statement of the path clashes with one of these
abbrev stands_against : (ℕ → ℕ) → List ℕ → List Stmt → Stmt → Bool
stands_against keys w xs x = same_path x.path w && contradicted keys xs w x.tuple x.sign

-- one that clashes with none of these is not the reason why one of them clashes
one_less : (keys : ℕ → ℕ) (w : List ℕ) (x : Stmt) (zs ys : List Stmt) → stands_against keys w ys x ≡ false → find (stands_against keys w (x ∷ zs)) ys ≡ find (stands_against keys w zs) ys
one_less keys w x zs [] h = refl
one_less keys w x zs (y ∷ ys) h =
    ap (λ b. cond b (Some y) (find (stands_against keys w (x ∷ zs)) ys)) (same (same_path x.path w) (same_path y.path w) (clash keys x.tuple x.sign y.tuple y.sign) (clash keys y.tuple y.sign x.tuple x.sign)
    (contradicted keys ys w x.tuple x.sign) (contradicted keys zs w y.tuple y.sign) (clash_is_symmetric keys y.tuple x.tuple y.sign x.sign) h)
    ∙ ap (λ o. cond (stands_against keys w zs y) (Some y) o)
    (one_less keys w x zs ys (rest (same_path x.path w) (clashes_here keys w x y) (contradicted keys ys w x.tuple x.sign) h))
  where
    same : (a b c d e f : Bool) → d ≡ c → (a && ((b && c) || e)) ≡ false → (b && ((a && d) || f)) ≡ (b && f)
    same false b c d e f t h = refl
    same true false c d e f t h = refl
    same true true false d e f t h = ap (λ v. v || f) t
    same true true true d e f t h = absurd (true≢false h)

    rest : (a b c : Bool) → (a && (b || c)) ≡ false → (a && c) ≡ false
    rest false b c h = refl
    rest true false c h = h
    rest true true c h = absurd (true≢false h)

-- the first statement that clashes with one ahead is the first that clashes with any
pub first_is_ahead : (keys : ℕ → ℕ) (xs : List Stmt) (w : List ℕ) → ascending statement_cmp xs ≡ true → first_ahead keys xs w ≡ first_clashing keys xs w
first_is_ahead keys [] w s = refl
first_is_ahead keys (x ∷ xs) w s =
    let k = and_parts (above_all x xs) (ascending statement_cmp xs) s in
    let ahead : clashes_ahead keys w x xs ≡ stands_against keys w xs x = ahead_tells keys w x xs k.0 k.1 in
    let all : stands_against keys w (x ∷ xs) x ≡ stands_against keys w xs x = itself (same_path x.path w) (clash keys x.tuple x.sign x.tuple x.sign) (contradicted keys xs w x.tuple x.sign) (clash_itself keys x.tuple x.sign) in
    elim (cases_Bool (stands_against keys w xs x)) [
      | inl e ↦ cond-true (clashes_ahead keys w x xs) (Some x) (first_ahead keys xs w) (ahead ∙ e)
          ∙ sym (cond-true (stands_against keys w (x ∷ xs) x) (Some x) (find (stands_against keys w (x ∷ xs)) xs) (all ∙ e))
      | inr e ↦ cond-false (clashes_ahead keys w x xs) (Some x) (first_ahead keys xs w) (ahead ∙ e)
          ∙ first_is_ahead keys xs w k.1 ∙ sym (one_less keys w x xs xs e)
          ∙ sym (cond-false (stands_against keys w (x ∷ xs) x) (Some x) (find (stands_against keys w (x ∷ xs)) xs) (all ∙ e))
    ]
  where
    itself : (a c f : Bool) → c ≡ false → (a && ((a && c) || f)) ≡ (a && f)
    itself false c f e = refl
    itself true c f e = ap (λ v. v || f) e
