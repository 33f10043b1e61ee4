-- Statements of one path in place of others: what stands at the path then, and when a base with them is valid.
use Rattle.std.proofs.Common.{◌≡◌, ◌∙◌, ℕ, ◌+◌, ◌≤◌, Bool, true, false, not, ◌&&◌, ◌||◌, cond, List, [], ◌∷◌, ◌++◌, Some, refl, ap, sym, inl, inr, arith, filter, find, length}
use Rattle.std.specs.List.{list_any, list_all}
use Rattle.std.specs.Ordering.{is_eq}
use Rattle.std.proofs.lemmas.Bool.{cases_Bool, and_parts, and_from, or_left, or_right, cond-true, cond-false, false≢true, false_from_ne_true}
use Rattle.std.proofs.lemmas.List.{append-nil}
use Rattle.std.proofs.lemmas.List.Concat.{flat_map-append}
use Rattle.bdb_base.specs.declared.kinds.Stmt.{Stmt}
use Rattle.bdb_base.specs.Bases.{stands, with_statement, without_statement}
use Rattle.bdb_base.specs.Changes.{with_statements, first_clashing, without_statements}
use Rattle.bdb_base.specs.Clash.{clash}
use Rattle.bdb_base.specs.Order.{statement_cmp}
use Rattle.bdb_base.specs.OrderLemmas.{statement_exact}
use Rattle.bdb_base.specs.Same.{same_path}
use Rattle.bdb_base.specs.SortedSet.{ascending}
use Rattle.bdb_base.specs.Worlds.{contradicted}
use Rattle.bdb_base.proofs.BaseLemmas.{length-put_in}
use Rattle.bdb_base.proofs.ListLemmas.{filter_kept_one, filter_dropped_one, list_any_same, or_swap, or_false}
use Rattle.bdb_base.proofs.SetLemmas.{list_any-put_in, put_keeps_order, filter_keeps_order, members_make_set, take_drops_member, take_keeps_order, put_adds_member, is_eq_itself, is_eq_turned}
use Rattle.bdb_base.proofs.FindLemmas.{list_any-filter}
use Rattle.bdb_base.proofs.UpdateLemmas.{without_keeps_order}
use Rattle.bdb_update.specs.Calls.{none_comes_again}
use Rattle.bdb_update.specs.Reached.{at_path, said_at, said_of}
use Rattle.bdb_val.specs.declared.stored.StoredRow.{StoredRow}
use Rattle.bdb_update.proofs.PartCountLemmas.{put_back}

-- ---- lists

filters_swap : {X : Type 0} (p q : X → Bool) (xs : List X) → filter p (filter q xs) ≡ filter q (filter p xs)
filters_swap p q [] = refl
filters_swap p q (x ∷ xs) = elim (cases_Bool (q x)) [
  | inl e ↦ ap (filter p) (filter_kept_one q x xs e) ∙ elim (cases_Bool (p x)) [
    | inl f ↦ filter_kept_one p x (filter q xs) f ∙ ap (λ ys. x ∷ ys) (filters_swap p q xs) ∙ sym (filter_kept_one q x (filter p xs) e) ∙ sym (ap (filter q) (filter_kept_one p x xs f))
    | inr f ↦ filter_dropped_one p x (filter q xs) f ∙ filters_swap p q xs ∙ sym (ap (filter q) (filter_dropped_one p x xs f))
  ]
  | inr e ↦ ap (filter p) (filter_dropped_one q x xs e) ∙ filters_swap p q xs ∙ elim (cases_Bool (p x)) [
    | inl f ↦ sym (filter_dropped_one q x (filter p xs) e) ∙ sym (ap (filter q) (filter_kept_one p x xs f))
    | inr f ↦ sym (ap (filter q) (filter_dropped_one p x xs f))
  ]
]

and_again : (a b : Bool) → (a && (a && b)) ≡ (a && b)
and_again true b = refl
and_again false b = refl

-- ---- a path's statements

at : List ℕ → Stmt → Bool
at w x = same_path x.path w

-- among the statements that pass a test one comes as it does among all
put_at_path : (p : Stmt → Bool) (xs : List Stmt) (x : Stmt) → ascending statement_cmp xs ≡ true → p x ≡ true → filter p (with_statement xs x) ≡ with_statement (filter p xs) x
put_at_path p xs x s e = members_make_set statement_exact (filter p (with_statement xs x)) (with_statement (filter p xs) x)
    (filter_keeps_order statement_exact p (with_statement xs x) (put_keeps_order statement_exact xs x s))
    (put_keeps_order statement_exact (filter p xs) x (filter_keeps_order statement_exact p xs s))
    (λ z. list_any-filter (λ y. is_eq (statement_cmp y z)) p (with_statement xs x)
    ∙ list_any-put_in statement_exact (λ y. p y && is_eq (statement_cmp y z)) xs x
    ∙ ap (λ b. (b && is_eq (statement_cmp x z)) || list_any (λ y. p y && is_eq (statement_cmp y z)) xs) e
    ∙ sym (put_adds_member statement_exact (filter p xs) x z ∙ ap (λ b. is_eq (statement_cmp x z) || b) (list_any-filter (λ y. is_eq (statement_cmp y z)) p xs)))

with_at_path : (p : Stmt → Bool) (xs come : List Stmt) → ascending statement_cmp xs ≡ true → list_all p come ≡ true → filter p (with_statements xs come) ≡ with_statements (filter p xs) come
with_at_path p xs [] s e = refl
with_at_path p xs (x ∷ come) s e =
    let k = and_parts (p x) (list_all p come) e in
    with_at_path p (with_statement xs x) come (put_keeps_order statement_exact xs x s) k.1 ∙ ap (λ ys. with_statements ys come) (put_at_path p xs x s k.0)

without_at_path : (p : Stmt → Bool) (xs gone : List Stmt) → filter p (without_statements xs gone) ≡ without_statements (filter p xs) gone
without_at_path p xs [] = refl
without_at_path p xs (x ∷ gone) = without_at_path p (without_statement xs x) gone ∙ ap (λ ys. without_statements ys gone) (filters_swap p (λ y. not (is_eq (statement_cmp y x))) xs)

-- what stands at a path after a change there
pub reached_at : (w : List ℕ) (stmts gone come : List Stmt) → ascending statement_cmp stmts ≡ true → list_all (λ x. same_path x.path w) come ≡ true
    → at_path w (with_statements (without_statements stmts gone) come) ≡ with_statements (without_statements (at_path w stmts) gone) come
reached_at w stmts gone come s e =
    with_at_path (λ x. same_path x.path w) (without_statements stmts gone) come (without_keeps_order stmts gone s) e
    ∙ ap (λ ys. with_statements ys come) (without_at_path (λ x. same_path x.path w) stmts gone)

-- the first clashing statement of a path is that of its statements alone
find_at_path : (p f g : Stmt → Bool) → ((x : Stmt) → f x ≡ g x) → (xs : List Stmt) → find (λ x. p x && f x) (filter p xs) ≡ find (λ x. p x && g x) xs
find_at_path p f g h [] = refl
find_at_path p f g h (x ∷ xs) = elim (cases_Bool (p x)) [
  | inl e ↦ ap (find (λ y. p y && f y)) (filter_kept_one p x xs e)
      ∙ ap (λ b. cond (p x && b) (Some x) (find (λ y. p y && f y) (filter p xs))) (h x)
      ∙ ap (λ o. cond (p x && g x) (Some x) o) (find_at_path p f g h xs)
  | inr e ↦ ap (find (λ y. p y && f y)) (filter_dropped_one p x xs e) ∙ find_at_path p f g h xs
      ∙ sym (ap (λ b. cond (b && g x) (Some x) (find (λ y. p y && g y) xs)) e)
]

pub first_at_path : (keys : ℕ → ℕ) (w : List ℕ) (xs : List Stmt) → first_clashing keys (at_path w xs) w ≡ first_clashing keys xs w
first_at_path keys w xs = find_at_path (λ x. same_path x.path w) (λ x. contradicted keys (at_path w xs) w x.tuple x.sign) (λ x. contradicted keys xs w x.tuple x.sign)
    (λ x. list_any-filter (λ y. same_path y.path w && clash keys x.tuple x.sign y.tuple y.sign) (λ y. same_path y.path w) xs
    ∙ list_any_same (λ y. same_path y.path w && (same_path y.path w && clash keys x.tuple x.sign y.tuple y.sign)) (λ y. same_path y.path w && clash keys x.tuple x.sign y.tuple y.sign)
    (λ y. and_again (same_path y.path w) (clash keys x.tuple x.sign y.tuple y.sign)) xs)
    xs

-- ---- statements that stand

with_all : (xs ys zs : List Stmt) → with_statements xs (ys ++ zs) ≡ with_statements (with_statements xs ys) zs
with_all xs [] zs = refl
with_all xs (y ∷ ys) zs = with_all (with_statement xs y) ys zs

-- one row more
pub said_more : (w : List ℕ) (rows : List StoredRow) (r : StoredRow) → with_statements [] (said_at w (rows ++ r ∷ [])) ≡ with_statements (with_statements [] (said_at w rows)) (said_of w r)
said_more w rows r =
    ap (with_statements []) (flat_map-append (said_of w) rows (r ∷ []) ∙ ap (λ xs. said_at w rows ++ xs) (append-nil (said_of w r)))
    ∙ with_all [] (said_at w rows) (said_of w r)

-- ---- statements that go

gone_away : (xs : List Stmt) (x : Stmt) → stands (without_statement xs x) x ≡ false
gone_away xs x = take_drops_member statement_exact xs x x ∙ ap (λ b. not b && stands xs x) (is_eq_itself statement_exact x)

-- those that stand still do without another
stand_still : (xs : List Stmt) (x : Stmt) (gone : List Stmt) → stands gone x ≡ false → list_all (stands xs) gone ≡ true → list_all (stands (without_statement xs x)) gone ≡ true
stand_still xs x [] n e = refl
stand_still xs x (g ∷ gone) n e =
    let k = and_parts (stands xs g) (list_all (stands xs) gone) e in
    let apart : is_eq (statement_cmp x g) ≡ false = is_eq_turned statement_exact x g
    ∙ false_from_ne_true (is_eq (statement_cmp g x)) (λ h. false≢true (sym n ∙ or_left (is_eq (statement_cmp g x)) (stands gone x) h)) in
    and_from (stands (without_statement xs x) g) (list_all (stands (without_statement xs x)) gone)
    (take_drops_member statement_exact xs x g ∙ ap (λ b. not b && stands xs g) apart ∙ k.0)
    (stand_still xs x gone (false_from_ne_true (stands gone x) (λ h. false≢true (sym n ∙ or_right (is_eq (statement_cmp g x)) (stands gone x) h))) k.1)

-- the first of those that go is not among the later ones, and these stand still
pub record GoesFirst (xs : List Stmt) (x : Stmt) (gone : List Stmt) : Type 0 where
  pub here : stands xs x ≡ true
  pub later : list_all (stands (without_statement xs x)) gone ≡ true
  pub apart : none_comes_again gone ≡ true

pub goes_first : (xs : List Stmt) (x : Stmt) (gone : List Stmt) → list_all (stands xs) (x ∷ gone) ≡ true → none_comes_again (x ∷ gone) ≡ true → GoesFirst xs x gone
goes_first xs x gone e a =
    let k = and_parts (stands xs x) (list_all (stands xs) gone) e in
    elim (cases_Bool (stands gone x)) [
      | inl h ↦ absurd (false≢true (sym (cond-true (stands gone x) false (none_comes_again gone) h) ∙ a))
      | inr h ↦ record { here = k.0; later = stand_still xs x gone h k.1; apart = sym (cond-false (stands gone x) false (none_comes_again gone) h) ∙ a }
    ]

-- what is found among all is found among those left or those gone
pub any_left : (p : Stmt → Bool) (xs gone : List Stmt) → ascending statement_cmp xs ≡ true → list_all (stands xs) gone ≡ true → none_comes_again gone ≡ true
    → list_any p xs ≡ (list_any p (without_statements xs gone) || list_any p gone)
any_left p xs [] s e a = sym (or_false (list_any p xs))
any_left p xs (x ∷ gone) s e a =
    let k = goes_first xs x gone e a in
    sym (ap (list_any p) (put_back xs x s k.here)) ∙ list_any-put_in statement_exact p (without_statement xs x) x
    ∙ ap (λ b. p x || b) (any_left p (without_statement xs x) gone (take_keeps_order statement_exact xs x s) k.later k.apart)
    ∙ or_swap (p x) (list_any p (without_statements (without_statement xs x) gone)) (list_any p gone)

pub length_left : (xs gone : List Stmt) → ascending statement_cmp xs ≡ true → list_all (stands xs) gone ≡ true → none_comes_again gone ≡ true → length (without_statements xs gone) + length gone ≡ length xs
length_left xs [] s e a = omega arith
length_left xs (x ∷ gone) s e a =
    let k = goes_first xs x gone e a in
    let left = without_statement xs x in
    let s2 = take_keeps_order statement_exact xs x s in
    let ih = length_left left gone s2 k.later k.apart in
    let one : length xs ≡ 1 + length left = ap length (sym (put_back xs x s k.here)) ∙ length-put_in statement_exact left x s2 ∙ ap (λ b. cond b 0 1 + length left) (gone_away xs x) in
    omega arith

pub length_with : (xs come : List Stmt) → ascending statement_cmp xs ≡ true → length (with_statements xs come) ≤ length xs + length come
length_with xs [] s = omega arith
length_with xs (x ∷ come) s =
    let ih = length_with (with_statement xs x) come (put_keeps_order statement_exact xs x s) in
    let e = length-put_in statement_exact xs x s in
    let le : cond (stands xs x) 0 1 ≤ 1 = at_most (stands xs x) in
    omega arith
  where
    at_most : (b : Bool) → cond b 0 1 ≤ 1
    at_most true = omega arith
    at_most false = omega arith
