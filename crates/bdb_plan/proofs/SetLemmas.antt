-- What a plan names was set by an earlier step.
use Rattle.std.proofs.Common.{◌≡◌, ◌∙◌, ℕ, ◌+◌, Bool, true, false, not, ◌&&◌, ◌||◌, nat_eq, nat_lt, List, [], ◌∷◌, ◌++◌, Option, None, Some, inl, inr, refl, ap, sym, subst, append_assoc, arith}
use Rattle.std.specs.List.{list_any}
use Rattle.std.proofs.lemmas.Bool.{false≢true, cases_Bool, cond-true, cond-false, or_cases, or_left, and_parts, and_from, or_parts, or_right}
use Rattle.std.proofs.lemmas.Bool.Decides.{nat_tests}
use Rattle.std.proofs.lemmas.List.{append-nil}
use Rattle.bdb_base.specs.declared.kinds.Operand.{Operand}
use Rattle.bdb_base.specs.declared.kinds.Operand.TheVariants.{Col, Lit}
use Rattle.bdb_base.specs.declared.kinds.Ref.{Ref}
use Rattle.bdb_base.specs.declared.kinds.Who.{Who}
use Rattle.bdb_base.specs.declared.kinds.Who.TheVariants.{User, Of}
use Rattle.bdb_base.specs.Safety.{operand_columns}
use Rattle.bdb_base.proofs.ListLemmas.{list_all_weaker}
use Rattle.bdb_plan.specs.declared.step.Step.{Step}
use Rattle.bdb_plan.specs.declared.step.Step.TheVariants as step
use Rattle.bdb_plan.specs.Fitness.{SetSoFar, is_among, has_bound, was_bound, is_known, is_set, operand_is_set, who_is_set, is_new, comes_next, is_walked, is_whole, with_user, with_walk, with_tuple, with_column, bound_count, with_all_bound, placed_after, fits_from, at_first}
use Rattle.bdb_plan.specs.Naming.{sets_column, chooses_user, columns_named, users_named, who_items, are_set, are_chosen, PlansNameWhatIsSet}
use Rattle.bdb_plan.proofs.RunLemmas.{placed_tells, fits_one}

-- ---- one of the steps

more : (f : Step → Bool) (done : List Step) (x : Step) → list_any f done ≡ true → list_any f (done ++ x ∷ []) ≡ true
more f [] x h = absurd (false≢true h)
more f (y ∷ ys) x h = elim (or_cases (f y) (list_any f ys) h) [
  | inl k ↦ or_left (f y) (list_any f (ys ++ x ∷ [])) k
  | inr k ↦ or_right (f y) (list_any f (ys ++ x ∷ [])) (more f ys x k)
]

last : (f : Step → Bool) (done : List Step) (x : Step) → f x ≡ true → list_any f (done ++ x ∷ []) ≡ true
last f [] x h = or_left (f x) false h
last f (y ∷ ys) x h = by (f y) (last f ys x h)
  where
    by : (a : Bool) → list_any f (ys ++ x ∷ []) ≡ true → (a || list_any f (ys ++ x ∷ [])) ≡ true
    by true k = refl
    by false k = k

any_weaker : (f g : Step → Bool) → ((x : Step) → f x ≡ true → g x ≡ true) → (xs : List Step) → list_any f xs ≡ true → list_any g xs ≡ true
any_weaker f g h [] k = absurd (false≢true k)
any_weaker f g h (x ∷ xs) k = elim (or_cases (f x) (list_any f xs) k) [
  | inl m ↦ or_left (g x) (list_any g xs) (h x m)
  | inr m ↦ by (g x) (any_weaker f g h xs m)
]
  where
    by : (a : Bool) → list_any g xs ≡ true → (a || list_any g xs) ≡ true
    by true m = refl
    by false m = m

user_is_set : (r : Ref) → nat_lt r.col 2 ≡ true → (x : Step) → chooses_user r.item x ≡ true → sets_column r x ≡ true
user_is_set r l (step.User item) h = and_from (nat_eq r.item item) (nat_lt r.col 2) h l
user_is_set r l (step.Bind item col right) h = absurd (false≢true h)
user_is_set r l (step.Start item) h = absurd (false≢true h)
user_is_set r l (step.Edge item who) h = absurd (false≢true h)
user_is_set r l (step.Differ item left right) h = absurd (false≢true h)
user_is_set r l (step.Pos item rel) h = absurd (false≢true h)
user_is_set r l (step.Neg item rel) h = absurd (false≢true h)
user_is_set r l (step.Test c) h = absurd (false≢true h)

-- ---- what is set so far was set by the steps so far

same_item : (i j k : ℕ) → nat_eq i j ≡ true → nat_eq j k ≡ true → nat_eq i k ≡ true
same_item i j k h g = grind (arith, nat_tests)

record Told (done : List Step) (p : SetSoFar) : Type 0 where
  users : (i : ℕ) → is_among p.users i ≡ true → list_any (chooses_user i) done ≡ true
  items : (r : Ref) → is_among p.users r.item ≡ false → is_among p.items r.item ≡ true → was_bound p.denied r ≡ true → list_any (sets_column r) done ≡ true
  bound : (r : Ref) → has_bound p.bound r ≡ true → list_any (sets_column r) done ≡ true

column_told : (done : List Step) (p : SetSoFar) → Told done p → (r : Ref) → is_set p r ≡ true → list_any (sets_column r) done ≡ true
column_told done p t r h = elim (or_cases (is_known p r) (has_bound p.bound r) h) [
  | inl k ↦
      let all = is_among p.items r.item && was_bound p.denied r in
      elim (cases_Bool (is_among p.users r.item)) [
        | inl e ↦ any_weaker (chooses_user r.item) (sets_column r) (user_is_set r (sym (cond-true (is_among p.users r.item) (nat_lt r.col 2) all e) ∙ k)) done (t.users r.item e)
        | inr e ↦
            let m = and_parts (is_among p.items r.item) (was_bound p.denied r) (sym (cond-false (is_among p.users r.item) (nat_lt r.col 2) all e) ∙ k) in
            t.items r e m.0 m.1
      ]
  | inr k ↦ t.bound r k
]

kept : (done : List Step) (p : SetSoFar) (walk : Option ℕ) (x : Step) → Told done p → Told (done ++ x ∷ []) (record { users = p.users; items = p.items; denied = p.denied; bound = p.bound; walk = walk })
kept done p walk x t = record {
  users = λ i h. more (chooses_user i) done x (t.users i h);
  items = λ r a b c. more (sets_column r) done x (t.items r a b c);
  bound = λ r h. more (sets_column r) done x (t.bound r h);
}

told_next : (n : ℕ) (w : ℕ → ℕ → Bool) (done : List Step) (p p' : SetSoFar) (x : Step) → Told done p → placed_after n w p x ≡ Some p' → Told (done ++ x ∷ []) p'
told_next n w done p p' (step.User item) t e =
    let k = placed_tells (is_new n p item) (with_user p item) p' e in
    let x = step.User item in
    subst (Told (done ++ x ∷ [])) k.1 (record {
      users = λ i h. elim (or_cases (nat_eq i item) (is_among p.users i) h) [
        | inl m ↦ last (chooses_user i) done x m
        | inr m ↦ more (chooses_user i) done x (t.users i m)
      ];
      items = λ r a b c.
          let u = or_parts (nat_eq r.item item) (is_among p.users r.item) a in
          more (sets_column r) done x (t.items r u.1 (sym (ap (λ y. y || is_among p.items r.item) u.0) ∙ b) c);
      bound = λ r h. more (sets_column r) done x (t.bound r h);
    })
told_next n w done p p' (step.Start item) t e =
    let k = placed_tells (nat_lt item n) (with_walk p item) p' e in
    subst (Told (done ++ step.Start item ∷ [])) k.1 (kept done p (Some item) (step.Start item) t)
told_next n w done p p' (step.Edge item who) t e =
    let k = placed_tells (is_walked p.walk item && who_is_set p who) p p' e in
    subst (Told (done ++ step.Edge item who ∷ [])) k.1 (kept done p p.walk (step.Edge item who) t)
told_next n w done p p' (step.Differ item left right) t e =
    let k = placed_tells (is_walked p.walk item && (who_is_set p left && who_is_set p right)) p p' e in
    subst (Told (done ++ step.Differ item left right ∷ [])) k.1 (kept done p p.walk (step.Differ item left right) t)
told_next n w done p p' (step.Test c) t e =
    let k = placed_tells (is_set p c.left && operand_is_set p c.right) p p' e in
    subst (Told (done ++ step.Test c ∷ [])) k.1 (kept done p p.walk (step.Test c) t)
told_next n w done p p' (step.Pos item rel) t e =
    let k = placed_tells (is_walked p.walk item && is_new n p item) (with_tuple p item) p' e in
    let x = step.Pos item rel in
    subst (Told (done ++ x ∷ [])) k.1 (record {
      users = λ i h. more (chooses_user i) done x (t.users i h);
      items = λ r a b c. elim (or_cases (nat_eq r.item item) (is_among p.items r.item) b) [
        | inl m ↦ last (sets_column r) done x m
        | inr m ↦ more (sets_column r) done x (t.items r a m c)
      ];
      bound = λ r h. more (sets_column r) done x (t.bound r h);
    })
told_next n w done p p' (step.Bind item col right) t e =
    let k = placed_tells (operand_is_set p right && comes_next n p p.bound item col) (with_column p item col) p' e in
    let next = (and_parts (operand_is_set p right) (comes_next n p p.bound item col) k.0).1 in
    let x = step.Bind item col right in
    subst (Told (done ++ x ∷ [])) k.1 (record {
      users = λ i h. more (chooses_user i) done x (t.users i h);
      items = λ r a b c. more (sets_column r) done x (t.items r a b c);
      bound = λ r h.
          let m = and_parts (nat_eq r.item item) (nat_lt r.col (col + 1)) h in
          elim (cases_Bool (nat_eq r.col col)) [
            | inl s ↦ last (sets_column r) done x (and_from (nat_eq r.item item) (nat_eq r.col col) m.0 s)
            | inr s ↦ more (sets_column r) done x (t.bound r (earlier p.bound next r m.0 m.1 s))
          ];
    })
  where
    not_first : (c col : ℕ) → nat_eq col 0 ≡ true → nat_lt c (col + 1) ≡ true → nat_eq c col ≡ false → ⊥
    not_first c col h g m = grind (arith, nat_tests)

    below : (c col b : ℕ) → nat_eq col b ≡ true → nat_lt c (col + 1) ≡ true → nat_eq c col ≡ false → nat_lt c b ≡ true
    below c col b h g m = grind (arith, nat_tests)

    earlier : (o : Option (ℕ × ℕ)) → comes_next n p o item col ≡ true → (r : Ref) → nat_eq r.item item ≡ true → nat_lt r.col (col + 1) ≡ true → nat_eq r.col col ≡ false → has_bound o r ≡ true
    earlier None h r a b c = absurd (not_first r.col col (and_parts (is_new n p item) (nat_eq col 0) h).1 b c)
    earlier (Some o) h r a b c =
        let k = and_parts (nat_eq item o.0) (nat_eq col o.1) h in
        and_from (nat_eq r.item o.0) (nat_lt r.col o.1) (same_item r.item item o.0 a k.0) (below r.col col o.1 k.1 b c)
told_next n w done p p' (step.Neg item rel) t e =
    let k = placed_tells (is_walked p.walk item && is_whole n w p p.bound item rel) (with_all_bound p item) p' e in
    let x = step.Neg item rel in
    subst (Told (done ++ x ∷ [])) k.1 (record {
      users = λ i h. more (chooses_user i) done x (t.users i h);
      items = λ r a b c.
          let m = and_parts (not (nat_eq r.item item) || nat_lt r.col (bound_count p.bound)) (was_bound p.denied r) c in
          elim (or_cases (nat_eq r.item item) (is_among p.items r.item) b) [
            | inl e ↦ more (sets_column r) done x (t.bound r (here p.bound (and_parts (is_walked p.walk item) (is_whole n w p p.bound item rel) k.0).1 r e (sym (ap (λ y. not y || nat_lt r.col (bound_count p.bound)) e) ∙ m.0)))
            | inr e ↦ more (sets_column r) done x (t.items r a e m.1)
          ];
      bound = λ r h. absurd (false≢true h);
    })
  where
    none_below : (c : ℕ) → nat_lt c 0 ≡ true → ⊥
    none_below c h = grind (arith, nat_tests)

    -- a column that counts as bound is one of the item's
    here : (o : Option (ℕ × ℕ)) → is_whole n w p o item rel ≡ true → (r : Ref) → nat_eq r.item item ≡ true → nat_lt r.col (bound_count o) ≡ true → has_bound o r ≡ true
    here None h r e lt = absurd (none_below r.col lt)
    here (Some b) h r e lt = and_from (nat_eq r.item b.0) (nat_lt r.col b.1) (same_item r.item item b.0 e (and_parts (nat_eq item b.0) (w rel b.1) h).0) lt

-- ---- what a step names

record Named (done : List Step) (x : Step) : Type 0 where
  columns : are_set done (columns_named x) ≡ true
  users : are_chosen done (users_named x) ≡ true

operand_told : (done : List Step) (p : SetSoFar) → Told done p → (o : Operand) → operand_is_set p o ≡ true → are_set done (operand_columns o) ≡ true
operand_told done p t (Col r) h = and_from (list_any (sets_column r) done) true (column_told done p t r h) refl
operand_told done p t (Lit v) h = refl

who_told : (done : List Step) (p : SetSoFar) → Told done p → (who : Who) → who_is_set p who ≡ true → are_chosen done (who_items who) ≡ true
who_told done p t (User uid) h = refl
who_told done p t (Of item) h = and_from (list_any (chooses_user item) done) true (t.users item h) refl

named : (n : ℕ) (w : ℕ → ℕ → Bool) (done : List Step) (p p' : SetSoFar) (x : Step) → Told done p → placed_after n w p x ≡ Some p' → Named done x
named n w done p p' (step.User item) t e = record { columns = refl; users = refl }
named n w done p p' (step.Start item) t e = record { columns = refl; users = refl }
named n w done p p' (step.Pos item rel) t e = record { columns = refl; users = refl }
named n w done p p' (step.Neg item rel) t e = record { columns = refl; users = refl }
named n w done p p' (step.Edge item who) t e =
    let k = placed_tells (is_walked p.walk item && who_is_set p who) p p' e in
    record { columns = refl; users = who_told done p t who (and_parts (is_walked p.walk item) (who_is_set p who) k.0).1 }
named n w done p p' (step.Differ item left right) t e =
    let k = placed_tells (is_walked p.walk item && (who_is_set p left && who_is_set p right)) p p' e in
    let m = and_parts (who_is_set p left) (who_is_set p right) (and_parts (is_walked p.walk item) (who_is_set p left && who_is_set p right) k.0).1 in
    record { columns = refl; users = both left (who_told done p t left m.0) (who_told done p t right m.1) }
  where
    both : (who : Who) → are_chosen done (who_items who) ≡ true → are_chosen done (who_items right) ≡ true → are_chosen done (who_items who ++ who_items right) ≡ true
    both (User uid) a b = b
    both (Of at) a b = and_from (list_any (chooses_user at) done) (are_chosen done (who_items right)) (and_parts (list_any (chooses_user at) done) true a).0 b
named n w done p p' (step.Bind item col right) t e =
    let k = placed_tells (operand_is_set p right && comes_next n p p.bound item col) (with_column p item col) p' e in
    record { columns = operand_told done p t right (and_parts (operand_is_set p right) (comes_next n p p.bound item col) k.0).0; users = refl }
named n w done p p' (step.Test c) t e =
    let k = placed_tells (is_set p c.left && operand_is_set p c.right) p p' e in
    let m = and_parts (is_set p c.left) (operand_is_set p c.right) k.0 in
    record { columns = and_from (list_any (sets_column c.left) done) (are_set done (operand_columns c.right)) (column_told done p t c.left m.0) (operand_told done p t c.right m.1); users = refl }

-- ---- a whole plan

named_from : (n : ℕ) (w : ℕ → ℕ → Bool) (take : List Ref) (done before : List Step) (x : Step) (rest : List Step) (p : SetSoFar) → Told done p → fits_from n w take (Some p) (before ++ x ∷ rest) ≡ true → Named (done ++ before) x
named_from n w take done [] x rest p t f =
    let g = fits_one n w take (placed_after n w p x) rest f in
    subst (λ xs. Named xs x) (sym (append-nil done)) (named n w done p g.0 x t g.1)
named_from n w take done (y ∷ ys) x rest p t f =
    let g = fits_one n w take (placed_after n w p y) (ys ++ x ∷ rest) f in
    subst (λ xs. Named xs x) (append_assoc done (y ∷ []) ys) (named_from n w take (done ++ y ∷ []) ys x rest g.0 (told_next n w done p g.0 y t g.1) g.2)

taken_from : (n : ℕ) (w : ℕ → ℕ → Bool) (take : List Ref) (done xs : List Step) (p : SetSoFar) → Told done p → fits_from n w take (Some p) xs ≡ true → are_set (done ++ xs) take ≡ true
taken_from n w take done [] p t f =
    subst (λ xs. are_set xs take ≡ true) (sym (append-nil done)) (list_all_weaker (is_set p) (λ r. list_any (sets_column r) done) (column_told done p t) take f)
taken_from n w take done (y ∷ ys) p t f =
    let g = fits_one n w take (placed_after n w p y) ys f in
    subst (λ xs. are_set xs take ≡ true) (append_assoc done (y ∷ []) ys) (taken_from n w take (done ++ y ∷ []) ys g.0 (told_next n w done p g.0 y t g.1) g.2)

nothing_told : Told [] at_first
nothing_told = record { users = λ i h. absurd (false≢true h); items = λ r a b c. absurd (false≢true b); bound = λ r h. absurd (false≢true h) }

pub plans_name_what_is_set : PlansNameWhatIsSet
plans_name_what_is_set p f =
    let w : ℕ → ℕ → Bool = λ rel k. true in
    let at : (before : List Step) (x : Step) (rest : List Step) → p.steps ≡ before ++ x ∷ rest → Named before x =
    λ before x rest e. named_from p.items w p.take [] before x rest at_first nothing_told (subst (λ xs. fits_from p.items w p.take (Some at_first) xs ≡ true) e f) in
    record {
      columns = λ before x rest e. (at before x rest e).columns;
      users = λ before x rest e. (at before x rest e).users;
      take = taken_from p.items w p.take [] p.steps at_first nothing_told f;
    }
