-- The least clash is the least one.
use Rattle.std.proofs.Common.{◌≡◌, ◌∙◌, ℕ, Bool, true, ◌&&◌, List, [], ◌∷◌, ◌⊎◌, inl, inr, refl, ap, sym, Some, None, find, cond}
use Rattle.std.specs.declared.cmp.Ordering.{Ordering}
use Rattle.std.specs.Bool.{Decides}
use Rattle.std.specs.List.{list_any, list_all}
use Rattle.std.specs.Ordering.{is_lt}
use Rattle.std.proofs.lemmas.Bool.{false≢true, cases_Bool, or_cases, or_left, or_right, and_parts, and_from, cond-true, cond-false}
use Rattle.bdb_base.specs.declared.kinds.Sign.{Sign}
use Rattle.bdb_base.specs.declared.kinds.Stmt.{Stmt}
use Rattle.bdb_base.specs.declared.tuple.Tuple.{Tuple}
use Rattle.bdb_base.specs.Clash.{clash}
use Rattle.bdb_base.specs.Laws.{LeastClashIsLeast, NoLeastClash}
use Rattle.bdb_base.specs.Order.{statement_cmp}
use Rattle.bdb_base.specs.Same.{same_path, same_statement}
use Rattle.bdb_base.specs.SortedSet.{ascending}
use Rattle.bdb_base.specs.SameLemmas.{same_path-Decides, same_statement-Decides}

-- all items pass, and so does a member
pub all_at : {X : Type 0} (same : X → X → Bool) → ((x y : X) → Decides (same x y) (x ≡ y)) → (p : X → Bool) (xs : List X) (y : X)
    → list_all p xs ≡ true → list_any (same y) xs ≡ true → p y ≡ true
all_at same d p [] y h m = absurd (false≢true m)
all_at same d p (z ∷ zs) y h m =
    let parts = and_parts (p z) (list_all p zs) h in
    elim (or_cases (same y z) (list_any (same y) zs) m) [
      | inl a ↦ ap p ((d y z).0 a) ∙ parts.0
      | inr b ↦ all_at same d p zs y parts.1 b
    ]

-- the least clash, over any test: the first item that passes
pub find_passes : {X : Type 0} (p : X → Bool) (xs : List X) (x : X) → find p xs ≡ Some x → p x ≡ true
find_passes p [] x e = cc
find_passes p (y ∷ ys) x e = elim (cases_Bool (p y)) [
  | inl a ↦ let k : cond (p y) (Some y) (find p ys) ≡ Some y = cond-true (p y) (Some y) (find p ys) a in let j : y ≡ x = cc in cc
  | inr b ↦ let k : cond (p y) (Some y) (find p ys) ≡ find p ys = cond-false (p y) (Some y) (find p ys) b in find_passes p ys x (sym k ∙ e)
]

pub find_is_member : {X : Type 0} (same : X → X → Bool) → ((x : X) → same x x ≡ true) → (p : X → Bool) (xs : List X) (x : X) → find p xs ≡ Some x → list_any (same x) xs ≡ true
find_is_member same r p [] x e = cc
find_is_member same r p (y ∷ ys) x e = elim (cases_Bool (p y)) [
  | inl a ↦
      let k : cond (p y) (Some y) (find p ys) ≡ Some y = cond-true (p y) (Some y) (find p ys) a in
      let j : y ≡ x = cc in
      or_left (same x y) (list_any (same x) ys) (ap (λ v. same x v) j ∙ r x)
  | inr b ↦
      let k : cond (p y) (Some y) (find p ys) ≡ find p ys = cond-false (p y) (Some y) (find p ys) b in
      or_right (same x y) (list_any (same x) ys) (find_is_member same r p ys x (sym k ∙ e))
]

pub find_is_first : {X : Type 0} (same : X → X → Bool) → ((x y : X) → Decides (same x y) (x ≡ y)) → (R : X → X → Ordering) (p : X → Bool) (xs : List X) (x y : X)
    → ascending R xs ≡ true → find p xs ≡ Some x → list_any (same y) xs ≡ true → p y ≡ true → (y ≡ x) ⊎ (is_lt (R x y) ≡ true)
find_is_first same d R p [] x y s e m q = absurd (false≢true m)
find_is_first same d R p (z ∷ zs) x y s e m q =
    let sorted = and_parts (list_all (λ v. is_lt (R z v)) zs) (ascending R zs) s in
    elim (cases_Bool (p z)) [
      | inl a ↦
          let k : cond (p z) (Some z) (find p zs) ≡ Some z = cond-true (p z) (Some z) (find p zs) a in
          let j : z ≡ x = cc in
          elim (or_cases (same y z) (list_any (same y) zs) m) [
            | inl b ↦ inl ((d y z).0 b ∙ j)
            | inr c ↦ inr (ap (λ v. is_lt (R v y)) (sym j) ∙ all_at same d (λ v. is_lt (R z v)) zs y sorted.0 c)
          ]
      | inr b ↦
          let k : cond (p z) (Some z) (find p zs) ≡ find p zs = cond-false (p z) (Some z) (find p zs) b in
          elim (or_cases (same y z) (list_any (same y) zs) m) [
            | inl c ↦ let j : y ≡ z = (d y z).0 c in absurd (false≢true (sym b ∙ ap p (sym j) ∙ q))
            | inr c ↦ find_is_first same d R p zs x y sorted.1 (sym k ∙ e) c q
          ]
    ]

pub find_none : {X : Type 0} (same : X → X → Bool) → ((x y : X) → Decides (same x y) (x ≡ y)) → (p : X → Bool) (xs : List X) → find p xs ≡ None
    → (y : X) → list_any (same y) xs ≡ true → p y ≡ true → ⊥
find_none same d p [] e y m q = false≢true m
find_none same d p (z ∷ zs) e y m q = elim (cases_Bool (p z)) [
  | inl a ↦ let k : cond (p z) (Some z) (find p zs) ≡ Some z = cond-true (p z) (Some z) (find p zs) a in cc
  | inr b ↦
      let k : cond (p z) (Some z) (find p zs) ≡ find p zs = cond-false (p z) (Some z) (find p zs) b in
      elim (or_cases (same y z) (list_any (same y) zs) m) [
        | inl c ↦ let j : y ≡ z = (d y z).0 c in false≢true (sym b ∙ ap p (sym j) ∙ q)
        | inr c ↦ find_none same d p zs (sym k ∙ e) y c q
      ]
]

pub none_found : {X : Type 0} (same : X → X → Bool) → ((x y : X) → Decides (same x y) (x ≡ y)) → (p : X → Bool) (xs : List X)
    → ((y : X) → list_any (same y) xs ≡ true → p y ≡ true → ⊥) → find p xs ≡ None
none_found same d p [] h = refl
none_found same d p (z ∷ zs) h = elim (cases_Bool (p z)) [
  | inl a ↦ absurd (h z (or_left (same z z) (list_any (same z) zs) ((d z z).1 refl)) a)
  | inr b ↦ cond-false (p z) (Some z) (find p zs) b ∙ none_found same d p zs (λ y m q. h y (or_right (same y z) (list_any (same y) zs) m) q)
]

-- a test of path and clash, and what it says
pub clash_test : (keys : ℕ → ℕ) (w : List ℕ) (t : Tuple) (s : Sign) (x : Stmt) → (same_path x.path w && clash keys t s x.tuple x.sign) ≡ true
    → (x.path ≡ w) × (clash keys t s x.tuple x.sign ≡ true)
clash_test keys w t s x e =
    let parts = and_parts (same_path x.path w) (clash keys t s x.tuple x.sign) e in
    ((same_path-Decides x.path w).0 parts.0, parts.1)

pub least_clash_is_least : LeastClashIsLeast
least_clash_is_least keys stmts s w t r x e =
    let p : Stmt → Bool = λ v. same_path v.path w && clash keys t r v.tuple v.sign in
    let here : (x.path ≡ w) × (clash keys t r x.tuple x.sign ≡ true) = clash_test keys w t r x (find_passes p stmts x e) in (
      (find_is_member same_statement (λ v. (same_statement-Decides v v).1 refl) p stmts x e, here.0, here.1),
      (λ y c. find_is_first same_statement same_statement-Decides statement_cmp p stmts x y s e c.0
          (and_from (same_path y.path w) (clash keys t r y.tuple y.sign) ((same_path-Decides y.path w).1 c.1) c.2)),
    )

pub no_least_clash : NoLeastClash
no_least_clash keys stmts w t r =
    let p : Stmt → Bool = λ v. same_path v.path w && clash keys t r v.tuple v.sign in (
      (λ e y c. find_none same_statement same_statement-Decides p stmts e y c.0
          (and_from (same_path y.path w) (clash keys t r y.tuple y.sign) ((same_path-Decides y.path w).1 c.1) c.2)),
      (λ h. none_found same_statement same_statement-Decides p stmts (λ y m q. let here = clash_test keys w t r y q in h y (m, here.0, here.1))),
    )
