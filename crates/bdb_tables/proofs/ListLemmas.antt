-- Lists that begin with others, what is left of a list, and whom a path names.
use Rattle.std.proofs.Common.{◌≡◌, ◌∙◌, ℕ, Bool, true, false, ◌||◌, nat_eq, cond, List, [], ◌∷◌, ◌++◌, filter, refl, sym, ap, arith}
use Rattle.std.specs.List.{AllByRecursion}
use Rattle.std.proofs.lemmas.Bool.{and_from, and_parts, eq-eqb, eqb-true, false≢true}
use Rattle.std.proofs.lemmas.Bool.Decides.{nat_tests}
use Rattle.bdb_base.specs.Changes.{names_user}
use Rattle.bdb_base.specs.Segments.{is_prefix}
use Rattle.bdb_base.specs.Causes.{is_listed}

-- ---- beginnings

pub prefix_append : (p q : List ℕ) → is_prefix p (p ++ q) ≡ true
prefix_append [] q = refl
prefix_append (i ∷ p) q = and_from (nat_eq i i) (is_prefix p (p ++ q)) (eq-eqb i i refl) (prefix_append p q)

-- what follows a beginning
pub prefix_rest : (p q : List ℕ) → is_prefix p q ≡ true → (r : List ℕ) × (q ≡ p ++ r)
prefix_rest [] q e = (q, refl)
prefix_rest (i ∷ p) [] e = absurd (false≢true e)
prefix_rest (i ∷ p) (j ∷ q) e =
    let k = and_parts (nat_eq i j) (is_prefix p q) e in
    let r = prefix_rest p q k.1 in
    (r.0, ap (λ n. n ∷ q) (sym (eqb-true i j k.0)) ∙ ap (λ (x : List ℕ). i ∷ x) r.1)

-- ---- what passes a test

pub all_pass : {X : Type 0} (p : X → Bool) (xs : List X) → AllByRecursion (λ x. p x ≡ true) (filter p xs)
all_pass p [] = tt
all_pass p (x ∷ xs) = by (all_pass p xs) (p x) refl
  where
    by : AllByRecursion (λ y. p y ≡ true) (filter p xs) → (b : Bool) → p x ≡ b → AllByRecursion (λ y. p y ≡ true) (cond b (x ∷ filter p xs) (filter p xs))
    by rest true e = (e, rest)
    by rest false e = rest

-- ---- users of a path

-- a path names a user where he is among its users
pub listed_is_named : (uid : ℕ) (w : List ℕ) → is_listed uid w ≡ names_user uid w
listed_is_named uid [] = refl
listed_is_named uid (i ∷ w) = ap (λ b. b || is_listed uid w) (turned uid i) ∙ ap (λ b. nat_eq i uid || b) (listed_is_named uid w)
  where
    turned : (a b : ℕ) → nat_eq a b ≡ nat_eq b a
    turned a b = grind (arith, nat_tests)
