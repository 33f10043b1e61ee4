-- Names with prefixes of a path, one after the other.
use Rattle.std.proofs.Common.{◌≡◌, ◌∙◌, ℕ, ◌+◌, ◌≤◌, false, nat_eq, cond, List, [], ◌∷◌, ◌++◌, refl, ap, sym, subst, inl, inr, suc, arith, length, take, Some, None}
use Rattle.std.proofs.lemmas.Bool.{cases_Bool, cond-true, cond-false, false_from_ne_true, eqb-true, eq-eqb}
use Rattle.bdb_base.proofs.OptionLemmas.{none_and_some, one_there}
use Rattle.bdb_tables.specs.Names.{Names, AreNames, path_of, number_of, with_name}
use Rattle.bdb_worlds.specs.Growth.{with_prefixes, AreLeast}
use Rattle.bdb_worlds.proofs.GrowLemmas.{length-take-is}

-- more prefixes come behind others
pub prefixes_split : (ns : Names) (path : List ℕ) (len : ℕ) (xs ys : List ℕ) → with_prefixes ns path len (xs ++ ys) ≡ with_prefixes (with_prefixes ns path len xs) path (len + length xs) ys
prefixes_split ns path len [] ys = let e : len ≡ len + 0 = omega arith in ap (λ k. with_prefixes ns path k ys) e
prefixes_split ns path len (x ∷ xs) ys =
    let e : suc len + length xs ≡ len + suc (length xs) = omega arith in
    prefixes_split (with_name ns x (take (suc len) path)) path (suc len) xs ys
    ∙ ap (λ k. with_prefixes (with_prefixes (with_name ns x (take (suc len) path)) path (suc len) xs) path k ys) e

-- the numbers of the prefixes in front were free
pub least_front : (ns : Names) (path : List ℕ) (len : ℕ) (xs ys : List ℕ) → AreLeast ns path len (xs ++ ys) → AreLeast ns path len xs
least_front ns path len [] ys l = tt
least_front ns path len (x ∷ xs) ys l = (l.0, least_front (with_name ns x (take (suc len) path)) path (suc len) xs ys l.1)

pub least_behind : (ns : Names) (path : List ℕ) (len : ℕ) (xs ys : List ℕ) → AreLeast ns path len (xs ++ ys) → AreLeast (with_prefixes ns path len xs) path (len + length xs) ys
least_behind ns path len [] ys l = let e : len ≡ len + 0 = omega arith in subst (λ k. AreLeast ns path k ys) e l
least_behind ns path len (x ∷ xs) ys l =
    let e : suc len + length xs ≡ len + suc (length xs) = omega arith in
    subst (λ k. AreLeast (with_prefixes (with_name ns x (take (suc len) path)) path (suc len) xs) path k ys) e
    (least_behind (with_name ns x (take (suc len) path)) path (suc len) xs ys l.1)

-- a number that stood for a path still does
pub still_named : (ns : Names) (path : List ℕ) (len : ℕ) (new : List ℕ) (m : ℕ) (v : List ℕ) → AreLeast ns path len new → path_of ns m ≡ Some v → path_of (with_prefixes ns path len new) m ≡ Some v
still_named ns path len [] m v l e = e
still_named ns path len (n ∷ new) m v l e =
    still_named (with_name ns n (take (suc len) path)) path (suc len) new m v l.1 (cond-false (nat_eq m n) (Some (take (suc len) path)) (path_of ns m) other ∙ e)
  where
    other : nat_eq m n ≡ false
    other = false_from_ne_true (nat_eq m n) (λ t. none_and_some v (path_of ns m) (ap (path_of ns) (eqb-true m n t) ∙ l.0.free) e)

-- a path no longer than those before had its number before
pub named_before : (ns : Names) (path : List ℕ) (len : ℕ) (new : List ℕ) (m : ℕ) (v : List ℕ) → len + length new ≤ length path → length v ≤ len
    → path_of (with_prefixes ns path len new) m ≡ Some v → path_of ns m ≡ Some v
named_before ns path len [] m v w s e = e
named_before ns path len (n ∷ new) m v w s e =
    let p = take (suc len) path in
    let l : length p ≡ suc len = length-take-is path (suc len) (omega arith) in
    let f : cond (nat_eq m n) (Some p) (path_of ns m) ≡ Some v = named_before (with_name ns n p) path (suc len) new m v (omega arith) (omega arith) e in
    elim (cases_Bool (nat_eq m n)) [
      | inl t ↦
          let same = ap length (one_there p v (Some p) refl (sym (cond-true (nat_eq m n) (Some p) (path_of ns m) t) ∙ f)) in
          absurd (omega arith)
      | inr o ↦ sym (cond-false (nat_eq m n) (Some p) (path_of ns m) o) ∙ f
    ]

-- one of the numbers, between those before and those behind
module _ (ns : Names) (path : List ℕ) (len : ℕ) (xs ys : List ℕ) (n : ℕ) (least : AreLeast ns path len (xs ++ n ∷ ys)) (whole : len + length (xs ++ n ∷ ys) ≤ length path) where
  abbrev pub front : Names
  front = with_prefixes ns path len xs

  -- the prefix that got the number
  abbrev pub next_path : List ℕ
  next_path = take (suc (len + length xs)) path

  abbrev pub every : Names
  every = with_prefixes ns path len (xs ++ n ∷ ys)

  length_split : (zs : List ℕ) → length (zs ++ n ∷ ys) ≡ length zs + suc (length ys)
  length_split [] = omega arith
  length_split (z ∷ zs) = let e = length_split zs in omega arith

  pub is_room : len + length xs + suc (length ys) ≤ length path
  is_room = let e = length_split xs in omega arith

  every_is : every ≡ with_prefixes front path (len + length xs) (n ∷ ys)
  every_is = prefixes_split ns path len xs (n ∷ ys)

  behind : AreLeast front path (len + length xs) (n ∷ ys)
  behind = least_behind ns path len xs (n ∷ ys) least

  pub front_free : path_of front n ≡ None
  front_free = behind.0.free

  pub next_length : length next_path ≡ suc (len + length xs)
  next_length = let r = is_room in length-take-is path (suc (len + length xs)) (omega arith)

  -- the number stands for its prefix in the end
  pub next_named : path_of every n ≡ Some next_path
  next_named = ap (λ (x : Names). path_of x n) every_is
      ∙ still_named (with_name front n next_path) path (suc (len + length xs)) ys n next_path behind.1 (cond-true (nat_eq n n) (Some next_path) (path_of front n) (eq-eqb n n refl))

  -- what is shorter than the prefix had its number before
  pub shorter_named : (m : ℕ) (v : List ℕ) → length v ≤ len + length xs → path_of every m ≡ Some v → path_of front m ≡ Some v
  shorter_named m v l e = let r = is_room in named_before front path (len + length xs) (n ∷ ys) m v (omega arith) l (ap (λ (x : Names). path_of x m) (sym every_is) ∙ e)

  -- the prefix had no number before
  pub next_is_new : AreNames every → (m : ℕ) → path_of ns m ≡ Some next_path → ⊥
  next_is_new names m e =
      let f : path_of front m ≡ Some next_path = still_named ns path len xs m next_path (least_front ns path len xs (n ∷ ys) least) e in
      let g : path_of every m ≡ Some next_path = ap (λ (x : Names). path_of x m) every_is ∙ still_named front path (len + length xs) (n ∷ ys) m next_path behind f in
      let same : m ≡ n = one_there m n (number_of every next_path) (names.named m next_path g) (names.named n next_path next_named) in
      none_and_some next_path (path_of front n) front_free (ap (path_of front) (sym same) ∙ f)
