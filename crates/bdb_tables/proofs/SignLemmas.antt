-- What statements say of a tuple at a path, also with one statement more or less.
use Rattle.std.proofs.Common.{◌≡◌, ℕ, Bool, true, false, not, ◌&&◌, ◌||◌, List, [], ◌∷◌, Some, None, filter, refl, ap, sym, ◌∙◌, inl, inr}
use Rattle.std.specs.List.{list_any}
use Rattle.std.specs.Ordering.{is_eq}
use Rattle.std.proofs.lemmas.Bool.{cases_Bool, false≢true, false_from_ne_true, and_parts, and_from, or_cases, or_left, or_right}
use Rattle.std.proofs.lemmas.Map.Views.{any-filter_same}
use Rattle.bdb_base.specs.Bases.{with_statement, without_statement}
use Rattle.bdb_base.specs.Clash.{clash}
use Rattle.bdb_base.specs.Order.{statement_cmp}
use Rattle.bdb_base.specs.OrderLemmas.{statement_exact, is_eq_statement_cmp}
use Rattle.bdb_base.specs.Same.{same_path, same_tuple, same_sign}
use Rattle.bdb_base.specs.SameLemmas.{same_path-Decides, same_tuple-Decides, same_sign-Decides}
use Rattle.bdb_base.specs.Worlds.{explicit, IsConsistent}
use Rattle.bdb_base.specs.declared.kinds.Sign.{Sign}
use Rattle.bdb_base.specs.declared.kinds.Sign.TheVariants.{Plus, Minus}
use Rattle.bdb_base.specs.declared.kinds.Stmt.{Stmt}
use Rattle.bdb_base.specs.declared.tuple.Tuple.{Tuple}
use Rattle.bdb_base.proofs.ListLemmas.{filter_kept_one, filter_dropped_one}
use Rattle.bdb_base.proofs.SetLemmas.{is_eq-Equal, list_any-put_in}
use Rattle.bdb_tables.specs.Marks.{sign_by, explicit_sign}

-- ---- tests

-- what is found among some of a list is found in it
pub found_before : (p q : Stmt → Bool) (xs : List Stmt) → list_any p (filter q xs) ≡ true → list_any p xs ≡ true
found_before p q [] e = e
found_before p q (x ∷ xs) e = elim (cases_Bool (q x)) [
  | inl k ↦ elim (or_cases (p x) (list_any p (filter q xs)) (sym (ap (list_any p) (filter_kept_one q x xs k)) ∙ e)) [
    | inl a ↦ or_left (p x) (list_any p xs) a
    | inr a ↦ or_right (p x) (list_any p xs) (found_before p q xs a)
  ]
  | inr k ↦ or_right (p x) (list_any p xs) (found_before p q xs (sym (ap (list_any p) (filter_dropped_one q x xs k)) ∙ e))
]

-- what a test doesn't find in a statement, it finds as before once the statement is put in or taken out
pub put_unfelt : (p : Stmt → Bool) (xs : List Stmt) (x : Stmt) → p x ≡ false → list_any p (with_statement xs x) ≡ list_any p xs
put_unfelt p xs x none = list_any-put_in statement_exact p xs x ∙ ap (λ b. b || list_any p xs) none

pub drop_unfelt : (p : Stmt → Bool) (xs : List Stmt) (x : Stmt) → p x ≡ false → list_any p (without_statement xs x) ≡ list_any p xs
drop_unfelt p xs x none = any-filter_same p (λ y. not (is_eq (statement_cmp y x))) true
    (λ y e. ap not (false_from_ne_true (is_eq (statement_cmp y x)) (λ c.
    false≢true (sym none ∙ ap p (sym (statement_exact.exact y x (is_eq-Equal (statement_cmp y x) c))) ∙ e))))
    xs

-- ---- one sign

-- a sign is the only one where none that clashes with it is explicit
pub one_sign_by : (keys : ℕ → ℕ) (stmts : List Stmt) (w : List ℕ) (u : Tuple) (s : Sign) → ((r : Sign) → clash keys u s u r ≡ true → explicit stmts w u r ≡ false)
    → explicit stmts w u s ≡ true → explicit_sign stmts w u ≡ Some s
one_sign_by keys stmts w u Plus none e = ap (λ b. sign_by b (explicit stmts w u Minus)) e
one_sign_by keys stmts w u Minus none e =
    ap (λ b. sign_by b (explicit stmts w u Minus)) (none Plus ((same_tuple-Decides u u).1 refl)) ∙ ap (λ b. sign_by false b) e

-- where no statements of one path clash, a statement's sign is the only one
pub one_sign : (keys : ℕ → ℕ) (stmts : List Stmt) (w : List ℕ) (u : Tuple) (s : Sign) → IsConsistent keys stmts → explicit stmts w u s ≡ true → explicit_sign stmts w u ≡ Some s
one_sign keys stmts w u s c e = one_sign_by keys stmts w u s (λ r k. false_from_ne_true (explicit stmts w u r) (λ p. false≢true (sym (c w u u s r e p) ∙ k))) e

-- an explicit sign is that of a statement
pub sign_is_explicit : (stmts : List Stmt) (w : List ℕ) (u : Tuple) (s : Sign) → explicit_sign stmts w u ≡ Some s → explicit stmts w u s ≡ true
sign_is_explicit stmts w u s e = by (explicit stmts w u Plus) (explicit stmts w u Minus) refl refl s e
  where
    by : (p m : Bool) → explicit stmts w u Plus ≡ p → explicit stmts w u Minus ≡ m → (s : Sign) → sign_by (explicit stmts w u Plus) (explicit stmts w u Minus) ≡ Some s → explicit stmts w u s ≡ true
    by true m a b Plus e = a
    by true m a b Minus e = let f : sign_by (explicit stmts w u Plus) (explicit stmts w u Minus) ≡ Some Plus = ap (λ x. sign_by x (explicit stmts w u Minus)) a in absurd cc
    by false true a b Plus e = let f : sign_by (explicit stmts w u Plus) (explicit stmts w u Minus) ≡ Some Minus = ap (λ x. sign_by x (explicit stmts w u Minus)) a ∙ ap (λ x. sign_by false x) b in absurd cc
    by false true a b Minus e = b
    by false false a b s e = let f : sign_by (explicit stmts w u Plus) (explicit stmts w u Minus) ≡ None = ap (λ x. sign_by x (explicit stmts w u Minus)) a ∙ ap (λ x. sign_by false x) b in absurd cc

-- ---- other places

-- a statement tells nothing of another tuple, nor of this one at another path
no_sign : (x : Stmt) (v : List ℕ) (y : Tuple) (s : Sign) → (same_path v x.path && same_tuple y x.tuple) ≡ false → (same_path x.path v && (same_tuple x.tuple y && same_sign x.sign s)) ≡ false
no_sign x v y s out = false_from_ne_true (same_path x.path v && (same_tuple x.tuple y && same_sign x.sign s)) (λ e.
    let a = and_parts (same_path x.path v) (same_tuple x.tuple y && same_sign x.sign s) e in
    let b = and_parts (same_tuple x.tuple y) (same_sign x.sign s) a.1 in
    let p : v ≡ x.path = sym ((same_path-Decides x.path v).0 a.0) in
    let q : y ≡ x.tuple = sym ((same_tuple-Decides x.tuple y).0 b.0) in
    false≢true (sym out ∙ and_from (same_path v x.path) (same_tuple y x.tuple) ((same_path-Decides v x.path).1 p) ((same_tuple-Decides y x.tuple).1 q)))

abbrev at : List ℕ → Tuple → Sign → Stmt → Bool
at v y s z = same_path z.path v && (same_tuple z.tuple y && same_sign z.sign s)

-- statements with one more, or one less, say what they said of all but its tuple at its path
pub put_keeps_sign : (xs : List Stmt) (x : Stmt) (v : List ℕ) (y : Tuple) → (same_path v x.path && same_tuple y x.tuple) ≡ false → explicit_sign (with_statement xs x) v y ≡ explicit_sign xs v y
put_keeps_sign xs x v y out =
    ap (λ b. sign_by b (explicit (with_statement xs x) v y Minus)) (put_unfelt (at v y Plus) xs x (no_sign x v y Plus out))
    ∙ ap (λ b. sign_by (explicit xs v y Plus) b) (put_unfelt (at v y Minus) xs x (no_sign x v y Minus out))

pub drop_keeps_sign : (xs : List Stmt) (x : Stmt) (v : List ℕ) (y : Tuple) → (same_path v x.path && same_tuple y x.tuple) ≡ false → explicit_sign (without_statement xs x) v y ≡ explicit_sign xs v y
drop_keeps_sign xs x v y out =
    ap (λ b. sign_by b (explicit (without_statement xs x) v y Minus)) (drop_unfelt (at v y Plus) xs x (no_sign x v y Plus out))
    ∙ ap (λ b. sign_by (explicit xs v y Plus) b) (drop_unfelt (at v y Minus) xs x (no_sign x v y Minus out))

-- ---- its own place

put_is_explicit : (stmts : List Stmt) (x : Stmt) → explicit (with_statement stmts x) x.path x.tuple x.sign ≡ true
put_is_explicit stmts x =
    list_any-put_in statement_exact (at x.path x.tuple x.sign) stmts x ∙ or_left (at x.path x.tuple x.sign x) (explicit stmts x.path x.tuple x.sign)
    (and_from (same_path x.path x.path) (same_tuple x.tuple x.tuple && same_sign x.sign x.sign) ((same_path-Decides x.path x.path).1 refl)
    (and_from (same_tuple x.tuple x.tuple) (same_sign x.sign x.sign) ((same_tuple-Decides x.tuple x.tuple).1 refl) ((same_sign-Decides x.sign x.sign).1 refl)))

-- statements with one more say its sign of its tuple at its path
pub put_says_sign : (keys : ℕ → ℕ) (stmts : List Stmt) (x : Stmt) → IsConsistent keys (with_statement stmts x) → explicit_sign (with_statement stmts x) x.path x.tuple ≡ Some x.sign
put_says_sign keys stmts x c = one_sign keys (with_statement stmts x) x.path x.tuple x.sign c (put_is_explicit stmts x)

module _ (keys : ℕ → ℕ) (stmts : List Stmt) (x : Stmt) (c : IsConsistent keys stmts) (here : explicit stmts x.path x.tuple x.sign ≡ true) where
  gone : (s : Sign) → x.sign ≡ s → explicit (without_statement stmts x) x.path x.tuple s ≡ false
  gone s e = any-filter_same (at x.path x.tuple s) (λ y. not (is_eq (statement_cmp y x))) false
      (λ k f. ap not (is_eq_statement_cmp k x ∙ ap (λ r. same_path k.path x.path && (same_tuple k.tuple x.tuple && same_sign k.sign r)) e ∙ f)) stmts

  other : (s : Sign) → clash keys x.tuple s x.tuple x.sign ≡ true → explicit (without_statement stmts x) x.path x.tuple s ≡ false
  other s k = false_from_ne_true (explicit (without_statement stmts x) x.path x.tuple s) (λ e.
      false≢true (sym (c x.path x.tuple x.tuple s x.sign (found_before (at x.path x.tuple s) (λ y. not (is_eq (statement_cmp y x))) stmts e) here) ∙ k))

  neither : (r : Sign) → x.sign ≡ r → (explicit (without_statement stmts x) x.path x.tuple Plus ≡ false) × (explicit (without_statement stmts x) x.path x.tuple Minus ≡ false)
  neither Plus e = (gone Plus e, other Minus (ap (λ r. clash keys x.tuple Minus x.tuple r) e ∙ (same_tuple-Decides x.tuple x.tuple).1 refl))
  neither Minus e = (other Plus (ap (λ r. clash keys x.tuple Plus x.tuple r) e ∙ (same_tuple-Decides x.tuple x.tuple).1 refl), gone Minus e)

-- statements with one less say nothing of its tuple at its path
pub drop_says_none : (keys : ℕ → ℕ) (stmts : List Stmt) (x : Stmt) → IsConsistent keys stmts → explicit stmts x.path x.tuple x.sign ≡ true → explicit_sign (without_statement stmts x) x.path x.tuple ≡ None
drop_says_none keys stmts x c here =
    let n = neither keys stmts x c here x.sign refl in
    ap (λ b. sign_by b (explicit (without_statement stmts x) x.path x.tuple Minus)) n.0 ∙ ap (λ b. sign_by false b) n.1

-- a sign that is found by two tests passes its own
pub sign_holds : (plus minus : Bool) (s : Sign) → sign_by plus minus ≡ Some s → (s ≡ Plus → plus ≡ true) × (s ≡ Minus → minus ≡ true)
sign_holds true minus Plus e = (λ _. refl, λ k. absurd cc)
sign_holds true minus Minus e = absurd cc
sign_holds false true Plus e = absurd cc
sign_holds false true Minus e = (λ k. absurd cc, λ _. refl)
sign_holds false false s e = absurd cc
