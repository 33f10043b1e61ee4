-- Each order is total, and answers Equal exactly where two things are equal.
use Rattle.std.proofs.Common.{◌≡◌, ◌∙◌, ℕ, Bool, ◌&&◌, nat_eq, List, length, refl, ap, sym, ◌↔◌, inl, inr, arith, eq-eqb}
use Rattle.std.specs.Bool.{Decides}
use Rattle.std.specs.declared.cmp.Ordering.{Ordering}
use Rattle.std.specs.declared.cmp.Ordering.TheVariants.{Less, Equal, Greater}
use Rattle.std.specs.Ordering.{nat_cmp, is_eq, ordering_then, ordering_reverse}
use Rattle.std.specs.Cmp.{IsTotalOrder}
use Rattle.std.specs.Cmp.Lexicographic.{slice_cmp, lists_ties, texts_ties}
use Rattle.std.proofs.lemmas.Bool.{cases_Bool, and_right}
use Rattle.std.proofs.lemmas.Bool.Decides.{nat_tests}
use Rattle.std.proofs.lemmas.Cmp.{then_total, on_total, lists_total, nat_cmp_total, int_cmp_total, nat_list_cmp_total, tied_itself}
use Rattle.bdb_base.specs.declared.kinds.Value.{Value}
use Rattle.bdb_base.specs.declared.kinds.Value.TheVariants.{Int, Text}
use Rattle.bdb_base.specs.declared.kinds.Sign.{Sign}
use Rattle.bdb_base.specs.declared.kinds.Sign.TheVariants.{Plus, Minus}
use Rattle.bdb_base.specs.declared.kinds.Stmt.{Stmt}
use Rattle.bdb_base.specs.declared.tuple.Tuple.{Tuple}
use Rattle.bdb_base.specs.Order.{value_cmp, row_cmp, tuple_cmp, path_cmp, sign_cmp, statement_cmp}
use Rattle.bdb_base.specs.Same.{same_path, same_value, same_values, same_tuple, same_sign, same_statement}
use Rattle.bdb_base.specs.SameLemmas.{same_path-Decides, same_value-Decides, same_values-Decides, same_tuple-Decides, same_statement-Decides}
use Rattle.bdb_base.specs.SortedSet.{IsExactOrder}

-- ---- totality

value_turned : (a b : Value) → value_cmp a b ≡ ordering_reverse (value_cmp b a)
value_turned (Int m) (Int n) = int_cmp_total.antisymm m n
value_turned (Int m) (Text b) = refl
value_turned (Text a) (Int n) = refl
value_turned (Text a) (Text b) = nat_list_cmp_total.antisymm a b

value_trans : (a b c : Value) → value_cmp a b ≡ Less → value_cmp b c ≡ Less → value_cmp a c ≡ Less
value_trans (Int m) (Int n) (Int k) h g = int_cmp_total.trans m n k h g
value_trans (Int m) (Int n) (Text c) h g = refl
value_trans (Int m) (Text b) (Int k) h g = cc
value_trans (Int m) (Text b) (Text c) h g = refl
value_trans (Text a) (Int n) (Int k) h g = cc
value_trans (Text a) (Int n) (Text c) h g = cc
value_trans (Text a) (Text b) (Int k) h g = cc
value_trans (Text a) (Text b) (Text c) h g = nat_list_cmp_total.trans a b c h g

value_alike : (a b c : Value) → value_cmp a b ≡ Equal → value_cmp a c ≡ value_cmp b c
value_alike (Int m) (Int n) (Int k) h = int_cmp_total.congr m n k h
value_alike (Int m) (Int n) (Text c) h = refl
value_alike (Int m) (Text b) c h = cc
value_alike (Text a) (Int n) c h = cc
value_alike (Text a) (Text b) (Int k) h = refl
value_alike (Text a) (Text b) (Text c) h = nat_list_cmp_total.congr a b c h

pub value_total : IsTotalOrder value_cmp
value_total = record { antisymm = value_turned; trans = value_trans; congr = value_alike }

sign_turned : (a b : Sign) → sign_cmp a b ≡ ordering_reverse (sign_cmp b a)
sign_turned Plus Plus = refl
sign_turned Plus Minus = refl
sign_turned Minus Plus = refl
sign_turned Minus Minus = refl

sign_trans : (a b c : Sign) → sign_cmp a b ≡ Less → sign_cmp b c ≡ Less → sign_cmp a c ≡ Less
sign_trans Plus Plus c h g = cc
sign_trans Plus Minus Plus h g = cc
sign_trans Plus Minus Minus h g = refl
sign_trans Minus Plus c h g = cc
sign_trans Minus Minus c h g = cc

sign_alike : (a b c : Sign) → sign_cmp a b ≡ Equal → sign_cmp a c ≡ sign_cmp b c
sign_alike Plus Plus c h = refl
sign_alike Plus Minus c h = cc
sign_alike Minus Plus c h = cc
sign_alike Minus Minus c h = refl

pub sign_total : IsTotalOrder sign_cmp
sign_total = record { antisymm = sign_turned; trans = sign_trans; congr = sign_alike }

pub row_total : IsTotalOrder row_cmp
row_total = lists_total value_total

pub tuple_total : IsTotalOrder tuple_cmp
tuple_total = then_total (on_total (λ (t : Tuple). t.rel) nat_cmp_total) (on_total (λ (t : Tuple). t.vals) row_total)

pub path_total : IsTotalOrder path_cmp
path_total = then_total (on_total (λ (w : List ℕ). length w) nat_cmp_total) nat_list_cmp_total

pub statement_total : IsTotalOrder statement_cmp
statement_total = then_total (on_total (λ (x : Stmt). x.path) path_total)
    (then_total (on_total (λ (x : Stmt). x.tuple) tuple_total) (on_total (λ (x : Stmt). x.sign) sign_total))

-- ---- Equal is the test of equality

pub is_eq-then : (p q : Ordering) → is_eq (ordering_then p q) ≡ (is_eq p && is_eq q)
is_eq-then Less q = refl
is_eq-then Equal q = refl
is_eq-then Greater q = refl

pub is_eq_nat_cmp : (m n : ℕ) → is_eq (nat_cmp m n) ≡ nat_eq m n
is_eq_nat_cmp m n = grind (arith, nat_tests)

pub is_eq_value_cmp : (a b : Value) → is_eq (value_cmp a b) ≡ same_value a b
is_eq_value_cmp (Int m) (Int n) = refl
is_eq_value_cmp (Int m) (Text b) = refl
is_eq_value_cmp (Text a) (Int n) = refl
is_eq_value_cmp (Text a) (Text b) = sym (texts_ties a b)

pub is_eq_row_cmp : (a b : List Value) → is_eq (row_cmp a b) ≡ same_values a b
is_eq_row_cmp a b = sym (lists_ties {E = same_value} value_cmp (λ x y. sym (is_eq_value_cmp x y)) a b)

pub is_eq_tuple_cmp : (a b : Tuple) → is_eq (tuple_cmp a b) ≡ same_tuple a b
is_eq_tuple_cmp a b = is_eq-then (nat_cmp a.rel b.rel) (row_cmp a.vals b.vals)
    ∙ ap (λ t. t && is_eq (row_cmp a.vals b.vals)) (is_eq_nat_cmp a.rel b.rel)
    ∙ ap (λ t. nat_eq a.rel b.rel && t) (is_eq_row_cmp a.vals b.vals)

pub is_eq_path_cmp : (a b : List ℕ) → is_eq (path_cmp a b) ≡ same_path a b
is_eq_path_cmp a b =
    let e : is_eq (path_cmp a b) ≡ (nat_eq (length a) (length b) && same_path a b) =
    is_eq-then (nat_cmp (length a) (length b)) (slice_cmp nat_cmp a b)
    ∙ ap (λ t. t && is_eq (slice_cmp nat_cmp a b)) (is_eq_nat_cmp (length a) (length b))
    ∙ ap (λ t. nat_eq (length a) (length b) && t) (sym (texts_ties a b)) in
    e ∙ elim (cases_Bool (same_path a b)) [
      | inl h ↦ ap (λ t. t && same_path a b) (eq-eqb (length a) (length b) (ap length ((same_path-Decides a b).0 h)))
      | inr h ↦ and_right (nat_eq (length a) (length b)) (same_path a b) h ∙ sym h
    ]

pub is_eq_sign_cmp : (a b : Sign) → is_eq (sign_cmp a b) ≡ same_sign a b
is_eq_sign_cmp Plus Plus = refl
is_eq_sign_cmp Plus Minus = refl
is_eq_sign_cmp Minus Plus = refl
is_eq_sign_cmp Minus Minus = refl

pub is_eq_statement_cmp : (a b : Stmt) → is_eq (statement_cmp a b) ≡ same_statement a b
is_eq_statement_cmp a b =
    let rest = ordering_then (tuple_cmp a.tuple b.tuple) (sign_cmp a.sign b.sign) in
    is_eq-then (path_cmp a.path b.path) rest
    ∙ ap (λ t. t && is_eq rest) (is_eq_path_cmp a.path b.path)
    ∙ ap (λ t. same_path a.path b.path && t) (is_eq-then (tuple_cmp a.tuple b.tuple) (sign_cmp a.sign b.sign)
    ∙ ap (λ t. t && is_eq (sign_cmp a.sign b.sign)) (is_eq_tuple_cmp a.tuple b.tuple)
    ∙ ap (λ t. same_tuple a.tuple b.tuple && t) (is_eq_sign_cmp a.sign b.sign))

-- ---- exactness

-- an order whose answer Equal is a test of equality is exact
exact_from_test : {X : Type 0} (R : X → X → Ordering) (same : X → X → Bool) → ((a b : X) → is_eq (R a b) ≡ same a b)
    → ((a b : X) → Decides (same a b) (a ≡ b)) → IsTotalOrder R → IsExactOrder R
exact_from_test R same is decides total = record { total = total; exact = λ a b e. (decides a b).0 (sym (is a b) ∙ ap is_eq e) }

pub value_exact : IsExactOrder value_cmp
value_exact = exact_from_test value_cmp same_value is_eq_value_cmp same_value-Decides value_total

pub row_exact : IsExactOrder row_cmp
row_exact = exact_from_test row_cmp same_values is_eq_row_cmp same_values-Decides row_total

pub tuple_exact : IsExactOrder tuple_cmp
tuple_exact = exact_from_test tuple_cmp same_tuple is_eq_tuple_cmp same_tuple-Decides tuple_total

pub path_exact : IsExactOrder path_cmp
path_exact = exact_from_test path_cmp same_path is_eq_path_cmp same_path-Decides path_total

pub statement_exact : IsExactOrder statement_cmp
statement_exact = exact_from_test statement_cmp same_statement is_eq_statement_cmp same_statement-Decides statement_total

-- ---- what an answer of an order says

-- an exact order answers Equal exactly where two things are equal
pub equal_exactly : {X : Type 0} (R : X → X → Ordering) → IsExactOrder R → (r : Ordering) (a b : X) → r ≡ R a b → (r ≡ Equal) ↔ (a ≡ b)
equal_exactly R o r a b h = ((λ e. o.exact a b (sym h ∙ e)), (λ e. h ∙ ap (λ c. R c b) e ∙ tied_itself o.total b))

pub value_same : (r : Ordering) (a b : Value) → r ≡ value_cmp a b → is_eq r ≡ same_value a b
value_same r a b h = ap is_eq h ∙ is_eq_value_cmp a b

pub tuple_same : (r : Ordering) (a b : Tuple) → r ≡ tuple_cmp a b → is_eq r ≡ same_tuple a b
tuple_same r a b h = ap is_eq h ∙ is_eq_tuple_cmp a b

pub path_same : (r : Ordering) (a b : List ℕ) → r ≡ path_cmp a b → is_eq r ≡ same_path a b
path_same r a b h = ap is_eq h ∙ is_eq_path_cmp a b

pub statement_same : (r : Ordering) (a b : Stmt) → r ≡ statement_cmp a b → is_eq r ≡ same_statement a b
statement_same r a b h = ap is_eq h ∙ is_eq_statement_cmp a b
