-- What comes of choosing a tuple from each pool.
use Rattle.std.proofs.Common.{◌≡◌, ◌∙◌, ℕ, ◌+◌, Bool, true, List, [], ◌∷◌, ◌++◌, Option, None, Some, inl, inr, refl, ap, sym, length, slice_set, arith, append_assoc, subst}
use Rattle.std.specs.List.{list_any}
use Rattle.std.proofs.lemmas.Bool.{false≢true, cases_Bool, cond-true, cond-false}
use Rattle.bdb_base.specs.declared.kinds.Cond.{Cond}
use Rattle.bdb_base.specs.declared.kinds.Value.{Value}
use Rattle.bdb_base.specs.declared.tuple.Tuple.{Tuple}
use Rattle.bdb_base.proofs.WorldRowsLemmas.{list_any-flat_map}
use Rattle.bdb_queries.proofs.FoundLemmas.{Found, found_with}
use Rattle.bdb_model.specs.Choosing.{chosen_rows, rows_with}
use Rattle.bdb_model.specs.Allowed.{may_all_hold}
use Rattle.bdb_model.proofs.SlotLemmas.{Below, below_append}

-- Slots come of others by a choice from each pool: where there is none they are as they were.
abbrev pub Chosen : List (Option (List Tuple)) → List (Option Tuple) → List (Option Tuple) → Type 0
Chosen [] xs ys = xs ≡ ys
Chosen (pool ∷ pools) [] ys = ⊥
Chosen (pool ∷ pools) (x ∷ xs) [] = ⊥
Chosen (None ∷ pools) (x ∷ xs) (y ∷ ys) = (x ≡ y) × Chosen pools xs ys
Chosen (Some pool ∷ pools) (x ∷ xs) (y ∷ ys) = ((t : Tuple) × (y ≡ Some t) × Found t pool) × Chosen pools xs ys

set_here : (pre : List (Option Tuple)) (x y : Option Tuple) (xs : List (Option Tuple)) → slice_set (pre ++ x ∷ xs) (length pre) y ≡ pre ++ y ∷ xs
set_here [] x y xs = refl
set_here (z ∷ pre) x y xs = ap (λ zs. z ∷ zs) (set_here pre x y xs)

pub set_at : (slots pre : List (Option Tuple)) (x y : Option Tuple) (xs : List (Option Tuple)) (at : ℕ) → at ≡ length pre → slots ≡ pre ++ x ∷ xs → slice_set slots at y ≡ (pre ++ y ∷ []) ++ xs
set_at slots pre x y xs at e d =
    ap (λ i. slice_set slots i y) e ∙ ap (λ zs. slice_set zs (length pre) y) d ∙ set_here pre x y xs ∙ sym (append_assoc pre (y ∷ []) xs)

length_more : (pre : List (Option Tuple)) (x : Option Tuple) (at : ℕ) → at ≡ length pre → at + 1 ≡ length (pre ++ x ∷ [])
length_more pre x at e = ap (λ n. n + 1) e ∙ sym (one_more pre x)
  where
    one_more : (pre : List (Option Tuple)) (x : Option Tuple) → length (pre ++ x ∷ []) ≡ length pre + 1
    one_more [] x = refl
    one_more (z ∷ pre) x = let k = one_more pre x in omega arith

-- rows of a tuple that comes of a pool are those of a choice that is allowed
rows_are_of : (conds : List Cond) (last : List (Option Tuple) → List (List Value)) (test : List Value → Bool) (at : ℕ) (pools : List (Option (List Tuple))) (slots : List (Option Tuple)) (t : Tuple)
    → list_any test (rows_with conds last at pools slots t) ≡ true → list_any test (chosen_rows conds last (at + 1) pools (slice_set slots at (Some t))) ≡ true
rows_are_of conds last test at pools slots t m = elim (cases_Bool (may_all_hold (slice_set slots at (Some t)) conds)) [
  | inl k ↦ ap (list_any test) (sym (cond-true (may_all_hold (slice_set slots at (Some t)) conds) (chosen_rows conds last (at + 1) pools (slice_set slots at (Some t))) [] k)) ∙ m
  | inr k ↦ absurd (false≢true (ap (list_any test) (sym (cond-false (may_all_hold (slice_set slots at (Some t)) conds) (chosen_rows conds last (at + 1) pools (slice_set slots at (Some t))) [] k)) ∙ m))
]

-- a row that is found comes of slots that are chosen
pub chosen_from_rows : (conds : List Cond) (last : List (Option Tuple) → List (List Value)) (test : List Value → Bool) (pools : List (Option (List Tuple))) (pre xs slots : List (Option Tuple)) (at : ℕ)
    → at ≡ length pre → slots ≡ pre ++ xs → length xs ≡ length pools → list_any test (chosen_rows conds last at pools slots) ≡ true
    → (ys : List (Option Tuple)) × Chosen pools xs ys × (list_any test (last (pre ++ ys)) ≡ true)
chosen_from_rows conds last test [] pre xs slots at e d l m = (xs, refl, ap (λ s. list_any test (last s)) (sym d) ∙ m)
chosen_from_rows conds last test (pool ∷ pools) pre [] slots at e d l m = absurd (omega arith)
chosen_from_rows conds last test (None ∷ pools) pre (x ∷ xs) slots at e d l m =
    let rest = chosen_from_rows conds last test pools (pre ++ x ∷ []) xs slots (at + 1) (length_more pre x at e) (d ∙ sym (append_assoc pre (x ∷ []) xs)) (omega arith) m in
    (x ∷ rest.0, (refl, rest.1), ap (λ s. list_any test (last s)) (sym (append_assoc pre (x ∷ []) rest.0)) ∙ rest.2)
chosen_from_rows conds last test (Some pool ∷ pools) pre (x ∷ xs) slots at e d l m =
    let one = found_with (λ t. list_any test (rows_with conds last at pools slots t)) pool (sym (list_any-flat_map test (rows_with conds last at pools slots) pool) ∙ m) in
    let t = one.0 in
    let rest = chosen_from_rows conds last test pools (pre ++ Some t ∷ []) xs (slice_set slots at (Some t)) (at + 1) (length_more pre (Some t) at e) (set_at slots pre x (Some t) xs at e d)
    (omega arith) (rows_are_of conds last test at pools slots t one.1) in
    (Some t ∷ rest.0, ((t, refl, one.2), rest.1), ap (λ s. list_any test (last s)) (sym (append_assoc pre (Some t ∷ []) rest.0)) ∙ rest.2)

-- a row that comes of slots that are chosen is found, where no choice on the way is known to fail
pub rows_from_chosen : (conds : List Cond) (last : List (Option Tuple) → List (List Value)) (test : List Value → Bool) (pools : List (Option (List Tuple))) (pre xs ys slots : List (Option Tuple)) (at : ℕ)
    → at ≡ length pre → slots ≡ pre ++ xs → Chosen pools xs ys → Below xs ys → ((zs : List (Option Tuple)) → Below zs (pre ++ ys) → may_all_hold zs conds ≡ true)
    → list_any test (last (pre ++ ys)) ≡ true → list_any test (chosen_rows conds last at pools slots) ≡ true
rows_from_chosen conds last test [] pre xs ys slots at e d c b may m = ap (λ s. list_any test (last s)) (d ∙ ap (λ s. pre ++ s) c) ∙ m
rows_from_chosen conds last test (pool ∷ pools) pre [] ys slots at e d c b may m = absurd c
rows_from_chosen conds last test (pool ∷ pools) pre (x ∷ xs) [] slots at e d c b may m = absurd b
rows_from_chosen conds last test (None ∷ pools) pre (x ∷ xs) (y ∷ ys) slots at e d c b may m =
    let whole : (pre ++ x ∷ []) ++ ys ≡ pre ++ y ∷ ys = append_assoc pre (x ∷ []) ys ∙ ap (λ z. pre ++ z ∷ ys) c.0 in
    rows_from_chosen conds last test pools (pre ++ x ∷ []) xs ys slots (at + 1) (length_more pre x at e) (d ∙ sym (append_assoc pre (x ∷ []) xs)) c.1 (below_rest x y xs ys b)
    (λ zs k. may zs (subst (Below zs) whole k)) (ap (λ s. list_any test (last s)) whole ∙ m)
  where
    below_rest : (x y : Option Tuple) (xs ys : List (Option Tuple)) → Below (x ∷ xs) (y ∷ ys) → Below xs ys
    below_rest None y xs ys b = b
    below_rest (Some t) y xs ys b = b.1
rows_from_chosen conds last test (Some pool ∷ pools) pre (x ∷ xs) (y ∷ ys) slots at e d c b may m =
    let t = c.0.0 in
    let whole : (pre ++ Some t ∷ []) ++ ys ≡ pre ++ y ∷ ys = append_assoc pre (Some t ∷ []) ys ∙ ap (λ z. pre ++ z ∷ ys) (sym c.0.1) in
    let next : slice_set slots at (Some t) ≡ (pre ++ Some t ∷ []) ++ xs = set_at slots pre x (Some t) xs at e d in
    let rest = rows_from_chosen conds last test pools (pre ++ Some t ∷ []) xs ys (slice_set slots at (Some t)) (at + 1) (length_more pre (Some t) at e) next c.1 (below_rest x y xs ys b)
    (λ zs k. may zs (subst (Below zs) whole k)) (ap (λ s. list_any test (last s)) whole ∙ m) in
    let allowed : may_all_hold (slice_set slots at (Some t)) conds ≡ true =
    may (slice_set slots at (Some t)) (subst (λ s. Below s (pre ++ y ∷ ys)) (sym next) (subst (Below ((pre ++ Some t ∷ []) ++ xs)) whole (below_append (pre ++ Some t ∷ []) xs ys (below_rest x y xs ys b)))) in
    list_any-flat_map test (rows_with conds last at pools slots) pool
    ∙ c.0.2 (λ u. list_any test (rows_with conds last at pools slots u))
    (ap (list_any test) (cond-true (may_all_hold (slice_set slots at (Some t)) conds) (chosen_rows conds last (at + 1) pools (slice_set slots at (Some t))) [] allowed) ∙ rest)
  where
    below_rest : (x y : Option Tuple) (xs ys : List (Option Tuple)) → Below (x ∷ xs) (y ∷ ys) → Below xs ys
    below_rest None y xs ys b = b
    below_rest (Some t) y xs ys b = b.1
