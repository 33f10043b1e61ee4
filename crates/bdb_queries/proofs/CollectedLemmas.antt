-- How rows are collected.
use Rattle.std.proofs.Common.{◌≡◌, ◌∙◌, ℕ, ◌+◌, ◌<◌, ◌≤◌, false, nat_le, List, [], ◌∷◌, ◌++◌, refl, ap, sym, drop, length, get_or, None, Some, inl, inr, arith}
use Rattle.std.specs.declared.cmp.Ordering.{Ordering}
use Rattle.std.specs.declared.cmp.Ordering.TheVariants.{Less, Equal, Greater}
use Rattle.std.specs.List.{flat_map}
use Rattle.std.proofs.lemmas.Bool.{cases_Bool, cond-true, cond-false}
use Rattle.std.proofs.lemmas.Bool.Decides.{nat_tests}
use Rattle.std.proofs.lemmas.List.{drop_more}
use Rattle.bdb_base.specs.declared.kinds.Value.{Value}
use Rattle.bdb_base.specs.declared.tuple.Tuple.{Tuple}
use Rattle.bdb_base.specs.Order.{row_cmp}
use Rattle.bdb_base.specs.SortedSet.{put_at, put_in, put_all}
use Rattle.bdb_queries.specs.Collected.{Collected, has_room, with_row, with_rows}
use Rattle.bdb_queries.specs.Limits.{up_to}

pub with_rows_append : (f : Collected) (xs ys : List (List Value)) → with_rows f (xs ++ ys) ≡ with_rows (with_rows f xs) ys
with_rows_append f [] ys = refl
with_rows_append f (x ∷ xs) ys = with_rows_append (with_row f x) xs ys

pub with_rows_full : (f : Collected) (xs : List (List Value)) → has_room f ≡ false → with_rows f xs ≡ f
with_rows_full f [] e = refl
with_rows_full f (x ∷ xs) e =
    let same : with_row f x ≡ f = cond-false (has_room f) (record { rows = put_in row_cmp f.rows x; most = f.most }) f e in
    ap (λ g. with_rows g xs) same ∙ with_rows_full f xs e

-- after one more tuple of a pool the rows of those that are left still make the whole
pub after_turn : (F : Tuple → List (List Value)) (f f' : Collected) (xs : List Tuple) (i : ℕ) (x : Tuple) (whole : Collected)
    → i < length xs → x ≡ get_or xs i x → f' ≡ with_rows f (F x) → with_rows f (flat_map F (drop i xs)) ≡ whole → with_rows f' (flat_map F (drop (i + 1) xs)) ≡ whole
after_turn F f f' xs i x whole lt at next inv =
    ap (λ g. with_rows g (flat_map F (drop (i + 1) xs))) next
    ∙ sym (with_rows_append f (F x) (flat_map F (drop (i + 1) xs)))
    ∙ ap (λ y. with_rows f (F y ++ flat_map F (drop (i + 1) xs))) at
    ∙ ap (λ ys. with_rows f (flat_map F ys)) (sym (drop_more xs i x lt))
    ∙ inv

-- how many rows there may be stays the same
pub with_rows_most : (f : Collected) (rows : List (List Value)) → (with_rows f rows).most ≡ f.most
with_rows_most f [] = refl
with_rows_most f (row ∷ rows) = with_rows_most (with_row f row) rows ∙ one f row
  where
    one : (f : Collected) (row : List Value) → (with_row f row).most ≡ f.most
    one f row = elim (cases_Bool (has_room f)) [
      | inl k ↦ ap (λ g. g.most) (cond-true (has_room f) (record { rows = put_in row_cmp f.rows row; most = f.most }) f k)
      | inr k ↦ ap (λ g. g.most) (cond-false (has_room f) (record { rows = put_in row_cmp f.rows row; most = f.most }) f k)
    ]

-- ---- rows that are collected

put_length : (xs : List (List Value)) (x : List Value) → length xs ≤ length (put_in row_cmp xs x)
put_length [] x = omega arith
put_length (y ∷ ys) x = by_order (row_cmp y x) (put_length ys x)
  where
    by_order : (o : Ordering) → length ys ≤ length (put_in row_cmp ys x) → length (y ∷ ys) ≤ length (put_at o y ys x (put_in row_cmp ys x))
    by_order Less h = omega arith
    by_order Equal h = omega arith
    by_order Greater h = omega arith

all_length : (xs rows : List (List Value)) → length xs ≤ length (put_all row_cmp xs rows)
all_length xs [] = omega arith
all_length xs (row ∷ rows) =
    let a = put_length xs row in
    let b = all_length (put_in row_cmp xs row) rows in
    omega arith

too_many : (most : ℕ) (xs : List (List Value)) → nat_le (length xs) most ≡ false → up_to most xs ≡ None
too_many most xs h = cond-false (nat_le (length xs) most) (Some xs) None h

still_too_many : (most m n : ℕ) → nat_le m most ≡ false → m ≤ n → nat_le n most ≡ false
still_too_many most m n h k = grind (arith, nat_tests)

pub collected_rows : (most : ℕ) (xs rows : List (List Value)) → up_to most (with_rows (record { rows = xs; most = most }) rows).rows ≡ up_to most (put_all row_cmp xs rows)
collected_rows most xs [] = refl
collected_rows most xs (row ∷ rows) = elim (cases_Bool (nat_le (length xs) most)) [
  | inl k ↦
      ap (λ f. up_to most (with_rows f rows).rows) (cond-true (nat_le (length xs) most) (record { rows = put_in row_cmp xs row; most = most }) (record { rows = xs; most = most }) k)
      ∙ collected_rows most (put_in row_cmp xs row) rows
  | inr k ↦
      let start : Collected = record { rows = xs; most = most } in
      ap (λ f. up_to most f.rows) (with_rows_full start (row ∷ rows) k) ∙ too_many most xs k
      ∙ sym (too_many most (put_all row_cmp xs (row ∷ rows)) (still_too_many most (length xs) (length (put_all row_cmp xs (row ∷ rows))) k (all_length xs (row ∷ rows))))
]
