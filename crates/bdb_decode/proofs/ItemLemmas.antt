-- Looking an item up among items in the order of their numbers.
use Rattle.std.proofs.Common.{◌≡◌, ◌∙◌, ℕ, zero, suc, true, false, List, [], ◌∷◌, map, get_or, slice_get, Some, None, refl, sym, arith}
use Rattle.std.specs.List.{list_all}
use Rattle.std.specs.Ordering.{nat_cmp, is_eq, is_lt, eq_by_cmp}
use Rattle.std.proofs.lemmas.Bool.{and_parts, and_from, or_parts, cond-true, cond-false}
use Rattle.std.proofs.lemmas.Bool.Decides.{nat_tests}
use Rattle.std.proofs.lemmas.List.Folds.{list_all-map}
use Rattle.bdb_base.specs.SortedSet.{ascending, is_member}
use Rattle.bdb_graph.proofs.NumberLemmas.{all_at}
use Rattle.bdb_decode.specs.Items.{item_of, number_cmp}

equal : (m n : ℕ) → m ≡ n → is_eq (nat_cmp n m) ≡ true
equal m n e = grind (arith, nat_tests)

less_differs : (m n : ℕ) → is_lt (nat_cmp m n) ≡ true → is_eq (nat_cmp n m) ≡ false
less_differs m n e = grind (arith, nat_tests)

equal_turned : (m n : ℕ) → is_eq (nat_cmp m n) ≡ is_eq (nat_cmp n m)
equal_turned m n = grind (arith, nat_tests)

module _ {X : Type 0} where
  abbrev number : ℕ × X → ℕ
  number e = e.0

  -- items in the order of their numbers have numbers in order
  pub numbers_ascend : (items : List (ℕ × X)) → ascending number_cmp items ≡ true → ascending nat_cmp (map number items) ≡ true
  numbers_ascend [] h = refl
  numbers_ascend (x ∷ xs) h =
      let k = and_parts (list_all (λ (y : ℕ × X). is_lt (nat_cmp x.0 y.0)) xs) (ascending number_cmp xs) h in
      and_from (list_all (λ n. is_lt (nat_cmp x.0 n)) (map number xs)) (ascending nat_cmp (map number xs)) (list_all-map (λ n. is_lt (nat_cmp x.0 n)) number xs ∙ k.0) (numbers_ascend xs k.1)

  pub item_found : (items : List (ℕ × X)) (at n : ℕ) (other : ℕ × X) → ascending nat_cmp (map number items) ≡ true → slice_get (map number items) at ≡ Some n → Some (get_or items at other).1 ≡ item_of items n
  item_found [] at n other a e = absurd cc
  item_found (y ∷ ys) zero n other a e = let s : y.0 ≡ n = cc in sym (cond-true (eq_by_cmp nat_cmp n y.0) (Some y.1) (item_of ys n) (equal y.0 n s))
  item_found (y ∷ ys) (suc at) n other a e =
      let k = and_parts (list_all (λ m. is_lt (nat_cmp y.0 m)) (map number ys)) (ascending nat_cmp (map number ys)) a in
      let less = all_at (λ m. is_lt (nat_cmp y.0 m)) (map number ys) at n k.0 e in
      item_found ys at n other k.1 e ∙ sym (cond-false (eq_by_cmp nat_cmp n y.0) (Some y.1) (item_of ys n) (less_differs y.0 n less))

  pub item_missing : (items : List (ℕ × X)) (n : ℕ) → is_member nat_cmp (map number items) n ≡ false → None ≡ item_of items n
  item_missing [] n e = refl
  item_missing (x ∷ xs) n e =
      let k = or_parts (is_eq (nat_cmp x.0 n)) (is_member nat_cmp (map number xs) n) e in
      item_missing xs n k.1 ∙ sym (cond-false (eq_by_cmp nat_cmp n x.0) (Some x.1) (item_of xs n) (equal_turned n x.0 ∙ k.0))
