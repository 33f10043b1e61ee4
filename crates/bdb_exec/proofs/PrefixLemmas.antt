-- Values that are asked for, one column after the other.
use Rattle.std.proofs.Common.{◌≡◌, ◌∙◌, ℕ, zero, suc, ◌+◌, ◌-◌, ◌≤◌, ◌<◌, Bool, List, [], ◌∷◌, Option, Some, None, length, ap, sym, subst, arith}
use Rattle.bdb_base.specs.declared.kinds.Value.{Value}
use Rattle.bdb_base.specs.declared.tuple.Tuple.{Tuple}
use Rattle.bdb_plan.specs.declared.step.Step.{Step}
use Rattle.bdb_exec.specs.Keys.{value_behind, values_behind}
use Rattle.bdb_tables.specs.Prefixes.{HasPutValues, led_by}

module _ (slots : List (Option Tuple)) (item : ℕ) (behind : List Step) where
  -- no more values are asked for than there are columns
  pub few_asked : (n col : ℕ) → length (values_behind slots item behind n col) ≤ n
  few_asked zero col = omega arith
  few_asked (suc n) col = by (value_behind slots item behind col) (few_asked n (suc col))
    where
      by : (o : Option Value) → length (values_behind slots item behind n (suc col)) ≤ n → length (led_by o (values_behind slots item behind n (suc col))) ≤ suc n
      by None rest = omega arith
      by (Some v) rest = omega (arith, rest)

  -- at first all columns are left
  pub all_columns : (n : ℕ) → values_behind slots item behind (n - 0) 0 ≡ values_behind slots item behind n 0
  all_columns n = ap (λ k. values_behind slots item behind k 0) (all n)
    where
      all : (n : ℕ) → n - 0 ≡ n
      all n = omega arith

  -- where no column is left, nothing is asked for
  pub none_left : (n col : ℕ) → n ≤ col → values_behind slots item behind (n - col) col ≡ []
  none_left n col le = ap (λ k. values_behind slots item behind k col) (nothing n col le)
    where
      nothing : (n col : ℕ) → n ≤ col → n - col ≡ 0
      nothing n col le = omega (arith, le)

  -- what is asked for from a column on
  pub from_column : (n col : ℕ) (o : Option Value) → col < n → o ≡ value_behind slots item behind col
      → values_behind slots item behind (n - col) col ≡ led_by o (values_behind slots item behind (n - (col + 1)) (col + 1))
  from_column n col o lt e =
      ap (λ k. values_behind slots item behind k col) (one_more n col lt)
      ∙ ap (λ p. led_by p (values_behind slots item behind (n - (col + 1)) (suc col))) (sym e)
      ∙ ap (λ k. led_by o (values_behind slots item behind (n - (col + 1)) k)) (next col)
    where
      one_more : (n col : ℕ) → col < n → n - col ≡ suc (n - (col + 1))
      one_more n col lt = omega (arith, lt)

      next : (col : ℕ) → suc col ≡ col + 1
      next col = omega arith

  -- bytes that have this column's value and those behind it have all from it on
  pub put_from : (all : Bool) (now new : List ℕ) (n col : ℕ) (v : Value) → col < n → Some v ≡ value_behind slots item behind col
      → HasPutValues all now new (v ∷ values_behind slots item behind (n - (col + 1)) (col + 1))
      → HasPutValues all now new (values_behind slots item behind (n - col) col)
  put_from all now new n col v lt e h = subst (λ (vs : List Value). HasPutValues all now new vs) (sym (from_column n col (Some v) lt e)) h
