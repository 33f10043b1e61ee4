-- How many statements, tuples and worlds there are without a statement.
use Rattle.std.proofs.Common.{◌≡◌, ◌∙◌, ℕ, suc, ◌+◌, ◌-◌, ◌≤◌, ◌<◌, true, false, not, ◌&&◌, ◌||◌, cond, List, length, take, ap, sym, inl, inr, arith}
use Rattle.std.specs.Ordering.{is_eq}
use Rattle.std.proofs.lemmas.Bool.{cases_Bool}
use Rattle.bdb_base.specs.Bases.{has_tuple, stands, tuple_count, with_statement, without_statement, world_count}
use Rattle.bdb_base.specs.Order.{statement_cmp}
use Rattle.bdb_base.specs.OrderLemmas.{statement_exact}
use Rattle.bdb_base.specs.Same.{same_tuple}
use Rattle.bdb_base.specs.SortedSet.{ascending, is_member}
use Rattle.bdb_base.specs.States.{is_state, new_states}
use Rattle.bdb_base.specs.declared.kinds.Stmt.{Stmt}
use Rattle.bdb_base.proofs.BaseLemmas.{length-put_in, put_counts_tuple}
use Rattle.bdb_base.proofs.ClashLemmas.{same_tuple_turned}
use Rattle.bdb_base.proofs.SetLemmas.{is_eq-Equal, is_eq_itself, members_make_set, put_adds_member, put_keeps_order, take_drops_member, take_keeps_order}
use Rattle.bdb_base.proofs.ListLemmas.{list_any_same}
use Rattle.bdb_paths.proofs.StateLemmas.{put_counts_worlds}
use Rattle.bdb_update.specs.Differing.{has_told}
use Rattle.bdb_update.proofs.MissingLemmas.{missing_behind}

-- a statement taken out and put back
pub put_back : (stmts : List Stmt) (x : Stmt) → ascending statement_cmp stmts ≡ true → stands stmts x ≡ true → with_statement (without_statement stmts x) x ≡ stmts
put_back stmts x sorted there =
    members_make_set statement_exact (with_statement less x) stmts (put_keeps_order statement_exact less x (take_keeps_order statement_exact stmts x sorted)) sorted
    (λ z. put_adds_member statement_exact less x z ∙ ap (λ b. is_eq (statement_cmp x z) || b) (take_drops_member statement_exact stmts x z) ∙ either z)
  where
    less : List Stmt
    less = without_statement stmts x

    either : (z : Stmt) → (is_eq (statement_cmp x z) || (not (is_eq (statement_cmp x z)) && is_member statement_cmp stmts z)) ≡ is_member statement_cmp stmts z
    either z = elim (cases_Bool (is_eq (statement_cmp x z))) [
      | inl e ↦
          let same : x ≡ z = statement_exact.exact x z (is_eq-Equal (statement_cmp x z) e) in
          ap (λ b. b || (not b && is_member statement_cmp stmts z)) e ∙ sym (ap (is_member statement_cmp stmts) (sym same) ∙ there)
      | inr e ↦ ap (λ b. b || (not b && is_member statement_cmp stmts z)) e
    ]

module _ (stmts : List Stmt) (x : Stmt) (sorted : ascending statement_cmp stmts ≡ true) (there : stands stmts x ≡ true) where
  abbrev less : List Stmt
  less = without_statement stmts x

  none_left : is_member statement_cmp less x ≡ false
  none_left = take_drops_member statement_exact stmts x x ∙ ap (λ b. not b && is_member statement_cmp stmts x) (is_eq_itself statement_exact x)

  pub one_statement_less : length stmts ≡ suc (length less)
  one_statement_less =
      let e : length stmts ≡ 1 + length less =
      sym (ap length (put_back stmts x sorted there)) ∙ length-put_in statement_exact less x (take_keeps_order statement_exact stmts x sorted)
      ∙ ap (λ b. cond b 0 1 + length less) none_left in
      omega arith

  pub tuples_less : tuple_count stmts ≡ tuple_count less + cond (has_told less x.tuple) 0 1
  tuples_less =
      let e = put_counts_tuple less x in
      let told : has_tuple less x.tuple ≡ has_told less x.tuple = list_any_same (λ z. same_tuple x.tuple z.tuple) (λ z. same_tuple z.tuple x.tuple) (λ z. same_tuple_turned x.tuple z.tuple) less in
      sym (ap tuple_count (put_back stmts x sorted there)) ∙ turned (cond (has_tuple less x.tuple) 0 1) (tuple_count less) e ∙ ap (λ b. tuple_count less + cond b 0 1) told
    where
      turned : (m n : ℕ) {k : ℕ} → k ≡ m + n → k ≡ n + m
      turned m n e = omega arith

  pub worlds_less : (left : ℕ) → left ≤ length x.path → ((j : ℕ) → j ≤ left → is_state less (take j x.path) ≡ true)
      → ((j : ℕ) → left < j → j ≤ length x.path → is_state less (take j x.path) ≡ false) → world_count stmts ≡ world_count less + (length x.path - left)
  worlds_less left within front behind =
      let e = put_counts_worlds less x in
      let f : length (new_states less x.path) ≡ length x.path - left = missing_behind (is_state less) x.path left within front behind in
      sym (ap world_count (put_back stmts x sorted there)) ∙ turned (length (new_states less x.path)) (world_count less) e ∙ ap (λ n. world_count less + n) f
    where
      turned : (m n : ℕ) {k : ℕ} → k ≡ m + n → k ≡ n + m
      turned m n e = omega arith
