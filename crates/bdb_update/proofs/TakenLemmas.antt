-- The statements that pass a test: they stand, each once, and without them the others are left.
use Rattle.std.proofs.Common.{◌≡◌, ◌∙◌, Bool, true, false, not, ◌&&◌, List, [], ◌∷◌, filter, refl, ap, sym}
use Rattle.std.specs.List.{list_all}
use Rattle.std.specs.Ordering.{is_eq, is_lt}
use Rattle.std.proofs.lemmas.Bool.{and_parts, and_from, or_left, or_right, cond-false}
use Rattle.bdb_base.specs.Bases.{stands}
use Rattle.bdb_base.specs.Order.{statement_cmp}
use Rattle.bdb_base.specs.OrderLemmas.{statement_exact}
use Rattle.bdb_base.specs.SortedSet.{ascending}
use Rattle.bdb_base.specs.declared.kinds.Stmt.{Stmt}
use Rattle.bdb_base.specs.Changes.{without_statements}
use Rattle.bdb_base.proofs.ListLemmas.{list_all_weaker, list_all-filter}
use Rattle.bdb_base.proofs.SetLemmas.{absent_above, filter_keeps_order, is_eq_itself, members_make_set}
use Rattle.bdb_base.proofs.UserLemmas.{member-filter}
use Rattle.bdb_base.proofs.UpdateLemmas.{without_keeps_order, stands_without}
use Rattle.bdb_update.specs.Calls.{none_comes_again}

-- ---- they stand, each once

stands_all : (xs : List Stmt) → list_all (stands xs) xs ≡ true
stands_all [] = refl
stands_all (x ∷ xs) =
    and_from (stands (x ∷ xs) x) (list_all (stands (x ∷ xs)) xs) (or_left (is_eq (statement_cmp x x)) (stands xs x) (is_eq_itself statement_exact x))
    (list_all_weaker (stands xs) (stands (x ∷ xs)) (λ y e. or_right (is_eq (statement_cmp x y)) (stands xs y) e) xs (stands_all xs))

ascending_apart : (xs : List Stmt) → ascending statement_cmp xs ≡ true → none_comes_again xs ≡ true
ascending_apart [] up = refl
ascending_apart (x ∷ xs) up =
    let k = and_parts (list_all (λ y. is_lt (statement_cmp x y)) xs) (ascending statement_cmp xs) up in
    cond-false (stands xs x) false (none_comes_again xs) (absent_above statement_exact x xs k.0) ∙ ascending_apart xs k.1

pub taken_stand : (q : Stmt → Bool) (stmts : List Stmt) → list_all (stands stmts) (filter q stmts) ≡ true
taken_stand q stmts = list_all-filter (stands stmts) q stmts (stands_all stmts)

pub taken_apart : (q : Stmt → Bool) (stmts : List Stmt) → ascending statement_cmp stmts ≡ true → none_comes_again (filter q stmts) ≡ true
taken_apart q stmts up = ascending_apart (filter q stmts) (filter_keeps_order statement_exact q stmts up)

-- ---- the others are left

pub others_are_left : (q : Stmt → Bool) (stmts : List Stmt) → ascending statement_cmp stmts ≡ true → without_statements stmts (filter q stmts) ≡ filter (λ x. not (q x)) stmts
others_are_left q stmts up =
    members_make_set statement_exact (without_statements stmts (filter q stmts)) (filter (λ x. not (q x)) stmts)
    (without_keeps_order stmts (filter q stmts) up) (filter_keeps_order statement_exact (λ x. not (q x)) stmts up)
    (λ z. stands_without stmts (filter q stmts) z ∙ ap (λ b. not b && stands stmts z) (member-filter statement_exact q stmts z) ∙ once (stands stmts z) (q z) ∙ sym (member-filter statement_exact (λ x. not (q x)) stmts z))
  where
    once : (a b : Bool) → (not (a && b) && a) ≡ (a && not b)
    once true true = refl
    once true false = refl
    once false b = refl
