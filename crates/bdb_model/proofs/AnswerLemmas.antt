-- The rows that are found are the answers.
use Rattle.std.proofs.Common.{◌≡◌, ◌∙◌, ℕ, suc, ◌+◌, Bool, true, false, ◌||◌, inl, inr, List, [], ◌∷◌, Option, None, Some, refl, ap, sym, length, map, arith}
use Rattle.std.specs.List.{list_any, slice_get}
use Rattle.std.specs.Ordering.{is_eq}
use Rattle.std.proofs.lemmas.Bool.{false≢true, cases_Bool, cond-true, cond-false}
use Rattle.bdb_base.specs.declared.kinds.Cond.{Cond}
use Rattle.bdb_base.specs.declared.kinds.Held.{Held}
use Rattle.bdb_base.specs.declared.kinds.Item.{Item}
use Rattle.bdb_base.specs.declared.kinds.Query.{Query}
use Rattle.bdb_base.specs.declared.kinds.Value.{Value}
use Rattle.bdb_base.specs.declared.tuple.Tuple.{Tuple}
use Rattle.bdb_base.specs.Bases.{Contents, IsValid}
use Rattle.bdb_base.specs.Order.{row_cmp}
use Rattle.bdb_base.specs.OrderLemmas.{row_exact}
use Rattle.bdb_base.specs.Queries.{active_domain, HasValues, answers_of, answers_over, option_list}
use Rattle.bdb_base.specs.Safety.{query_fits, IsSafe}
use Rattle.bdb_base.specs.SortedSet.{sorted_set}
use Rattle.bdb_base.proofs.SetLemmas.{set_is_ascending, set_keeps_members, is_eq_itself, loop_makes_set}
use Rattle.bdb_base.proofs.ListLemmas.{length_map}
use Rattle.bdb_queries.specs.QueryLaws.{IsHeldRow}
use Rattle.bdb_queries.proofs.AnswerLemmas.{row_of_option}
use Rattle.bdb_queries.proofs.DomainLemmas.{answers_are_what_holds, answers_need_no_domain}
use Rattle.bdb_model.specs.Answering.{last_rows, rows_of_tuples, rows_of_users, open_slots, all_rows}
use Rattle.bdb_model.specs.Choosing.{chosen_rows}
use Rattle.bdb_queries.specs.Collected.{with_rows}
use Rattle.bdb_queries.specs.Limits.{up_to}
use Rattle.bdb_model.specs.Pools.{item_world, user_pool, plus_pools, minus_pools}
use Rattle.bdb_queries.specs.Slots.{slot_at, must_all_hold, known_row}
use Rattle.bdb_model.specs.Sources.{AreSources}
use Rattle.bdb_model.proofs.ChainLemmas.{Comes, come_below, come_hold}
use Rattle.bdb_queries.proofs.CollectedLemmas.{collected_rows}
use Rattle.bdb_queries.proofs.HoldingLemmas.{items_fit, held_slots_of_row, held_row_of_slots}
use Rattle.bdb_model.proofs.PassLemmas.{Chosen, chosen_from_rows, rows_from_chosen}
use Rattle.bdb_model.proofs.PoolLemmas.{keys_of}
use Rattle.bdb_model.proofs.SlotLemmas.{below_then, below_may, below_path}
use Rattle.bdb_model.proofs.WholeLemmas.{users_part, given_part, parts_below, held_come}

-- ---- lengths

chosen_length : (pools : List (Option (List Tuple))) (xs ys : List (Option Tuple)) → Chosen pools xs ys → length ys ≡ length xs
chosen_length [] xs ys c = ap length (sym c)
chosen_length (pool ∷ pools) [] ys c = absurd c
chosen_length (pool ∷ pools) (x ∷ xs) [] c = absurd c
chosen_length (None ∷ pools) (x ∷ xs) (y ∷ ys) c = ap suc (chosen_length pools xs ys c.1)
chosen_length (Some pool ∷ pools) (x ∷ xs) (y ∷ ys) c = ap suc (chosen_length pools xs ys c.1)

plus_length : (f : Item → List Held) (items : List Item) → length (plus_pools items (map f items)) ≡ length items
plus_length f [] = refl
plus_length f (item ∷ items) = ap suc (plus_length f items)

minus_length : (f : Item → List Held) (b : Contents) (sources : List Cond) (slots : List (Option Tuple)) (at : ℕ) (items : List Item)
    → length (minus_pools b.catalog.rels sources slots at items (map f items)) ≡ length items
minus_length f b sources slots at [] = refl
minus_length f b sources slots at (item ∷ items) = ap suc (minus_length f b sources slots (at + 1) items)

-- ---- each row that is found is one of slots that hold

abbrev is_row : List Value → List Value → Bool
is_row row other = is_eq (row_cmp other row)

last_row : (q : Query) (slots : List (Option Tuple)) (row : List Value) → list_any (is_row row) (last_rows q slots) ≡ true → (must_all_hold slots q.conds ≡ true) × (known_row slots q.take ≡ Some row)
last_row q slots row m = elim (cases_Bool (must_all_hold slots q.conds)) [
  | inl k ↦ (k, row_of_option (known_row slots q.take) row (ap (list_any (is_row row)) (sym (cond-true (must_all_hold slots q.conds) (option_list (known_row slots q.take)) [] k)) ∙ m))
  | inr k ↦ absurd (false≢true (ap (list_any (is_row row)) (sym (cond-false (must_all_hold slots q.conds) (option_list (known_row slots q.take)) [] k)) ∙ m))
]

pub found_is_held : (b : Contents) (q : Query) (sources : List Cond) → IsValid b.catalog b.stmts → query_fits b.catalog q ≡ true → (row : List Value)
    → list_any (is_row row) (all_rows b q sources) ≡ true → IsHeldRow b q row
found_is_held b q sources valid fits row m =
    let items = q.items in
    let first = chosen_from_rows q.conds (rows_of_users b q sources) (is_row row) (map (user_pool b.catalog.users) items) [] (open_slots items) (open_slots items) 0 refl refl
    (length_map (λ item. None) items ∙ sym (length_map (user_pool b.catalog.users) items)) m in
    let xs = first.0 in
    let world = item_world (keys_of b) b.stmts xs in
    let long = chosen_length (map (user_pool b.catalog.users) items) (open_slots items) xs first.1 ∙ length_map (λ item. None) items in
    let second = chosen_from_rows q.conds (rows_of_tuples b.catalog.rels q sources (map world items)) (is_row row) (plus_pools items (map world items)) [] xs xs 0 refl refl
    (long ∙ sym (plus_length world items)) first.2 in
    let ys = second.0 in
    let third = chosen_from_rows q.conds (last_rows q) (is_row row) (minus_pools b.catalog.rels sources ys 0 items (map world items)) [] ys ys 0 refl refl
    (chosen_length (plus_pools items (map world items)) xs ys second.1 ∙ long ∙ sym (minus_length world b sources ys 0 items)) second.2 in
    let zs = third.0 in
    let come : Comes b sources xs ys 0 items xs ys zs = record { by_users = first.1; by_plus = second.1; by_minus = third.1 } in
    let below = come_below b sources xs ys 0 items xs ys zs come in
    let last = last_row q zs row third.2 in
    held_row_of_slots b q row (items_fit b q fits) zs (record {
      items = come_hold b valid.stmts sources xs ys zs (below_path xs zs (below_then xs ys zs below.0 below.1)) 0 items xs ys zs come;
      conds = last.0;
      gives = last.1;
    })

-- ---- each row of slots that hold is found

last_has : (q : Query) (slots : List (Option Tuple)) (row : List Value) → must_all_hold slots q.conds ≡ true → known_row slots q.take ≡ Some row → list_any (is_row row) (last_rows q slots) ≡ true
last_has q slots row h e =
    ap (list_any (is_row row)) (cond-true (must_all_hold slots q.conds) (option_list (known_row slots q.take)) [] h)
    ∙ ap (λ o. list_any (is_row row) (option_list o)) e ∙ ap (λ t. t || false) (is_eq_itself row_exact row)

pub held_is_found : (b : Contents) (q : Query) (sources : List Cond) → IsValid b.catalog b.stmts → query_fits b.catalog q ≡ true → IsSafe b.catalog.rels q → AreSources q sources → (row : List Value)
    → IsHeldRow b q row → list_any (is_row row) (all_rows b q sources) ≡ true
held_is_found b q sources valid fits safe are row h =
    let items = q.items in
    let held = held_slots_of_row b q row (items_fit b q fits) h in
    let zs = held.0 in
    let a = held.1 in
    let xs = users_part items zs in
    let ys = given_part items zs in
    let world = item_world (keys_of b) b.stmts xs in
    let below = parts_below b zs items zs a.items in
    let come = held_come b q sources zs (record { relations = valid.catalog.rels_valid; safe = safe; are = are; conds = a.conds }) 0 items zs (items_fit b q fits)
    (λ k. ap (slice_get items) (from_zero k)) (λ k. ap (slot_at zs) (from_zero k)) a.items in
    let last = last_has q zs row a.conds a.gives in
    let third : list_any (is_row row) (rows_of_tuples b.catalog.rels q sources (map world items) ys) ≡ true =
    rows_from_chosen q.conds (last_rows q) (is_row row) (minus_pools b.catalog.rels sources ys 0 items (map world items)) [] ys zs ys 0 refl refl come.by_minus below.given
    (λ s k. below_may s zs k q.conds a.conds) last in
    let second : list_any (is_row row) (rows_of_users b q sources xs) ≡ true =
    rows_from_chosen q.conds (rows_of_tuples b.catalog.rels q sources (map world items)) (is_row row) (plus_pools items (map world items)) [] xs ys xs 0 refl refl come.by_plus below.users
    (λ s k. below_may s zs (below_then s ys zs k below.given) q.conds a.conds) third in
    rows_from_chosen q.conds (rows_of_users b q sources) (is_row row) (map (user_pool b.catalog.users) items) [] (open_slots items) xs (open_slots items) 0 refl refl come.by_users below.opened
    (λ s k. below_may s zs (below_then s xs zs k (below_then xs ys zs below.users below.given)) q.conds a.conds) second
  where
    from_zero : (k : ℕ) → k ≡ 0 + k
    from_zero k = omega arith

-- ---- the answers

pub rows_are_answers : (b : Contents) (q : Query) (sources : List Cond) → IsValid b.catalog b.stmts → query_fits b.catalog q ≡ true → IsSafe b.catalog.rels q → AreSources q sources
    → sorted_set row_cmp (all_rows b q sources) ≡ answers_of b q
rows_are_answers b q sources valid fits safe are = answers_are_what_holds b q safe (sorted_set row_cmp (all_rows b q sources)) (set_is_ascending row_exact (all_rows b q sources))
    (λ row m. found_is_held b q sources valid fits row (sym (set_keeps_members row_exact (all_rows b q sources) row) ∙ m))
    (λ row h. set_keeps_members row_exact (all_rows b q sources) row ∙ held_is_found b q sources valid fits safe are row h)

-- the rows that are collected are the answers
pub collected_answers : (b : Contents) (q : Query) (sources : List Cond) (most : ℕ) → IsValid b.catalog b.stmts → query_fits b.catalog q ≡ true → IsSafe b.catalog.rels q → AreSources q sources
    → up_to most (with_rows (record { rows = []; most = most }) (all_rows b q sources)).rows ≡ up_to most (answers_of b q)
collected_answers b q sources most valid fits safe are =
    collected_rows most [] (all_rows b q sources) ∙ ap (up_to most) (loop_makes_set row_exact (all_rows b q sources) ∙ rows_are_answers b q sources valid fits safe are)

pub over_domain : (b : Contents) (q : Query) (most : ℕ) (rows : Option (List (List Value))) → IsSafe b.catalog.rels q → rows ≡ up_to most (answers_of b q)
    → (dom : List Value) → HasValues dom (active_domain b q) → rows ≡ up_to most (answers_over b dom q)
over_domain b q most rows safe e dom more = e ∙ ap (up_to most) (sym (answers_need_no_domain b dom q safe more))

-- all rows, from the parts that they are made of
pub all_rows_of : (b : Contents) (q : Query) (sources : List Cond) (conds more : List Cond) (pools : List (Option (List Tuple))) (slots : List (Option Tuple))
    → conds ≡ q.conds → more ≡ sources → pools ≡ map (user_pool b.catalog.users) q.items → slots ≡ open_slots q.items
    → chosen_rows conds (rows_of_users b q more) 0 pools slots ≡ all_rows b q sources
all_rows_of b q sources conds more pools slots c m p s =
    ap (λ x. chosen_rows x (rows_of_users b q more) 0 pools slots) c
    ∙ ap (λ x. chosen_rows q.conds (rows_of_users b q x) 0 pools slots) m
    ∙ ap (λ x. chosen_rows q.conds (rows_of_users b q sources) 0 x slots) p
    ∙ ap (λ x. chosen_rows q.conds (rows_of_users b q sources) 0 (map (user_pool b.catalog.users) q.items) x) s
