-- The list of answers has the answers, and is the only list that does.
use Rattle.std.proofs.Common.{◌≡◌, ◌∙◌, ℕ, ◌+◌, ◌<◌, ◌≤◌, Bool, true, false, ◌&&◌, nat_eq, List, [], ◌∷◌, length, inl, inr, ap, sym, suc, None, Some, Option, filter, map, arith}
use Rattle.std.specs.List.{list_any, list_all, slice_get, flat_map}
use Rattle.std.specs.Ordering.{is_eq}
use Rattle.std.proofs.lemmas.Bool.{false≢true, cases_eq, or_cases, or_left, or_right, and_parts, and_from, eqb-true}
use Rattle.bdb_base.specs.declared.kinds.ColDef.{ColDef}
use Rattle.bdb_base.specs.declared.kinds.Item.{Item}
use Rattle.bdb_base.specs.declared.kinds.Item.TheVariants.{Users, Rel}
use Rattle.bdb_base.specs.declared.kinds.Query.{Query}
use Rattle.bdb_base.specs.declared.kinds.UserSlot.{UserSlot}
use Rattle.bdb_base.specs.declared.kinds.Value.{Value}
use Rattle.bdb_base.specs.Bases.{Contents, is_user, fits_kind, fits_columns, fits_relation}
use Rattle.bdb_base.specs.Order.{row_cmp}
use Rattle.bdb_base.specs.OrderLemmas.{row_exact}
use Rattle.bdb_base.specs.Queries.{Choice, ChosenUser, ChosenTuple, chosen_row, chosen_path, cond_holds, path_believes, item_holds, items_hold, holds_in, in_domain, choice_within, is_true_assignment, numbers_from, user_numbers, option_list, columns_at, rows_over, choices_over, assignments_over, answers_over, IsAnswer}
use Rattle.bdb_base.specs.Same.{same_value}
use Rattle.bdb_base.specs.SameLemmas.{same_value-Decides}
use Rattle.bdb_base.specs.SortedSet.{is_member}
use Rattle.bdb_base.proofs.SetLemmas.{is_eq-Equal, is_eq_itself, members_make_set, set_is_ascending, set_keeps_members}
use Rattle.bdb_base.proofs.UserLemmas.{user_above, user_within}
use Rattle.bdb_base.proofs.WorldLemmas.{list_any_weaker, found_by}
use Rattle.bdb_base.proofs.WorldRowsLemmas.{list_any-flat_map}
use Rattle.bdb_base.proofs.BoolLemmas.{same_tests}
use Rattle.bdb_base.proofs.FindLemmas.{list_any-filter}
use Rattle.bdb_base.proofs.BaseLemmas.{fits_its_columns}
use Rattle.bdb_queries.specs.QueryLaws.{AnswersAreTheAnswers, AnswersAreOneList}
use Rattle.bdb_queries.proofs.FoundLemmas.{Found, found_first, found-map, found-flat_map, found-filter}

-- ---- all that can be chosen is among the choices

pub found_in_domain : (dom : List Value) (v : Value) → in_domain dom v ≡ true → Found v dom
found_in_domain dom v h p e = list_any_weaker (same_value v) p (λ w k. ap p (sym ((same_value-Decides v w).0 k)) ∙ e) dom h

pub found_number : (n : ℕ) (users : List UserSlot) (uid : ℕ) → n ≤ uid → uid < n + length users → Found uid (numbers_from n users)
found_number n [] uid l h p e = absurd (omega arith)
found_number n (user ∷ users) uid l h p e = elim (cases_eq n uid) [
  | inl k ↦ or_left (p n) (list_any p (numbers_from (suc n) users)) (ap p k ∙ e)
  | inr d ↦ or_right (p n) (list_any p (numbers_from (suc n) users)) (found_number (suc n) users uid (omega arith) (omega arith) p e)
]

-- a user is among all users
pub found_user : (users : List UserSlot) (uid : ℕ) → is_user users uid ≡ true → Found uid (user_numbers users)
found_user users uid h =
    let low = user_above users uid h in
    let high = user_within users uid h in
    found-filter (is_user users) (numbers_from 1 users) uid (found_number 1 users uid (omega arith) (omega arith)) h

pub found_row : (dom : List Value) (cols : List ColDef) (vals : List Value) → fits_columns cols vals ≡ true → list_all (in_domain dom) vals ≡ true → Found vals (rows_over dom cols)
found_row dom [] [] f h = found_first [] []
found_row dom [] (v ∷ vs) f h = absurd (false≢true f)
found_row dom (c ∷ cs) [] f h = absurd (false≢true f)
found_row dom (c ∷ cs) (v ∷ vs) f h =
    let k = and_parts (fits_kind c.kind v) (fits_columns cs vs) f in
    let m = and_parts (in_domain dom v) (list_all (in_domain dom) vs) h in
    found-flat_map (λ w. map (λ ws. w ∷ ws) (rows_over dom cs)) dom v (v ∷ vs) (found_in_domain dom v m.0)
    (found-map (λ ws. v ∷ ws) (rows_over dom cs) vs (found_row dom cs vs k.1 m.1))

pub found_choice : (b : Contents) (dom : List Value) (chosen : List Choice) (item : Item) (c : Choice) → item_holds b chosen item c ≡ true → choice_within dom c ≡ true → Found c (choices_over b dom item)
found_choice b dom chosen (Users alias) (ChosenUser uid) h w p e = found-map ChosenUser (user_numbers b.catalog.users) uid (found_user b.catalog.users uid h) p e
found_choice b dom chosen (Users alias) (ChosenTuple t) h w p e = absurd (false≢true h)
found_choice b dom chosen (Rel alias rel sign path) (ChosenUser uid) h w p e = absurd (false≢true h)
found_choice b dom chosen (Rel alias rel sign path) (ChosenTuple t) h w p e =
    let k = and_parts (nat_eq t.rel rel) (fits_relation b.catalog.rels t && path_believes b t sign (chosen_path chosen path)) h in
    let m = and_parts (fits_relation b.catalog.rels t) (path_believes b t sign (chosen_path chosen path)) k.1 in
    let row = found_row dom (columns_at b.catalog.rels t.rel) t.vals (fits_its_columns (slice_get b.catalog.rels t.rel) t.vals m.0) w in
    ap (λ r. list_any p (choices_over b dom (Rel alias r sign path))) (sym (eqb-true t.rel rel k.0))
    ∙ found-map (λ vals. ChosenTuple (record { rel = t.rel; vals = vals })) (rows_over dom (columns_at b.catalog.rels t.rel)) t.vals row p e

pub found_assignment : (b : Contents) (dom : List Value) (chosen : List Choice) (items : List Item) (cs : List Choice) → items_hold b chosen items cs ≡ true
    → list_all (choice_within dom) cs ≡ true → Found cs (assignments_over b dom items)
found_assignment b dom chosen [] [] h w = found_first [] []
found_assignment b dom chosen [] (c ∷ cs) h w = absurd (false≢true h)
found_assignment b dom chosen (item ∷ items) [] h w = absurd (false≢true h)
found_assignment b dom chosen (item ∷ items) (c ∷ cs) h w =
    let k = and_parts (item_holds b chosen item c) (items_hold b chosen items cs) h in
    let m = and_parts (choice_within dom c) (list_all (choice_within dom) cs) w in
    found-flat_map (λ d. map (λ ds. d ∷ ds) (assignments_over b dom items)) (choices_over b dom item) c (c ∷ cs) (found_choice b dom chosen item c k.0 m.0)
    (found-map (λ ds. c ∷ ds) (assignments_over b dom items) cs (found_assignment b dom chosen items cs k.1 m.1))

-- ---- the answers

-- the row of an option is a row
pub row_of_option : (o : Option (List Value)) (row : List Value) → is_member row_cmp (option_list o) row ≡ true → o ≡ Some row
row_of_option None row h = absurd (false≢true h)
row_of_option (Some r) row h = elim (or_cases (is_eq (row_cmp r row)) false h) [
  | inl e ↦ ap Some (row_exact.exact r row (is_eq-Equal (row_cmp r row) e))
  | inr e ↦ absurd (false≢true e)
]

-- an assignment is true, and its selected columns are a row
abbrev gives_row : Contents → List Value → Query → List Value → List Choice → Bool
gives_row b dom q row chosen = is_true_assignment b dom q chosen && is_member row_cmp (option_list (chosen_row b.catalog.users chosen q.take)) row

pub member_of_answers : (b : Contents) (dom : List Value) (q : Query) (row : List Value)
    → is_member row_cmp (answers_over b dom q) row ≡ list_any (gives_row b dom q row) (assignments_over b dom q.items)
member_of_answers b dom q row =
    let rows_of : List Choice → List (List Value) = λ chosen. option_list (chosen_row b.catalog.users chosen q.take) in
    let all = assignments_over b dom q.items in
    set_keeps_members row_exact (flat_map rows_of (filter (is_true_assignment b dom q) all)) row
    ∙ list_any-flat_map (λ r. is_eq (row_cmp r row)) rows_of (filter (is_true_assignment b dom q) all)
    ∙ list_any-filter (λ chosen. is_member row_cmp (rows_of chosen) row) (is_true_assignment b dom q) all

pub member_is_answer : (b : Contents) (dom : List Value) (q : Query) (row : List Value) → is_member row_cmp (answers_over b dom q) row ≡ true → IsAnswer b dom q row
member_is_answer b dom q row m =
    let found = found_by (gives_row b dom q row) (assignments_over b dom q.items) (sym (member_of_answers b dom q row) ∙ m) in
    let k = and_parts (is_true_assignment b dom q found.0) (is_member row_cmp (option_list (chosen_row b.catalog.users found.0 q.take)) row) found.1 in
    (found.0, k.0, row_of_option (chosen_row b.catalog.users found.0 q.take) row k.1)

pub answer_is_member : (b : Contents) (dom : List Value) (q : Query) (row : List Value) → IsAnswer b dom q row → is_member row_cmp (answers_over b dom q) row ≡ true
answer_is_member b dom q row a =
    let chosen = a.0 in
    let k = and_parts (holds_in b q chosen) (list_all (choice_within dom) chosen) a.1 in
    let m = and_parts (items_hold b chosen q.items chosen) (list_all (cond_holds b.catalog.users chosen) q.conds) k.0 in
    let there : is_member row_cmp (option_list (chosen_row b.catalog.users chosen q.take)) row ≡ true =
    ap (λ o. is_member row_cmp (option_list o) row) a.2 ∙ or_left (is_eq (row_cmp row row)) false (is_eq_itself row_exact row) in
    member_of_answers b dom q row ∙ found_assignment b dom chosen q.items chosen m.0 k.1 (gives_row b dom q row)
    (and_from (is_true_assignment b dom q chosen) (is_member row_cmp (option_list (chosen_row b.catalog.users chosen q.take)) row) a.1 there)

pub answers_are_the_answers : AnswersAreTheAnswers
answers_are_the_answers b dom q = record {
  sorted = set_is_ascending row_exact (flat_map (λ chosen. option_list (chosen_row b.catalog.users chosen q.take)) (filter (is_true_assignment b dom q) (assignments_over b dom q.items)));
  sound = member_is_answer b dom q;
  whole = answer_is_member b dom q;
}

pub answers_are_one_list : AnswersAreOneList
answers_are_one_list b dom q rows more h g = members_make_set row_exact rows more h.sorted g.sorted
    (λ row. same_tests (is_member row_cmp rows row) (is_member row_cmp more row) (λ m. g.whole row (h.sound row m)) (λ m. h.whole row (g.sound row m)))
