-- A safe query needs no domain.
use Rattle.std.proofs.Common.{◌≡◌, ◌∙◌, ℕ, ◌-◌, true, ◌&&◌, nat_eq, List, ◌++◌, inl, inr, refl, ap, sym, None, Some, Option, map, cond, pos}
use Rattle.std.specs.List.{list_any, list_all, slice_get, flat_map}
use Rattle.std.specs.Option.{option_map, option_and_then}
use Rattle.std.proofs.lemmas.Bool.{false≢true, cases_Bool, or_left, or_right, and_parts, and_from, cond-true, cond-false}
use Rattle.std.proofs.lemmas.List.Folds.{list_any-append}
use Rattle.std.proofs.lemmas.Option.{same_Some}
use Rattle.bdb_base.specs.declared.kinds.Item.{Item}
use Rattle.bdb_base.specs.declared.kinds.Item.TheVariants.{Users, Rel}
use Rattle.bdb_base.specs.declared.kinds.Query.{Query}
use Rattle.bdb_base.specs.declared.kinds.Sign.TheVariants.{Plus, Minus}
use Rattle.bdb_base.specs.declared.kinds.Stmt.{Stmt}
use Rattle.bdb_base.specs.declared.kinds.Value.{Value}
use Rattle.bdb_base.specs.declared.kinds.Value.TheVariants.{Int, Text}
use Rattle.bdb_base.specs.declared.tuple.Tuple.{Tuple}
use Rattle.bdb_base.specs.Alternation.{alternates}
use Rattle.bdb_base.specs.Bases.{Contents, key_lengths, is_user, user_names, fits_relation}
use Rattle.bdb_base.specs.Order.{row_cmp}
use Rattle.bdb_base.specs.Queries.{Choice, ChosenUser, ChosenTuple, user_name, user_column, choice_column, chosen_path, cond_holds, path_believes, item_holds, items_hold, holds_in, in_domain, choice_within, user_numbers, active_domain, HasValues, answers_over, answers_of, AreAnswers}
use Rattle.bdb_base.specs.Safety.{is_given, is_minus, IsSafe}
use Rattle.bdb_base.specs.Same.{same_tuple, same_value}
use Rattle.bdb_base.specs.SameLemmas.{same_tuple-Decides, same_value-Decides}
use Rattle.bdb_base.specs.SortedSet.{is_member, ascending}
use Rattle.bdb_base.specs.Worlds.{stated}
use Rattle.bdb_base.proofs.ListLemmas.{list_all_weaker}
use Rattle.bdb_base.proofs.UserLemmas.{name_found}
use Rattle.bdb_base.proofs.WorldLemmas.{list_any_weaker, stated_tuples_are_explicit}
use Rattle.bdb_base.proofs.WorldRowsLemmas.{list_any-flat_map}
use Rattle.bdb_queries.specs.QueryLaws.{literals_of, IsInRange, DomainIsEnough, HoldingIsTruth, HoldingIsEnough, AnswersNeedNoDomain, IsHeldRow, AnswersAreWhatHolds}
use Rattle.bdb_queries.proofs.FoundLemmas.{Found, found-map, found_at, list_all_from_gets, found_both, option_map_some}
use Rattle.bdb_queries.proofs.AnswerLemmas.{found_user, answers_are_the_answers, answers_are_one_list}
use Rattle.bdb_queries.proofs.UserLemmas.{found_name}
use Rattle.bdb_queries.proofs.RangeLemmas.{item_of_choice, and_then_some, minus_values_are_in_range}

-- ---- values of a domain

in_front : (xs ys : List Value) (v : Value) → in_domain xs v ≡ true → in_domain (xs ++ ys) v ≡ true
in_front xs ys v h = list_any-append (same_value v) xs ys ∙ or_left (in_domain xs v) (in_domain ys v) h

in_back : (xs ys : List Value) (v : Value) → in_domain ys v ≡ true → in_domain (xs ++ ys) v ≡ true
in_back xs ys v h = list_any-append (same_value v) xs ys ∙ or_right (in_domain xs v) (in_domain ys v) h

in_from_found : (dom : List Value) (v : Value) → Found v dom → in_domain dom v ≡ true
in_from_found dom v h = h (same_value v) ((same_value-Decides v v).1 refl)

-- a value of one domain is one of a domain that has its values
pub in_larger : (dom more : List Value) (v : Value) → HasValues dom more → in_domain more v ≡ true → in_domain dom v ≡ true
in_larger dom more v h e =
    let found = found_both (in_domain dom) (same_value v) more h e in
    ap (in_domain dom) ((same_value-Decides v found.0).0 found.2) ∙ found.1

within_larger : (dom more : List Value) → HasValues dom more → (c : Choice) → choice_within more c ≡ true → choice_within dom c ≡ true
within_larger dom more h (ChosenUser uid) e = refl
within_larger dom more h (ChosenTuple t) e = list_all_weaker (in_domain more) (in_domain dom) (λ v. in_larger dom more v h) t.vals e

-- ---- values of the active domain

-- the parts of the active domain
abbrev tuple_values : Contents → List Value
tuple_values b = flat_map (λ x. x.tuple.vals) b.stmts

abbrev name_values : Contents → List Value
name_values b = map Text (user_names b.catalog.users)

abbrev number_values : Contents → List Value
number_values b = map (λ uid. Int (pos uid)) (user_numbers b.catalog.users)

pub literal_in_domain : (b : Contents) (q : Query) (v : Value) → in_domain (literals_of q) v ≡ true → in_domain (active_domain b q) v ≡ true
literal_in_domain b q v h = in_back (tuple_values b) (name_values b ++ (number_values b ++ literals_of q)) v
    (in_back (name_values b) (number_values b ++ literals_of q) v (in_back (number_values b) (literals_of q) v h))

number_in_domain : (b : Contents) (q : Query) (uid : ℕ) → is_user b.catalog.users uid ≡ true → in_domain (active_domain b q) (Int (pos uid)) ≡ true
number_in_domain b q uid h =
    let v = Int (pos uid) in
    let there = in_from_found (number_values b) v (found-map (λ u. Int (pos u)) (user_numbers b.catalog.users) uid (found_user b.catalog.users uid h)) in
    in_back (tuple_values b) (name_values b ++ (number_values b ++ literals_of q)) v
    (in_back (name_values b) (number_values b ++ literals_of q) v (in_front (number_values b) (literals_of q) v there))

name_in_domain : (b : Contents) (q : Query) (uid : ℕ) (name : List ℕ) → is_user b.catalog.users uid ≡ true → user_name b.catalog.users uid ≡ Some name → in_domain (active_domain b q) (Text name) ≡ true
name_in_domain b q uid name h e =
    let users = b.catalog.users in
    let v = Text name in
    let listed = found_name users (uid - 1) name (name_found users uid name e).1 in
    in_back (tuple_values b) (name_values b ++ (number_values b ++ literals_of q)) v
    (in_front (name_values b) (number_values b ++ literals_of q) v (in_from_found (name_values b) v (found-map Text (user_names users) name listed)))

-- a value of a user's column
user_in_domain : (b : Contents) (q : Query) (uid col : ℕ) (v : Value) → is_user b.catalog.users uid ≡ true → user_column b.catalog.users uid col ≡ Some v → in_domain (active_domain b q) v ≡ true
user_in_domain b q uid col v h e =
    let users = b.catalog.users in
    let number = Some (Int (pos uid)) in
    let name = option_map Text (user_name users uid) in
    elim (cases_Bool (nat_eq col 0)) [
      | inl a ↦
          let s : Some (Int (pos uid)) ≡ Some v = sym (cond-true (nat_eq col 0) number (cond (nat_eq col 1) name None) a) ∙ e in
          ap (in_domain (active_domain b q)) (sym (same_Some (Int (pos uid)) v s)) ∙ number_in_domain b q uid h
      | inr a ↦
          let s : cond (nat_eq col 1) name None ≡ Some v = sym (cond-false (nat_eq col 0) number (cond (nat_eq col 1) name None) a) ∙ e in
          elim (cases_Bool (nat_eq col 1)) [
            | inl c ↦
                let n = option_map_some Text (user_name users uid) v (sym (cond-true (nat_eq col 1) name None c) ∙ s) in
                ap (in_domain (active_domain b q)) (sym n.2) ∙ name_in_domain b q uid n.0 h n.1
            | inr c ↦ let k : None ≡ Some v = sym (cond-false (nat_eq col 1) name None c) ∙ s in cc
          ]
    ]

-- what is believed with plus is a statement's tuple
plus_is_stated : (b : Contents) (t : Tuple) (path : Option (List ℕ)) → path_believes b t Plus path ≡ true → list_any (λ x. same_tuple x.tuple t) b.stmts ≡ true
plus_is_stated b t None h = absurd (false≢true h)
plus_is_stated b t (Some w) h =
    let keys = key_lengths b.catalog.rels in
    stated_tuples_are_explicit keys b.stmts w t Plus (and_parts (alternates w) (stated keys b.stmts w t Plus) h).1

plus_in_domain : (b : Contents) (q : Query) (t : Tuple) (path : Option (List ℕ)) (col : ℕ) (v : Value) → path_believes b t Plus path ≡ true → slice_get t.vals col ≡ Some v
    → in_domain (active_domain b q) v ≡ true
plus_in_domain b q t path col v h e =
    let here : in_domain t.vals v ≡ true = in_from_found t.vals v (found_at t.vals col v e) in
    in_front (tuple_values b) (name_values b ++ (number_values b ++ literals_of q)) v
    (list_any-flat_map (same_value v) (λ (x : Stmt). x.tuple.vals) b.stmts
    ∙ list_any_weaker (λ x. same_tuple x.tuple t) (λ x. in_domain x.tuple.vals v) (λ x a. ap (λ u. in_domain u.vals v) ((same_tuple-Decides x.tuple t).0 a) ∙ here) b.stmts
    (plus_is_stated b t path h))

-- a value of what is chosen for a `Users` item or a plus item
given_in_domain : (b : Contents) (q : Query) (chosen : List Choice) (item : Item) (c : Choice) (col : ℕ) (v : Value) → is_given (Some item) ≡ true → item_holds b chosen item c ≡ true
    → choice_column b.catalog.users c col ≡ Some v → in_domain (active_domain b q) v ≡ true
given_in_domain b q chosen (Users alias) (ChosenUser uid) col v g h e = user_in_domain b q uid col v h e
given_in_domain b q chosen (Users alias) (ChosenTuple t) col v g h e = absurd (false≢true h)
given_in_domain b q chosen (Rel alias rel Minus path) c col v g h e = absurd (false≢true g)
given_in_domain b q chosen (Rel alias rel Plus path) (ChosenUser uid) col v g h e = absurd (false≢true h)
given_in_domain b q chosen (Rel alias rel Plus path) (ChosenTuple t) col v g h e =
    let k = and_parts (nat_eq t.rel rel) (fits_relation b.catalog.rels t && path_believes b t Plus (chosen_path chosen path)) h in
    let m = and_parts (fits_relation b.catalog.rels t) (path_believes b t Plus (chosen_path chosen path)) k.1 in
    plus_in_domain b q t (chosen_path chosen path) col v m.1 e

range_in_domain : (b : Contents) (q : Query) (chosen : List Choice) → items_hold b chosen q.items chosen ≡ true → (v : Value) → IsInRange b q chosen v → in_domain (active_domain b q) v ≡ true
range_in_domain b q chosen h v range = elim range [
  | inl g ↦
      let c = and_then_some (λ d. choice_column b.catalog.users d g.0.col) (slice_get chosen g.0.item) v g.2 in
      let item = item_of_choice b chosen q.items chosen g.0.item c.0 h c.1 in
      given_in_domain b q chosen item.0 c.0 g.0.col v (ap is_given (sym item.1) ∙ g.1) item.2 c.2
  | inr l ↦ literal_in_domain b q v l
]

-- ---- what holds of a safe query

-- what is chosen for an item has values of the active domain, where the values of minus items do
item_within : (b : Contents) (q : Query) (chosen : List Choice) (item : Item) (c : Choice) → item_holds b chosen item c ≡ true
    → (is_minus (Some item) ≡ true → (col : ℕ) (v : Value) → choice_column b.catalog.users c col ≡ Some v → in_domain (active_domain b q) v ≡ true)
    → choice_within (active_domain b q) c ≡ true
item_within b q chosen item (ChosenUser uid) h m = refl
item_within b q chosen (Users alias) (ChosenTuple t) h m = absurd (false≢true h)
item_within b q chosen (Rel alias rel Plus path) (ChosenTuple t) h m = list_all_from_gets (in_domain (active_domain b q)) t.vals
    (λ col v e. given_in_domain b q chosen (Rel alias rel Plus path) (ChosenTuple t) col v refl h e)
item_within b q chosen (Rel alias rel Minus path) (ChosenTuple t) h m = list_all_from_gets (in_domain (active_domain b q)) t.vals (m refl)

pub domain_is_enough : DomainIsEnough
domain_is_enough b q chosen safe h =
    let users = b.catalog.users in
    let k = and_parts (items_hold b chosen q.items chosen) (list_all (cond_holds users chosen) q.conds) h in
    list_all_from_gets (choice_within (active_domain b q)) chosen (λ at c e.
    let item = item_of_choice b chosen q.items chosen at c k.0 e in
    item_within b q chosen item.0 c item.2 (λ m col v a.
    range_in_domain b q chosen k.0 v (minus_values_are_in_range b q chosen safe h (record { item = at; col = col }) v (ap is_minus item.1 ∙ m)
    (ap (λ o. option_and_then (λ d. choice_column users d col) o) e ∙ a))))

pub holding_is_truth : HoldingIsTruth
holding_is_truth b dom q chosen safe more = elim (cases_Bool (holds_in b q chosen)) [
  | inl e ↦ and_from (holds_in b q chosen) (list_all (choice_within dom) chosen) e
      (list_all_weaker (choice_within (active_domain b q)) (choice_within dom) (within_larger dom (active_domain b q) more) chosen (domain_is_enough b q chosen safe e)) ∙ sym e
  | inr e ↦ ap (λ t. t && list_all (choice_within dom) chosen) e ∙ sym e
]

-- a domain has its own values
pub has_its_own : (dom : List Value) → HasValues dom dom
has_its_own dom = list_all_from_gets (in_domain dom) dom (λ at v e. in_from_found dom v (found_at dom at v e))

pub holding_is_enough : HoldingIsEnough
holding_is_enough b q chosen safe = holding_is_truth b (active_domain b q) q chosen safe (has_its_own (active_domain b q))

-- ---- the answers of a safe query

held_rows_are_answers : (b : Contents) (dom : List Value) (q : Query) → IsSafe b.catalog.rels q → HasValues dom (active_domain b q) → (rows : List (List Value))
    → ascending row_cmp rows ≡ true → ((row : List Value) → is_member row_cmp rows row ≡ true → IsHeldRow b q row)
    → ((row : List Value) → IsHeldRow b q row → is_member row_cmp rows row ≡ true) → AreAnswers b dom q rows
held_rows_are_answers b dom q safe more rows s sound whole = record {
  sorted = s;
  sound = λ row m. (let h = sound row m in (h.0, holding_is_truth b dom q h.0 safe more ∙ h.1, h.2));
  whole = λ row a. whole row (a.0, sym (holding_is_truth b dom q a.0 safe more) ∙ a.1, a.2);
}

-- the rows of the answers over a domain are those of what holds
answers_are_held : (b : Contents) (dom : List Value) (q : Query) → IsSafe b.catalog.rels q → HasValues dom (active_domain b q) → AreAnswers b (active_domain b q) q (answers_over b dom q)
answers_are_held b dom q safe more =
    let a = answers_are_the_answers b dom q in
    held_rows_are_answers b (active_domain b q) q safe (has_its_own (active_domain b q)) (answers_over b dom q) a.sorted
    (λ row m. let h = a.sound row m in (h.0, sym (holding_is_truth b dom q h.0 safe more) ∙ h.1, h.2))
    (λ row h. a.whole row (h.0, holding_is_truth b dom q h.0 safe more ∙ h.1, h.2))

pub answers_need_no_domain : AnswersNeedNoDomain
answers_need_no_domain b dom q safe more = answers_are_one_list b (active_domain b q) q (answers_over b dom q) (answers_of b q) (answers_are_held b dom q safe more)
    (answers_are_the_answers b (active_domain b q) q)

pub answers_are_what_holds : AnswersAreWhatHolds
answers_are_what_holds b q safe rows s sound whole = answers_are_one_list b (active_domain b q) q rows (answers_of b q)
    (held_rows_are_answers b (active_domain b q) q safe (has_its_own (active_domain b q)) rows s sound whole) (answers_are_the_answers b (active_domain b q) q)
