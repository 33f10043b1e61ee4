-- The values of answers have no line feed.
use Rattle.std.proofs.Common.{◌≡◌, ◌∙◌, ℕ, pos, Bool, true, false, ◌&&◌, nat_eq, cond, List, [], ◌∷◌, filter, Option, Some, None, refl, ap, inl, inr, unwrap_or}
use Rattle.std.specs.List.{flat_map, list_all, slice_get}
use Rattle.std.specs.Option.{option_and_then, option_map}
use Rattle.std.proofs.lemmas.Bool.{cases_Bool, cond-false, cond-true, false≢true, and_from, and_parts, cond_both}
use Rattle.bdb_base.specs.declared.kinds.Item.{Item}
use Rattle.bdb_base.specs.declared.kinds.Item.TheVariants.{Users, Rel}
use Rattle.bdb_base.specs.declared.kinds.Query.{Query}
use Rattle.bdb_base.specs.declared.kinds.Ref.{Ref}
use Rattle.bdb_base.specs.declared.kinds.Value.{Value}
use Rattle.bdb_base.specs.declared.kinds.Value.TheVariants.{Int, Text}
use Rattle.bdb_base.specs.Bases.{Contents, IsCatalog, fits_relation}
use Rattle.bdb_base.specs.Order.{row_cmp}
use Rattle.bdb_base.specs.Queries.{Choice, active_domain, answers_of, assignments_over, choice_column, choice_within, chosen_path, chosen_row, chosen_value, cond_holds, holds_in, is_true_assignment, item_holds, items_hold, option_list, path_believes, user_column, user_name}
use Rattle.bdb_base.specs.Queries.Choice.{ChosenUser, ChosenTuple}
use Rattle.bdb_base.proofs.WorldRowsLemmas.{list_all-flat_map}
use Rattle.bdb_lex.specs.Spans.{lacks}
use Rattle.bdb_session.proofs.ErrorBases.{if_there, is_flat_tuple, name_flat, place_passes, set_all_pass, tuple_flat}
use Rattle.bdb_session.proofs.ErrorTexts.{is_flat_value}

-- ---- the values of a choice

-- a chosen tuple's values have no line feed
abbrev is_flat_choice : Choice → Bool
is_flat_choice (ChosenUser uid) = true
is_flat_choice (ChosenTuple t) = is_flat_tuple t

named_flat : (o : Option (List ℕ)) → lacks 10 (unwrap_or o []) ≡ true → if_there is_flat_value (option_map Text o) ≡ true
named_flat None h = refl
named_flat (Some name) h = h

module _ (b : Contents) (v : IsCatalog b.catalog) where
  user_flat : (uid col : ℕ) → if_there is_flat_value (user_column b.catalog.users uid col) ≡ true
  user_flat uid col =
      let name = option_map Text (user_name b.catalog.users uid) in
      cond_both (nat_eq col 0) (Some (Int (pos uid))) (cond (nat_eq col 1) name None) (λ o. if_there is_flat_value o ≡ true) (λ e. refl)
      (λ e. cond_both (nat_eq col 1) name None (λ o. if_there is_flat_value o ≡ true) (λ f. named_flat (user_name b.catalog.users uid) (name_flat b.catalog v uid)) (λ f. refl))

  column_flat : (x : Choice) (col : ℕ) → is_flat_choice x ≡ true → if_there is_flat_value (choice_column b.catalog.users x col) ≡ true
  column_flat (ChosenUser uid) col h = user_flat uid col
  column_flat (ChosenTuple t) col h = place_passes is_flat_value t.vals col h

  column_of_flat : (o : Option Choice) (col : ℕ) → if_there is_flat_choice o ≡ true → if_there is_flat_value (option_and_then (λ x. choice_column b.catalog.users x col) o) ≡ true
  column_of_flat None col h = refl
  column_of_flat (Some x) col h = column_flat x col h

  value_flat : (chosen : List Choice) (r : Ref) → list_all is_flat_choice chosen ≡ true → if_there is_flat_value (chosen_value b.catalog.users chosen r) ≡ true
  value_flat chosen r h = column_of_flat (slice_get chosen r.item) r.col (place_passes is_flat_choice chosen r.item h)

  joined_row : (o : Option Value) (p : Option (List Value)) → if_there is_flat_value o ≡ true → if_there (λ row. list_all is_flat_value row) p ≡ true
      → if_there (λ row. list_all is_flat_value row) (option_and_then (λ x. option_map (λ xs. x ∷ xs) p) o) ≡ true
  joined_row None p h g = refl
  joined_row (Some x) None h g = refl
  joined_row (Some x) (Some xs) h g = and_from (is_flat_value x) (list_all is_flat_value xs) h g

  row_flat : (chosen : List Choice) (rs : List Ref) → list_all is_flat_choice chosen ≡ true → if_there (λ row. list_all is_flat_value row) (chosen_row b.catalog.users chosen rs) ≡ true
  row_flat chosen [] h = refl
  row_flat chosen (r ∷ rs) h = joined_row (chosen_value b.catalog.users chosen r) (chosen_row b.catalog.users chosen rs) (value_flat chosen r h) (row_flat chosen rs h)

  -- ---- what holds

  item_flat : (all : List Choice) (item : Item) (x : Choice) → item_holds b all item x ≡ true → is_flat_choice x ≡ true
  item_flat all item (ChosenUser uid) h = refl
  item_flat all (Users alias) (ChosenTuple t) h = absurd (false≢true h)
  item_flat all (Rel alias rel sign path) (ChosenTuple t) h =
      let k = and_parts (nat_eq t.rel rel) (fits_relation b.catalog.rels t && path_believes b t sign (chosen_path all path)) h in
      tuple_flat b.catalog.rels t (and_parts (fits_relation b.catalog.rels t) (path_believes b t sign (chosen_path all path)) k.1).0

  items_flat : (all : List Choice) (items : List Item) (chosen : List Choice) → items_hold b all items chosen ≡ true → list_all is_flat_choice chosen ≡ true
  items_flat all [] [] h = refl
  items_flat all [] (x ∷ chosen) h = absurd (false≢true h)
  items_flat all (item ∷ items) [] h = absurd (false≢true h)
  items_flat all (item ∷ items) (x ∷ chosen) h =
      let k = and_parts (item_holds b all item x) (items_hold b all items chosen) h in
      and_from (is_flat_choice x) (list_all is_flat_choice chosen) (item_flat all item x k.0) (items_flat all items chosen k.1)

  true_flat : (dom : List Value) (q : Query) (chosen : List Choice) → is_true_assignment b dom q chosen ≡ true → list_all is_flat_choice chosen ≡ true
  true_flat dom q chosen h =
      let k = and_parts (holds_in b q chosen) (list_all (choice_within dom) chosen) h in
      items_flat chosen q.items chosen (and_parts (items_hold b chosen q.items chosen) (list_all (cond_holds b.catalog.users chosen) q.conds) k.0).0

  listed_flat : (o : Option (List Value)) → if_there (λ row. list_all is_flat_value row) o ≡ true → list_all (λ row. list_all is_flat_value row) (option_list o) ≡ true
  listed_flat None h = refl
  listed_flat (Some row) h = and_from (list_all is_flat_value row) true h refl

  -- the items that pass pass
  filtered : {X : Type 0} (p : X → Bool) (xs : List X) → list_all p (filter p xs) ≡ true
  filtered p [] = refl
  filtered p (x ∷ xs) = elim (cases_Bool (p x)) [
    | inl e ↦ ap (list_all p) (cond-true (p x) (x ∷ filter p xs) (filter p xs) e) ∙ and_from (p x) (list_all p (filter p xs)) e (filtered p xs)
    | inr e ↦ ap (list_all p) (cond-false (p x) (x ∷ filter p xs) (filter p xs) e) ∙ filtered p xs
  ]

  pub answers_flat : (q : Query) → list_all (λ row. list_all is_flat_value row) (answers_of b q) ≡ true
  answers_flat q =
      let dom = active_domain b q in
      let chosen = filter (is_true_assignment b dom q) (assignments_over b dom q.items) in
      set_all_pass (λ row. list_all is_flat_value row) row_cmp (flat_map (λ x. option_list (chosen_row b.catalog.users x q.take)) chosen)
      (list_all-flat_map (is_true_assignment b dom q) (λ row. list_all is_flat_value row) (λ x. option_list (chosen_row b.catalog.users x q.take))
      (λ x e. listed_flat (chosen_row b.catalog.users x q.take) (row_flat x q.take (true_flat dom q x e))) chosen (filtered (is_true_assignment b dom q) (assignments_over b dom q.items)))
