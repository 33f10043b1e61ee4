-- Queries over a base: what an assignment chooses, when it is true, and the answers.
use Rattle.std.specs.Prelude.{◌≡◌, ℕ, ◌-◌, suc, Bool, true, false, ◌&&◌, nat_eq, List, [], ◌∷◌, ◌++◌, map, filter, Option, None, Some, cond, pos}
use Rattle.std.specs.Option.{option_map, option_and_then}
use Rattle.std.specs.List.{list_any, list_all, slice_get, flat_map}
use Rattle.bdb_base.specs.declared.kinds.ColDef.{ColDef}
use Rattle.bdb_base.specs.declared.kinds.Cond.{Cond}
use Rattle.bdb_base.specs.declared.kinds.Item.{Item}
use Rattle.bdb_base.specs.declared.kinds.Item.TheVariants.{Users, Rel}
use Rattle.bdb_base.specs.declared.kinds.Operand.{Operand}
use Rattle.bdb_base.specs.declared.kinds.Operand.TheVariants.{Col, Lit}
use Rattle.bdb_base.specs.declared.kinds.Query.{Query}
use Rattle.bdb_base.specs.declared.kinds.Ref.{Ref}
use Rattle.bdb_base.specs.declared.kinds.RelDef.{RelDef}
use Rattle.bdb_base.specs.declared.kinds.Sign.{Sign}
use Rattle.bdb_base.specs.declared.kinds.UserSlot.{UserSlot}
use Rattle.bdb_base.specs.declared.kinds.UserSlot.TheVariants.{Live, Gone}
use Rattle.bdb_base.specs.declared.kinds.Value.{Value}
use Rattle.bdb_base.specs.declared.kinds.Value.TheVariants.{Int, Text}
use Rattle.bdb_base.specs.declared.kinds.Who.{Who}
use Rattle.bdb_base.specs.declared.kinds.Who.TheVariants.{User, Of}
use Rattle.bdb_base.specs.declared.tuple.Tuple.{Tuple}
use Rattle.bdb_base.specs.Alternation.{alternates}
use Rattle.bdb_base.specs.Bases.{Contents, fits_relation, is_user, key_lengths, name_at, user_names}
use Rattle.bdb_base.specs.Conditions.{compare_so}
use Rattle.bdb_base.specs.Order.{row_cmp}
use Rattle.bdb_base.specs.Same.{same_value}
use Rattle.bdb_base.specs.SortedSet.{is_member, ascending, sorted_set}
use Rattle.bdb_base.specs.Worlds.{believes}

-- what is chosen for an item: a live user for a `Users` item, a tuple for each other
pub data Choice : Type 0 where
  ChosenUser : ℕ → Choice
  ChosenTuple : Tuple → Choice

-- ---- the values and paths of an assignment, which is a choice for each item in order

-- the name of a live user, by his number
abbrev pub user_name : List UserSlot → ℕ → Option (List ℕ)
user_name users uid = cond (is_user users uid) (name_at users (uid - 1)) None

-- a column of a user: column 0 is the number, column 1 the name
abbrev pub user_column : List UserSlot → ℕ → ℕ → Option Value
user_column users uid col = cond (nat_eq col 0) (Some (Int (pos uid))) (cond (nat_eq col 1) (option_map Text (user_name users uid)) None)

-- a column of what is chosen
abbrev pub choice_column : List UserSlot → Choice → ℕ → Option Value
choice_column users (ChosenUser uid) col = user_column users uid col
choice_column users (ChosenTuple t) col = slice_get t.vals col

-- the value of a column of an item
abbrev pub chosen_value : List UserSlot → List Choice → Ref → Option Value
chosen_value users chosen r = option_and_then (λ c. choice_column users c r.col) (slice_get chosen r.item)

-- the value of a comparison's right side
abbrev pub chosen_operand : List UserSlot → List Choice → Operand → Option Value
chosen_operand users chosen (Col r) = chosen_value users chosen r
chosen_operand users chosen (Lit v) = Some v

-- a comparison holds
abbrev pub cond_holds : List UserSlot → List Choice → Cond → Bool
cond_holds users chosen c = compare_so c.cmp (chosen_value users chosen c.left) (chosen_operand users chosen c.right)

abbrev pub chosen_user : Choice → Option ℕ
chosen_user (ChosenUser uid) = Some uid
chosen_user (ChosenTuple t) = None

-- a user of a path: a fixed one, or the one chosen for a `Users` item
abbrev pub user_of : List Choice → Who → Option ℕ
user_of chosen (User uid) = Some uid
user_of chosen (Of item) = option_and_then chosen_user (slice_get chosen item)

-- the path of an item, with the chosen users put in
abbrev pub chosen_path : List Choice → List Who → Option (List ℕ)
chosen_path chosen [] = Some []
chosen_path chosen (who ∷ whos) = option_and_then (λ uid. option_map (λ w. uid ∷ w) (chosen_path chosen whos)) (user_of chosen who)

-- ---- when an assignment is true

-- a path has no equal neighbours, and believes a tuple, or with minus its negation
abbrev pub path_believes : Contents → Tuple → Sign → Option (List ℕ) → Bool
path_believes b t s None = false
path_believes b t s (Some w) = alternates w && believes (key_lengths b.catalog.rels) b.stmts w t s

-- An item holds of a choice: it is a live user; or a tuple that fits the item's relation, and the item's path believes it with
-- the item's sign.
abbrev pub item_holds : Contents → List Choice → Item → Choice → Bool
item_holds b chosen (Users alias) (ChosenUser uid) = is_user b.catalog.users uid
item_holds b chosen (Rel alias rel sign path) (ChosenTuple t) = nat_eq t.rel rel && (fits_relation b.catalog.rels t && path_believes b t sign (chosen_path chosen path))
item_holds b chosen _ _ = false

-- each item holds of its choice, and there is one for each
abbrev pub items_hold : Contents → List Choice → List Item → List Choice → Bool
items_hold b chosen [] [] = true
items_hold b chosen (item ∷ items) (c ∷ cs) = item_holds b chosen item c && items_hold b chosen items cs
items_hold b chosen _ _ = false

-- the items and comparisons of a query hold
abbrev pub holds_in : Contents → Query → List Choice → Bool
holds_in b q chosen = items_hold b chosen q.items chosen && list_all (cond_holds b.catalog.users chosen) q.conds

-- a value is in a domain
abbrev pub in_domain : List Value → Value → Bool
in_domain dom v = list_any (same_value v) dom

-- the values of a chosen tuple are in a domain
abbrev pub choice_within : List Value → Choice → Bool
choice_within dom (ChosenUser uid) = true
choice_within dom (ChosenTuple t) = list_all (in_domain dom) t.vals

-- An assignment is true over a domain: the items and comparisons hold, and the chosen tuples have values of the domain.
abbrev pub is_true_assignment : Contents → List Value → Query → List Choice → Bool
is_true_assignment b dom q chosen = holds_in b q chosen && list_all (choice_within dom) chosen

-- ---- the active domain

-- the numbers of places, from one number on
abbrev pub numbers_from : ℕ → List UserSlot → List ℕ
numbers_from n [] = []
numbers_from n (user ∷ users) = n ∷ numbers_from (suc n) users

-- the numbers of all live users
abbrev pub user_numbers : List UserSlot → List ℕ
user_numbers users = filter (is_user users) (numbers_from 1 users)

-- the same, told place by place: the numbers of the live users at these places, the first of which has the number `n`
abbrev pub live_numbers : ℕ → List UserSlot → List ℕ
live_numbers n [] = []
live_numbers n (Live name ∷ users) = n ∷ live_numbers (suc n) users
live_numbers n (Gone ∷ users) = live_numbers (suc n) users

-- what an option has, as a list
abbrev pub option_list : {X : Type 0} → Option X → List X
option_list None = []
option_list (Some x) = x ∷ []

-- the literal of a comparison's right side
abbrev pub literal_of : Operand → List Value
literal_of (Col r) = []
literal_of (Lit v) = v ∷ []

-- the values of the statements' tuples, the live users' names and numbers, and the query's literals
abbrev pub active_domain : Contents → Query → List Value
active_domain b q = flat_map (λ x. x.tuple.vals) b.stmts
    ++ (map Text (user_names b.catalog.users) ++ (map (λ uid. Int (pos uid)) (user_numbers b.catalog.users) ++ flat_map (λ c. literal_of c.right) q.conds))

-- a domain has all these values
abbrev pub HasValues : List Value → List Value → Type 0
HasValues dom part = list_all (in_domain dom) part ≡ true

-- ---- the answers

-- the values of columns, where all are there
abbrev pub chosen_row : List UserSlot → List Choice → List Ref → Option (List Value)
chosen_row users chosen [] = Some []
chosen_row users chosen (r ∷ rs) = option_and_then (λ v. option_map (λ vs. v ∷ vs) (chosen_row users chosen rs)) (chosen_value users chosen r)

-- the columns of a relation that may not be there
abbrev pub columns_of_definition : Option RelDef → List ColDef
columns_of_definition None = []
columns_of_definition (Some def) = def.cols

-- the columns of a relation, by its number
abbrev pub columns_at : List RelDef → ℕ → List ColDef
columns_at rels rel = columns_of_definition (slice_get rels rel)

-- all lists with one value of a domain for each column
abbrev pub rows_over : List Value → List ColDef → List (List Value)
rows_over dom [] = [] ∷ []
rows_over dom (c ∷ cs) = flat_map (λ v. map (λ vs. v ∷ vs) (rows_over dom cs)) dom

-- all that can be chosen for an item: the live users, or the tuples of its relation over a domain
abbrev pub choices_over : Contents → List Value → Item → List Choice
choices_over b dom (Users alias) = map ChosenUser (user_numbers b.catalog.users)
choices_over b dom (Rel alias rel sign path) = map (λ vals. ChosenTuple (record { rel = rel; vals = vals })) (rows_over dom (columns_at b.catalog.rels rel))

-- all assignments of items
abbrev pub assignments_over : Contents → List Value → List Item → List (List Choice)
assignments_over b dom [] = [] ∷ []
assignments_over b dom (item ∷ items) = flat_map (λ c. map (λ cs. c ∷ cs) (assignments_over b dom items)) (choices_over b dom item)

-- the answers over a domain: the selected columns of all true assignments, in order, each once
abbrev pub answers_over : Contents → List Value → Query → List (List Value)
answers_over b dom q = sorted_set row_cmp (flat_map (λ chosen. option_list (chosen_row b.catalog.users chosen q.take))
    (filter (is_true_assignment b dom q) (assignments_over b dom q.items)))

-- the answers of a query
abbrev pub answers_of : Contents → Query → List (List Value)
answers_of b q = answers_over b (active_domain b q) q

-- a row is an answer over a domain: the selected columns of a true assignment
abbrev pub IsAnswer : Contents → List Value → Query → List Value → Type 0
IsAnswer b dom q row = (chosen : List Choice) × (is_true_assignment b dom q chosen ≡ true) × (chosen_row b.catalog.users chosen q.take ≡ Some row)

-- rows are the answers over a domain: in order, each once, each an answer, and each answer there
pub record AreAnswers (b : Contents) (dom : List Value) (q : Query) (rows : List (List Value)) : Type 0 where
  pub sorted : ascending row_cmp rows ≡ true
  pub sound : (row : List Value) → is_member row_cmp rows row ≡ true → IsAnswer b dom q row
  pub whole : (row : List Value) → IsAnswer b dom q row → is_member row_cmp rows row ≡ true
