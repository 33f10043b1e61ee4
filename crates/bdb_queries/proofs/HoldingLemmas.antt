-- When the items of a query hold of slots, and how slots are assignments.
use Rattle.std.proofs.Common.{◌≡◌, ◌∙◌, ℕ, suc, ◌-◌, ◌^◌, Bool, true, false, ◌&&◌, nat_eq, nat_lt, List, [], ◌∷◌, Option, None, Some, refl, ap, sym, cond, length, map, arith, pos, subst}
use Prim.Native.Nat.{zero}
use Rattle.std.specs.List.{list_all, slice_get}
use Rattle.std.specs.Option.{option_map, option_and_then, is_some}
use Rattle.std.proofs.lemmas.Bool.{false≢true, cond-true, cond-false, and_parts, and_from}
use Rattle.std.proofs.lemmas.Bool.Decides.{Decides-eqb, nat_tests}
use Rattle.bdb_base.specs.declared.kinds.Cond.{Cond}
use Rattle.bdb_base.specs.declared.kinds.Item.{Item}
use Rattle.bdb_base.specs.declared.kinds.Item.TheVariants.{Users, Rel}
use Rattle.bdb_base.specs.declared.kinds.Operand.{Operand}
use Rattle.bdb_base.specs.declared.kinds.Operand.TheVariants.{Col, Lit}
use Rattle.bdb_base.specs.declared.kinds.Query.{Query}
use Rattle.bdb_base.specs.declared.kinds.Ref.{Ref}
use Rattle.bdb_base.specs.declared.kinds.UserSlot.{UserSlot}
use Rattle.bdb_base.specs.declared.kinds.Value.{Value}
use Rattle.bdb_base.specs.declared.kinds.Value.TheVariants.{Int, Text}
use Rattle.bdb_base.specs.declared.kinds.Who.{Who}
use Rattle.bdb_base.specs.declared.kinds.Who.TheVariants.{User, Of}
use Rattle.bdb_base.specs.declared.tuple.Tuple.{Tuple}
use Rattle.bdb_base.specs.Bases.{Contents, is_user, live_name, name_at, fits_relation}
use Rattle.bdb_base.specs.Conditions.{compare_so}
use Rattle.bdb_base.specs.Queries.{Choice, ChosenUser, ChosenTuple, user_name, user_column, choice_column, chosen_value, chosen_operand, cond_holds, chosen_user, user_of, chosen_path, path_believes, item_holds, items_hold, chosen_row}
use Rattle.bdb_base.specs.Safety.{is_users_item, who_fits, fixed_differ, item_fits, query_fits}
use Rattle.bdb_base.proofs.UserLemmas.{user_lives}
use Rattle.bdb_base.proofs.ListLemmas.{list_all_same}
use Rattle.bdb_queries.specs.QueryLaws.{IsHeldRow}
use Rattle.bdb_queries.specs.Slots.{slot_at, known, known_operand, must_hold, must_all_hold, known_row, uid_of, path_of, user_tuple}

-- ---- when an item holds of slots

-- An item holds of what is chosen for it: a user's tuple; or a tuple that fits the item's relation, and the item's path
-- believes it with the item's sign.
abbrev pub SlotHolds : Contents → List (Option Tuple) → Item → Option Tuple → Type 0
SlotHolds b slots (Users alias) x = (uid : ℕ) × (name : List ℕ) × (is_user b.catalog.users uid ≡ true) × (user_name b.catalog.users uid ≡ Some name) × (x ≡ Some (user_tuple uid name))
SlotHolds b slots (Rel alias rel sign path) x = (t : Tuple) × (x ≡ Some t) × (t.rel ≡ rel) × (fits_relation b.catalog.rels t ≡ true) × (path_believes b t sign (path_of slots path) ≡ true)

-- each item holds
abbrev pub SlotsHold : Contents → List (Option Tuple) → List Item → List (Option Tuple) → Type 0
SlotsHold b slots [] [] = Unit {0}
SlotsHold b slots [] (x ∷ xs) = ⊥
SlotsHold b slots (item ∷ items) [] = ⊥
SlotsHold b slots (item ∷ items) (x ∷ xs) = SlotHolds b slots item x × SlotsHold b slots items xs

-- ---- what is chosen, as a slot

abbrev pub slot_of : List UserSlot → Choice → Option Tuple
slot_of users (ChosenUser uid) = option_map (user_tuple uid) (user_name users uid)
slot_of users (ChosenTuple t) = Some t

-- a chosen user is one
abbrev pub is_choice : List UserSlot → Choice → Bool
is_choice users (ChosenUser uid) = is_user users uid
is_choice users (ChosenTuple t) = true

-- a user has a name
pub has_name : (users : List UserSlot) (uid : ℕ) → is_user users uid ≡ true → (name : List ℕ) × (user_name users uid ≡ Some name)
has_name users uid h =
    let k = user_lives users uid h in
    (k.0, cond-true (is_user users uid) (name_at users (uid - 1)) None h ∙ ap (option_and_then live_name) k.1)

-- a column of a user's tuple is that of the user
user_columns : (users : List UserSlot) (uid : ℕ) (name : List ℕ) (col : ℕ) → user_name users uid ≡ Some name → slice_get (user_tuple uid name).vals col ≡ user_column users uid col
user_columns users uid name zero e = refl
user_columns users uid name (suc zero) e = ap (option_map Text) (sym e)
user_columns users uid name (suc (suc col)) e =
    let a : nat_eq (suc (suc col)) 0 ≡ false = grind (arith, nat_tests) in
    let b : nat_eq (suc (suc col)) 1 ≡ false = grind (arith, nat_tests) in
    let named : Option Value = option_map Text (user_name users uid) in
    sym (cond-false (nat_eq (suc (suc col)) 0) (Some (Int (pos uid))) (cond (nat_eq (suc (suc col)) 1) named None) a ∙ cond-false (nat_eq (suc (suc col)) 1) named None b)

slot_column : (users : List UserSlot) (c : Choice) (col : ℕ) → is_choice users c ≡ true → option_and_then (λ t. slice_get t.vals col) (slot_of users c) ≡ choice_column users c col
slot_column users (ChosenUser uid) col h =
    let name = has_name users uid h in
    ap (λ n. option_and_then (λ t. slice_get t.vals col) (option_map (user_tuple uid) n)) name.1 ∙ user_columns users uid name.0 col name.1
slot_column users (ChosenTuple t) col h = refl

pub slot_of_choice : (users : List UserSlot) (chosen : List Choice) (at : ℕ) → slot_at (map (slot_of users) chosen) at ≡ option_and_then (slot_of users) (slice_get chosen at)
slot_of_choice users [] at = refl
slot_of_choice users (c ∷ cs) zero = refl
slot_of_choice users (c ∷ cs) (suc at) = slot_of_choice users cs at

-- the choices of which the items hold are users and tuples
all_get : (users : List UserSlot) (chosen : List Choice) (at : ℕ) (c : Choice) → list_all (is_choice users) chosen ≡ true → slice_get chosen at ≡ Some c → is_choice users c ≡ true
all_get users [] at c h e = cc
all_get users (d ∷ ds) zero c h e =
    let same : d ≡ c = cc in
    ap (is_choice users) (sym same) ∙ (and_parts (is_choice users d) (list_all (is_choice users) ds) h).0
all_get users (d ∷ ds) (suc at) c h e = all_get users ds at c (and_parts (is_choice users d) (list_all (is_choice users) ds) h).1 e

-- the value of a column is the same
pub known_is_chosen : (users : List UserSlot) (chosen : List Choice) → list_all (is_choice users) chosen ≡ true → (r : Ref) → known (map (slot_of users) chosen) r ≡ chosen_value users chosen r
known_is_chosen users chosen h r =
    ap (option_and_then (λ t. slice_get t.vals r.col)) (slot_of_choice users chosen r.item)
    ∙ column (slice_get chosen r.item) (λ c e. all_get users chosen r.item c h e)
  where
    column : (o : Option Choice) → ((c : Choice) → o ≡ Some c → is_choice users c ≡ true)
        → option_and_then (λ t. slice_get t.vals r.col) (option_and_then (slot_of users) o) ≡ option_and_then (λ c. choice_column users c r.col) o
    column None k = refl
    column (Some c) k = slot_column users c r.col (k c refl)

pub operand_is_chosen : (users : List UserSlot) (chosen : List Choice) → list_all (is_choice users) chosen ≡ true → (o : Operand)
    → known_operand (map (slot_of users) chosen) o ≡ chosen_operand users chosen o
operand_is_chosen users chosen h (Col r) = known_is_chosen users chosen h r
operand_is_chosen users chosen h (Lit v) = refl

-- the comparisons hold of both or of neither
pub conds_are_chosen : (users : List UserSlot) (chosen : List Choice) → list_all (is_choice users) chosen ≡ true → (conds : List Cond)
    → must_all_hold (map (slot_of users) chosen) conds ≡ list_all (cond_holds users chosen) conds
conds_are_chosen users chosen h conds = list_all_same (must_hold (map (slot_of users) chosen)) (cond_holds users chosen)
    (λ c. ap (λ x. compare_so c.cmp x (known_operand (map (slot_of users) chosen) c.right)) (known_is_chosen users chosen h c.left)
    ∙ ap (compare_so c.cmp (chosen_value users chosen c.left)) (operand_is_chosen users chosen h c.right))
    conds

-- the selected columns are the same
pub row_is_chosen : (users : List UserSlot) (chosen : List Choice) → list_all (is_choice users) chosen ≡ true → (take : List Ref) → known_row (map (slot_of users) chosen) take ≡ chosen_row users chosen take
row_is_chosen users chosen h [] = refl
row_is_chosen users chosen h (r ∷ rs) =
    ap (λ o. option_and_then (λ v. option_map (λ vs. v ∷ vs) o) (known (map (slot_of users) chosen) r)) (row_is_chosen users chosen h rs)
    ∙ ap (option_and_then (λ v. option_map (λ vs. v ∷ vs) (chosen_row users chosen rs))) (known_is_chosen users chosen h r)

-- ---- paths

-- a choice is of its item's kind
abbrev pub is_of_kind : Item → Choice → Bool
is_of_kind (Users alias) (ChosenUser uid) = true
is_of_kind (Rel alias rel sign path) (ChosenTuple t) = true
is_of_kind _ _ = false

-- each choice is of its item's kind
abbrev pub are_of_kind : List Item → List Choice → Bool
are_of_kind [] [] = true
are_of_kind (item ∷ items) (c ∷ cs) = is_of_kind item c && are_of_kind items cs
are_of_kind _ _ = false

-- for a `Users` item a user is chosen
user_there : (items : List Item) (chosen : List Choice) (at : ℕ) → are_of_kind items chosen ≡ true → is_users_item (slice_get items at) ≡ true → (uid : ℕ) × (slice_get chosen at ≡ Some (ChosenUser uid))
user_there [] chosen at k h = absurd (false≢true h)
user_there (item ∷ items) [] at k h = absurd (false≢true k)
user_there (Users alias ∷ items) (ChosenUser uid ∷ cs) zero k h = (uid, refl)
user_there (Users alias ∷ items) (ChosenTuple t ∷ cs) zero k h = absurd (false≢true k)
user_there (Rel alias rel sign path ∷ items) (c ∷ cs) zero k h = absurd (false≢true h)
user_there (item ∷ items) (c ∷ cs) (suc at) k h = user_there items cs at (and_parts (is_of_kind item c) (are_of_kind items cs) k).1 h

-- a user of a path is the same
pub uid_is_chosen : (users : List UserSlot) (items : List Item) (chosen : List Choice) → are_of_kind items chosen ≡ true → list_all (is_choice users) chosen ≡ true → (who : Who)
    → who_fits users items who ≡ true → uid_of (map (slot_of users) chosen) who ≡ user_of chosen who
uid_is_chosen users items chosen k h (User i) f = refl
uid_is_chosen users items chosen k h (Of item) f =
    let user = user_there items chosen item k f in
    let name = has_name users user.0 (all_get users chosen item (ChosenUser user.0) h user.1) in
    ap (option_map (λ t. t.rel)) (slot_of_choice users chosen item)
    ∙ ap (λ o. option_map (λ t. t.rel) (option_and_then (slot_of users) o)) user.1
    ∙ ap (λ n. option_map (λ t. t.rel) (option_map (user_tuple user.0) n)) name.1
    ∙ sym (ap (option_and_then chosen_user) user.1)

pub path_is_chosen : (users : List UserSlot) (items : List Item) (chosen : List Choice) → are_of_kind items chosen ≡ true → list_all (is_choice users) chosen ≡ true → (path : List Who)
    → list_all (who_fits users items) path ≡ true → path_of (map (slot_of users) chosen) path ≡ chosen_path chosen path
path_is_chosen users items chosen k h [] f = refl
path_is_chosen users items chosen k h (who ∷ whos) f =
    let parts = and_parts (who_fits users items who) (list_all (who_fits users items) whos) f in
    ap (λ o. option_and_then (λ uid. option_map (λ w. uid ∷ w) o) (uid_of (map (slot_of users) chosen) who)) (path_is_chosen users items chosen k h whos parts.1)
    ∙ ap (option_and_then (λ uid. option_map (λ w. uid ∷ w) (chosen_path chosen whos))) (uid_is_chosen users items chosen k h who parts.0)

-- ---- from assignments to slots

pub kinds_hold : (b : Contents) (chosen : List Choice) (items : List Item) (cs : List Choice) → items_hold b chosen items cs ≡ true → (are_of_kind items cs ≡ true) × (list_all (is_choice b.catalog.users) cs ≡ true)
kinds_hold b chosen [] [] h = (refl, refl)
kinds_hold b chosen [] (c ∷ cs) h = absurd (false≢true h)
kinds_hold b chosen (item ∷ items) [] h = absurd (false≢true h)
kinds_hold b chosen (Users alias ∷ items) (ChosenUser uid ∷ cs) h =
    let k = and_parts (is_user b.catalog.users uid) (items_hold b chosen items cs) h in
    let rest = kinds_hold b chosen items cs k.1 in
    (rest.0, and_from (is_user b.catalog.users uid) (list_all (is_choice b.catalog.users) cs) k.0 rest.1)
kinds_hold b chosen (Users alias ∷ items) (ChosenTuple t ∷ cs) h = absurd (false≢true h)
kinds_hold b chosen (Rel alias rel sign path ∷ items) (ChosenUser uid ∷ cs) h = absurd (false≢true h)
kinds_hold b chosen (Rel alias rel sign path ∷ items) (ChosenTuple t ∷ cs) h =
    kinds_hold b chosen items cs (and_parts (item_holds b chosen (Rel alias rel sign path) (ChosenTuple t)) (items_hold b chosen items cs) h).1

-- the paths of items are the same
abbrev pub SamePaths : List (Option Tuple) → List Choice → Item → Type 0
SamePaths slots chosen (Users alias) = Unit {0}
SamePaths slots chosen (Rel alias rel sign path) = path_of slots path ≡ chosen_path chosen path

pub items_hold_of_slots : (b : Contents) (slots : List (Option Tuple)) (chosen : List Choice) (all items : List Item) (cs : List Choice)
    → ((item : Item) → item_fits b.catalog all item ≡ true → SamePaths slots chosen item)
    → list_all (item_fits b.catalog all) items ≡ true → items_hold b chosen items cs ≡ true → SlotsHold b slots items (map (slot_of b.catalog.users) cs)
items_hold_of_slots b slots chosen all [] [] same f h = tt
items_hold_of_slots b slots chosen all [] (c ∷ cs) same f h = absurd (false≢true h)
items_hold_of_slots b slots chosen all (item ∷ items) [] same f h = absurd (false≢true h)
items_hold_of_slots b slots chosen all (Users alias ∷ items) (ChosenUser uid ∷ cs) same f h =
    let k = and_parts (is_user b.catalog.users uid) (items_hold b chosen items cs) h in
    let name = has_name b.catalog.users uid k.0 in
    ((uid, name.0, k.0, name.1, ap (option_map (user_tuple uid)) name.1), items_hold_of_slots b slots chosen all items cs same f k.1)
items_hold_of_slots b slots chosen all (Users alias ∷ items) (ChosenTuple t ∷ cs) same f h = absurd (false≢true h)
items_hold_of_slots b slots chosen all (Rel alias rel sign path ∷ items) (ChosenUser uid ∷ cs) same f h = absurd (false≢true h)
items_hold_of_slots b slots chosen all (Rel alias rel sign path ∷ items) (ChosenTuple t ∷ cs) same f h =
    let k = and_parts (item_holds b chosen (Rel alias rel sign path) (ChosenTuple t)) (items_hold b chosen items cs) h in
    let m = and_parts (nat_eq t.rel rel) (fits_relation b.catalog.rels t && path_believes b t sign (chosen_path chosen path)) k.0 in
    let n = and_parts (fits_relation b.catalog.rels t) (path_believes b t sign (chosen_path chosen path)) m.1 in
    let g = and_parts (item_fits b.catalog all (Rel alias rel sign path)) (list_all (item_fits b.catalog all) items) f in
    ((t, refl, (Decides-eqb t.rel rel).0 m.0, n.0, ap (path_believes b t sign) (same (Rel alias rel sign path) g.0) ∙ n.1), items_hold_of_slots b slots chosen all items cs same g.1 k.1)

-- ---- from slots to assignments

-- what is chosen for an item in a slot
abbrev pub choice_of : Item → Option Tuple → Choice
choice_of (Users alias) None = ChosenUser 0
choice_of (Users alias) (Some t) = ChosenUser t.rel
choice_of (Rel alias rel sign path) None = ChosenUser 0
choice_of (Rel alias rel sign path) (Some t) = ChosenTuple t

abbrev pub choices_of : List Item → List (Option Tuple) → List Choice
choices_of (item ∷ items) (x ∷ xs) = choice_of item x ∷ choices_of items xs
choices_of _ _ = []

pub slots_are_choices : (b : Contents) (slots : List (Option Tuple)) (items : List Item) (xs : List (Option Tuple)) → SlotsHold b slots items xs
    → (xs ≡ map (slot_of b.catalog.users) (choices_of items xs)) × (are_of_kind items (choices_of items xs) ≡ true) × (list_all (is_choice b.catalog.users) (choices_of items xs) ≡ true)
slots_are_choices b slots [] [] h = (refl, refl, refl)
slots_are_choices b slots [] (x ∷ xs) h = absurd h
slots_are_choices b slots (item ∷ items) [] h = absurd h
slots_are_choices b slots (Users alias ∷ items) (x ∷ xs) h =
    let rest = slots_are_choices b slots items xs h.1 in
    let users = b.catalog.users in
    let uid = h.0.0 in
    let is : x ≡ Some (user_tuple uid h.0.1) = h.0.4 in
    let choice : choice_of (Users alias) x ≡ ChosenUser uid = ap (choice_of (Users alias)) is in
    let slot : slot_of users (choice_of (Users alias) x) ≡ x = ap (slot_of users) choice ∙ ap (option_map (user_tuple uid)) h.0.3 ∙ sym is in (
      ap (λ y. y ∷ xs) (sym slot) ∙ ap (λ ys. slot_of users (choice_of (Users alias) x) ∷ ys) rest.0,
      ap (λ c. is_of_kind (Users alias) c && are_of_kind items (choices_of items xs)) choice ∙ rest.1,
      ap (λ c. is_choice users c && list_all (is_choice users) (choices_of items xs)) choice ∙ and_from (is_user users uid) (list_all (is_choice users) (choices_of items xs)) h.0.2 rest.2,
    )
slots_are_choices b slots (Rel alias rel sign path ∷ items) (x ∷ xs) h =
    let rest = slots_are_choices b slots items xs h.1 in
    let users = b.catalog.users in
    let t = h.0.0 in
    let choice : choice_of (Rel alias rel sign path) x ≡ ChosenTuple t = ap (choice_of (Rel alias rel sign path)) h.0.1 in
    let slot : slot_of users (choice_of (Rel alias rel sign path) x) ≡ x = ap (slot_of users) choice ∙ sym h.0.1 in (
      ap (λ y. y ∷ xs) (sym slot) ∙ ap (λ ys. slot_of users (choice_of (Rel alias rel sign path) x) ∷ ys) rest.0,
      ap (λ c. is_of_kind (Rel alias rel sign path) c && are_of_kind items (choices_of items xs)) choice ∙ rest.1,
      ap (λ c. is_choice users c && list_all (is_choice users) (choices_of items xs)) choice ∙ rest.2,
    )

pub items_hold_of_choices : (b : Contents) (slots : List (Option Tuple)) (chosen : List Choice) (all items : List Item) (xs : List (Option Tuple))
    → ((item : Item) → item_fits b.catalog all item ≡ true → SamePaths slots chosen item)
    → list_all (item_fits b.catalog all) items ≡ true → SlotsHold b slots items xs → items_hold b chosen items (choices_of items xs) ≡ true
items_hold_of_choices b slots chosen all [] [] same f h = refl
items_hold_of_choices b slots chosen all [] (x ∷ xs) same f h = absurd h
items_hold_of_choices b slots chosen all (item ∷ items) [] same f h = absurd h
items_hold_of_choices b slots chosen all (Users alias ∷ items) (x ∷ xs) same f h =
    ap (λ c. item_holds b chosen (Users alias) c && items_hold b chosen items (choices_of items xs)) (ap (choice_of (Users alias)) h.0.4)
    ∙ and_from (is_user b.catalog.users h.0.0) (items_hold b chosen items (choices_of items xs)) h.0.2 (items_hold_of_choices b slots chosen all items xs same f h.1)
items_hold_of_choices b slots chosen all (Rel alias rel sign path ∷ items) (x ∷ xs) same f h =
    let g = and_parts (item_fits b.catalog all (Rel alias rel sign path)) (list_all (item_fits b.catalog all) items) f in
    let t = h.0.0 in
    let item : Item = Rel alias rel sign path in
    let here : item_holds b chosen (Rel alias rel sign path) (ChosenTuple t) ≡ true =
    and_from (nat_eq t.rel rel) (fits_relation b.catalog.rels t && path_believes b t sign (chosen_path chosen path)) ((Decides-eqb t.rel rel).1 h.0.2)
    (and_from (fits_relation b.catalog.rels t) (path_believes b t sign (chosen_path chosen path)) h.0.3 (ap (path_believes b t sign) (sym (same item g.0)) ∙ h.0.4)) in
    ap (λ c. item_holds b chosen (Rel alias rel sign path) c && items_hold b chosen items (choices_of items xs)) (ap (choice_of (Rel alias rel sign path)) h.0.1)
    ∙ and_from (item_holds b chosen (Rel alias rel sign path) (ChosenTuple t)) (items_hold b chosen items (choices_of items xs)) here (items_hold_of_choices b slots chosen all items xs same g.1 h.1)

-- ---- both ways

-- the items of a query that fits do so
pub items_fit : (b : Contents) (q : Query) → query_fits b.catalog q ≡ true → list_all (item_fits b.catalog q.items) q.items ≡ true
items_fit b q h = (and_parts (list_all (item_fits b.catalog q.items) q.items) _ (and_parts (list_all (λ def. nat_lt (length def.cols) (2 ^ 32)) b.catalog.rels) _ (and_parts (nat_lt (length q.items) (2 ^ 32)) _ h).1).1).0

-- slots hold of a query, and give a row
pub record AreHeldSlots (b : Contents) (q : Query) (slots : List (Option Tuple)) (row : List Value) : Type 0 where
  pub items : SlotsHold b slots q.items slots
  pub conds : must_all_hold slots q.conds ≡ true
  pub gives : known_row slots q.take ≡ Some row

same_paths : (b : Contents) (items : List Item) (chosen : List Choice) → are_of_kind items chosen ≡ true → list_all (is_choice b.catalog.users) chosen ≡ true
    → (item : Item) → item_fits b.catalog items item ≡ true → SamePaths (map (slot_of b.catalog.users) chosen) chosen item
same_paths b items chosen k h (Users alias) f = tt
same_paths b items chosen k h (Rel alias rel sign path) f =
    let g = and_parts (is_some (slice_get b.catalog.rels rel)) (list_all (who_fits b.catalog.users items) path && fixed_differ path) f in
    path_is_chosen b.catalog.users items chosen k h path (and_parts (list_all (who_fits b.catalog.users items) path) (fixed_differ path) g.1).0

pub held_slots_of_row : (b : Contents) (q : Query) (row : List Value) → list_all (item_fits b.catalog q.items) q.items ≡ true → IsHeldRow b q row → (slots : List (Option Tuple)) × AreHeldSlots b q slots row
held_slots_of_row b q row f a =
    let chosen = a.0 in
    let users = b.catalog.users in
    let k = and_parts (items_hold b chosen q.items chosen) (list_all (cond_holds users chosen) q.conds) a.1 in
    let kinds = kinds_hold b chosen q.items chosen k.0 in (
      map (slot_of users) chosen,
      record {
        items = items_hold_of_slots b (map (slot_of users) chosen) chosen q.items q.items chosen (same_paths b q.items chosen kinds.0 kinds.1) f k.0;
        conds = conds_are_chosen users chosen kinds.1 q.conds ∙ k.1;
        gives = row_is_chosen users chosen kinds.1 q.take ∙ a.2;
      },
    )

pub held_row_of_slots : (b : Contents) (q : Query) (row : List Value) → list_all (item_fits b.catalog q.items) q.items ≡ true → (slots : List (Option Tuple)) → AreHeldSlots b q slots row → IsHeldRow b q row
held_row_of_slots b q row f slots a =
    let users = b.catalog.users in
    let chosen = choices_of q.items slots in
    let are = slots_are_choices b slots q.items slots a.items in
    let same : (item : Item) → item_fits b.catalog q.items item ≡ true → SamePaths slots chosen item =
    λ item g. subst (λ s. SamePaths s chosen item) (sym are.0) (same_paths b q.items chosen are.1 are.2 item g) in (
      chosen,
      and_from (items_hold b chosen q.items chosen) (list_all (cond_holds users chosen) q.conds) (items_hold_of_choices b slots chosen q.items q.items slots same f a.items)
          (sym (conds_are_chosen users chosen are.2 q.conds) ∙ ap (λ s. must_all_hold s q.conds) (sym are.0) ∙ a.conds),
      sym (row_is_chosen users chosen are.2 q.take) ∙ ap (λ s. known_row s q.take) (sym are.0) ∙ a.gives,
    )
