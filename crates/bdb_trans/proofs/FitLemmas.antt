-- The plan of a query uses only what an earlier step set.
use Rattle.std.proofs.Common.{◌≡◌, ◌∙◌, ℕ, suc, ◌+◌, ◌-◌, ◌<◌, ◌≤◌, ◌^◌, ◌⊎◌, Bool, true, false, not, ◌&&◌, ◌||◌, nat_eq, nat_lt, nat_le, List, [], ◌∷◌, ◌++◌, Option, None, Some, inl, inr, refl, ap, sym, subst, length, map, filter, arith}
use Prim.Native.Nat.{zero}
use Rattle.std.specs.List.{list_all, slice_get}
use Rattle.std.specs.Option.{option_and_then, is_some}
use Rattle.std.proofs.lemmas.Bool.{false≢true, cases_Bool, cond-true, cond-false, or_cases, or_left, and_parts, and_from, eqb-true, lt-ltb, or_right}
use Rattle.std.proofs.lemmas.Bool.Decides.{Decides-eqb, nat_tests}
use Rattle.std.proofs.lemmas.Option.{slice_get_within}
use Rattle.std.proofs.lemmas.List.{append-nil}
use Rattle.bdb_base.specs.declared.kinds.Catalog.{Catalog}
use Rattle.bdb_base.specs.declared.kinds.ColDef.{ColDef}
use Rattle.bdb_base.specs.declared.kinds.Cond.{Cond}
use Rattle.bdb_base.specs.declared.kinds.Item.{Item}
use Rattle.bdb_base.specs.declared.kinds.Item.TheVariants.{Users, Rel}
use Rattle.bdb_base.specs.declared.kinds.Operand.{Operand}
use Rattle.bdb_base.specs.declared.kinds.Operand.TheVariants.{Col, Lit}
use Rattle.bdb_base.specs.declared.kinds.Query.{Query}
use Rattle.bdb_base.specs.declared.kinds.Ref.{Ref}
use Rattle.bdb_base.specs.declared.kinds.RelDef.{RelDef}
use Rattle.bdb_base.specs.declared.kinds.Sign.{Sign}
use Rattle.bdb_base.specs.declared.kinds.Sign.TheVariants.{Plus, Minus}
use Rattle.bdb_base.specs.declared.kinds.Who.{Who}
use Rattle.bdb_base.specs.declared.kinds.Who.TheVariants.{User, Of}
use Rattle.bdb_base.specs.Bases.{is_valid_relation}
use Rattle.bdb_base.specs.Queries.{columns_at, columns_of_definition}
use Rattle.bdb_base.specs.Safety.{is_given, is_minus, is_users_item, is_literal, who_fits, fixed_differ, item_fits, item_kinds, column_kind, operand_kind, joins_one_kind, query_fits, IsSafe}
use Rattle.bdb_base.proofs.ListLemmas.{list_all_get, list_all_weaker, filter_kept_one, filter_dropped_one}
use Rattle.bdb_base.proofs.UserLemmas.{list_all-filter_both}
use Rattle.bdb_base.proofs.OptionLemmas.{some_of}
use Rattle.bdb_plan.specs.declared.step.Step.{Step}
use Rattle.bdb_plan.specs.declared.step.Step.TheVariants as step
use Rattle.bdb_plan.specs.Fitness.{SetSoFar, is_among, has_bound, was_bound, is_known, is_set, operand_is_set, who_is_set, is_walked, is_new, comes_next, is_whole, placed_if, with_user, with_walk, with_tuple, bound_count, with_all_bound, placed_after, placed_at_end, takes_set, fits_from, at_first}
use Rattle.bdb_plan.specs.PlanOf.{differ_from, walk_from, walk_of, bind_of, binds_from, operand_set, all_set, due, item_steps, steps_from, places, is_users, is_plus, is_minus_item, order_of}
use Rattle.bdb_plan.specs.Sources.{source_of}
use Rattle.bdb_trans.specs.Orders.{who_among, Needs, OrderFits, IsOrder}
use Rattle.bdb_trans.proofs.HoldLemmas.{there_in_order, both_there, set_after, comes_set}
use Rattle.bdb_trans.proofs.PlaceLemmas.{from_zero, in_order}
use Rattle.bdb_trans.proofs.SourceLemmas.{move_on, here_at, joined_keeps, conds_keep_kinds, bound_has_source, IsSource, literal, column, source_is}

-- ---- steps, one after the other

pub placed_append : (n : ℕ) (w : ℕ → ℕ → Bool) (o : Option SetSoFar) (xs ys : List Step) → placed_at_end n w o (xs ++ ys) ≡ placed_at_end n w (placed_at_end n w o xs) ys
placed_append n w None xs ys = refl
placed_append n w (Some p) [] ys = refl
placed_append n w (Some p) (x ∷ xs) ys = placed_append n w (placed_after n w p x) xs ys

-- steps lead from what is set to what is set
abbrev Leads : ℕ → (ℕ → ℕ → Bool) → SetSoFar → List Step → SetSoFar → Type 0
Leads n w p xs p' = placed_at_end n w (Some p) xs ≡ Some p'

leads_both : (n : ℕ) (w : ℕ → ℕ → Bool) (p p' p'' : SetSoFar) (xs ys : List Step) → Leads n w p xs p' → Leads n w p' ys p'' → Leads n w p (xs ++ ys) p''
leads_both n w p p' p'' xs ys h g = placed_append n w (Some p) xs ys ∙ ap (λ o. placed_at_end n w o ys) h ∙ g

leads_first : (n : ℕ) (w : ℕ → ℕ → Bool) (p p' p'' : SetSoFar) (x : Step) (ys : List Step) → placed_after n w p x ≡ Some p' → Leads n w p' ys p'' → Leads n w p (x ∷ ys) p''
leads_first n w p p' p'' x ys h g = ap (λ o. placed_at_end n w o ys) h ∙ g

if_so : (t : Bool) (p : SetSoFar) → t ≡ true → placed_if t p ≡ Some p
if_so t p h = ap (λ b. placed_if b p) h

-- one step that holds where a test does
leads_one : (n : ℕ) (w : ℕ → ℕ → Bool) (p p' : SetSoFar) (x : Step) (t : Bool) → placed_after n w p x ≡ placed_if t p' → t ≡ true → Leads n w p (x ∷ []) p'
leads_one n w p p' x t e h = ap (λ o. placed_at_end n w o []) (e ∙ if_so t p' h)

-- ---- walks

differs : (n : ℕ) (w : ℕ → ℕ → Bool) (p : SetSoFar) (item : ℕ) (before : Option Who) (who : Who) → is_walked p.walk item ≡ true → ((b : Who) → before ≡ Some b → who_is_set p b ≡ true) → who_is_set p who ≡ true
    → Leads n w p (differ_from item before who) p
differs n w p item None who m h g = refl
differs n w p item (Some (User i)) (User j) m h g = refl
differs n w p item (Some (User i)) (Of k) m h g =
    leads_one n w p p (step.Differ item (User i) (Of k)) (is_walked p.walk item && is_among p.users k) refl (and_from (is_walked p.walk item) (is_among p.users k) m g)
differs n w p item (Some (Of k)) who m h g =
    leads_one n w p p (step.Differ item (Of k) who) (is_walked p.walk item && (is_among p.users k && who_is_set p who)) refl
    (and_from (is_walked p.walk item) (is_among p.users k && who_is_set p who) m (and_from (is_among p.users k) (who_is_set p who) (h (Of k) refl) g))

walks : (n : ℕ) (w : ℕ → ℕ → Bool) (p : SetSoFar) (item : ℕ) (before : Option Who) (path : List Who) → is_walked p.walk item ≡ true → ((b : Who) → before ≡ Some b → who_is_set p b ≡ true) → list_all (who_is_set p) path ≡ true
    → Leads n w p (walk_from item before path) p
walks n w p item before [] m h g = refl
walks n w p item before (who ∷ whos) m h g =
    let k = and_parts (who_is_set p who) (list_all (who_is_set p) whos) g in
    leads_both n w p p p (differ_from item before who) (step.Edge item who ∷ walk_from item (Some who) whos) (differs n w p item before who m h k.0)
    (leads_first n w p p p (step.Edge item who) (walk_from item (Some who) whos) (if_so (is_walked p.walk item && who_is_set p who) p (and_from (is_walked p.walk item) (who_is_set p who) m k.0))
    (walks n w p item (Some who) whos m (λ b e. let same : who ≡ b = cc in ap (who_is_set p) (sym same) ∙ k.0) k.1))

-- ---- tests

tests_lead : (n : ℕ) (w : ℕ → ℕ → Bool) (p : SetSoFar) (cs : List Cond) → list_all (λ c. is_set p c.left && operand_is_set p c.right) cs ≡ true → Leads n w p (map step.Test cs) p
tests_lead n w p [] h = refl
tests_lead n w p (c ∷ cs) h =
    let k = and_parts (is_set p c.left && operand_is_set p c.right) (list_all (λ c. is_set p c.left && operand_is_set p c.right) cs) h in
    leads_first n w p p p (step.Test c) (map step.Test cs) (if_so (is_set p c.left && operand_is_set p c.right) p k.0) (tests_lead n w p cs k.1)

-- the tests that are due use what is set, where each column of an item that is there is so
due_set : (rels : List RelDef) (q : Query) (set : List ℕ) (at : ℕ) (p : SetSoFar) → list_all (joins_one_kind rels q.items) q.conds ≡ true
    → ((r : Ref) → is_among (at ∷ set) r.item ≡ true → is_some (column_kind rels q.items r) ≡ true → is_set p r ≡ true) → list_all (λ c. is_set p c.left && operand_is_set p c.right) (due set at q.conds) ≡ true
due_set rels q set at p f h = list_all-filter_both (joins_one_kind rels q.items) (λ c. all_set (at ∷ set) c && not (all_set set c)) (λ c. is_set p c.left && operand_is_set p c.right) one q.conds f
  where
    right : (o : Operand) → operand_set (at ∷ set) o ≡ true → is_some (operand_kind rels q.items o) ≡ true → operand_is_set p o ≡ true
    right (Col r) a k = h r a k
    right (Lit v) a k = refl

    one : (c : Cond) → joins_one_kind rels q.items c ≡ true → all_set (at ∷ set) c && not (all_set set c) ≡ true → is_set p c.left && operand_is_set p c.right ≡ true
    one c j a =
        let there = both_there rels q.items c j in
        let k = and_parts (is_among (at ∷ set) c.left.item) (operand_set (at ∷ set) c.right) (and_parts (all_set (at ∷ set) c) (not (all_set set c)) a).0 in
        and_from (is_set p c.left) (operand_is_set p c.right) (h c.left k.0 there.0) (right c.right k.1 there.1)

-- ---- items

itself : (at : ℕ) → nat_eq at at ≡ true
itself at = (Decides-eqb at at).1 refl

walk_leads : (n : ℕ) (w : ℕ → ℕ → Bool) (p : SetSoFar) (item : ℕ) (path : List Who) → item < n → list_all (who_is_set (with_walk p item)) path ≡ true
    → Leads n w p (walk_of item path) (with_walk p item)
walk_leads n w before item path within g =
    let p = with_walk before item in
    leads_first n w before p p (step.Start item) (walk_from item None path) (if_so (nat_lt item n) p (lt-ltb item n within)) (walks n w p item None path (itself item) (λ b e. cc) g)

-- a `Users` item is at a place
abbrev is_user_at : Query → ℕ → Bool
is_user_at q at = is_users_item (slice_get q.items at)

-- the items for which a user is chosen
abbrev chosen : Query → List ℕ → List ℕ
chosen q set = filter (is_user_at q) set

among_chosen : (q : Query) (set : List ℕ) (k : ℕ) → is_among set k ≡ true → is_user_at q k ≡ true → is_among (chosen q set) k ≡ true
among_chosen q [] k h g = absurd (false≢true h)
among_chosen q (at ∷ set) k h g = elim (or_cases (nat_eq k at) (is_among set k) h) [
  | inl m ↦ ap (λ xs. is_among xs k) (filter_kept_one (is_user_at q) at set (ap (is_user_at q) (sym (eqb-true k at m)) ∙ g)) ∙ or_left (nat_eq k at) (is_among (chosen q set) k) m
  | inr m ↦
      let rest = among_chosen q set k m g in
      elim (cases_Bool (is_user_at q at)) [
        | inl e ↦ ap (λ xs. is_among xs k) (filter_kept_one (is_user_at q) at set e) ∙ or_right (nat_eq k at) (is_among (chosen q set) k) rest
        | inr e ↦ ap (λ xs. is_among xs k) (filter_dropped_one (is_user_at q) at set e) ∙ rest
      ]
]

chosen_is_user : (q : Query) (set : List ℕ) (k : ℕ) → is_among (chosen q set) k ≡ true → is_user_at q k ≡ true
chosen_is_user q [] k h = absurd (false≢true h)
chosen_is_user q (at ∷ set) k h = elim (cases_Bool (is_user_at q at)) [
  | inl e ↦ elim (or_cases (nat_eq k at) (is_among (chosen q set) k) (sym (ap (λ xs. is_among xs k) (filter_kept_one (is_user_at q) at set e)) ∙ h)) [
    | inl m ↦ ap (is_user_at q) (eqb-true k at m) ∙ e
    | inr m ↦ chosen_is_user q set k m
  ]
  | inr e ↦ chosen_is_user q set k (sym (ap (λ xs. is_among xs k) (filter_dropped_one (is_user_at q) at set e)) ∙ h)
]

-- what is bound of an item once each of these columns is
abbrev all_bound : ℕ → List ColDef → Option (ℕ × ℕ)
all_bound at [] = None
all_bound at (c ∷ cs) = Some (at, length (c ∷ cs))

-- the denied items, each with how many columns it has
abbrev denied_more : List RelDef → ℕ → Option Item → List (ℕ × ℕ) → List (ℕ × ℕ)
denied_more rels at (Some (Rel alias rel Minus path)) ds = (at, length (columns_at rels rel)) ∷ ds
denied_more rels at _ ds = ds

abbrev denied_of : List RelDef → Query → List ℕ → List (ℕ × ℕ)
denied_of rels q [] = []
denied_of rels q (at ∷ set) = denied_more rels at (slice_get q.items at) (denied_of rels q set)

-- what is set once the steps of items are done
abbrev placed : List RelDef → Query → List ℕ → Option (ℕ × ℕ) → Option ℕ → SetSoFar
placed rels q set o walk = record { users = chosen q set; items = set; denied = denied_of rels q set; bound = o; walk = walk }

column_within : (rels : List RelDef) (items : List Item) (r : Ref) (alias : List ℕ) (rel : ℕ) (path : List Who) → slice_get items r.item ≡ Some (Rel alias rel Minus path) → is_some (column_kind rels items r) ≡ true
    → r.col < length (columns_at rels rel)
column_within rels items r alias rel path e h =
    let k = some_of (slice_get (map (λ c. c.kind) (columns_at rels rel)) r.col) (sym (ap (λ o. is_some (option_and_then (λ item. slice_get (item_kinds rels item) r.col) o)) e) ∙ h) in
    subst (λ m. r.col < m) (map_long (columns_at rels rel)) (slice_get_within (map (λ c. c.kind) (columns_at rels rel)) r.col k.0 k.1)
  where
    map_long : (cols : List ColDef) → length (map (λ c. c.kind) cols) ≡ length cols
    map_long [] = refl
    map_long (c ∷ cs) = ap suc (map_long cs)

-- a column that is there was bound, where its item is denied
was_bound_more : (rels : List RelDef) (q : Query) (at : ℕ) (r : Ref) → is_some (column_kind rels q.items r) ≡ true → (ds : List (ℕ × ℕ)) → was_bound ds r ≡ true
    → was_bound (denied_more rels at (slice_get q.items at) ds) r ≡ true
was_bound_more rels q at r h ds rest = by (slice_get q.items at) refl
  where
    minus : (k : ℕ) → (nat_eq r.item at ≡ true → r.col < k) → was_bound ((at, k) ∷ ds) r ≡ true
    minus k f =
        and_from (not (nat_eq r.item at) || nat_lt r.col k) (was_bound ds r) (elim (cases_Bool (nat_eq r.item at)) [
          | inl e ↦ or_right (not (nat_eq r.item at)) (nat_lt r.col k) (lt-ltb r.col k (f e))
          | inr e ↦ ap (λ b. not b || nat_lt r.col k) e
        ]) rest

    by : (o : Option Item) → slice_get q.items at ≡ o → was_bound (denied_more rels at o ds) r ≡ true
    by None e = rest
    by (Some (Users alias)) e = rest
    by (Some (Rel alias rel Plus path)) e = rest
    by (Some (Rel alias rel Minus path)) e = minus (length (columns_at rels rel)) (λ m. column_within rels q.items r alias rel path (ap (slice_get q.items) (eqb-true r.item at m) ∙ e) h)

was_bound_there : (rels : List RelDef) (q : Query) (set : List ℕ) (r : Ref) → is_some (column_kind rels q.items r) ≡ true → was_bound (denied_of rels q set) r ≡ true
was_bound_there rels q [] r h = refl
was_bound_there rels q (at ∷ set) r h = was_bound_more rels q at r h (denied_of rels q set) (was_bound_there rels q set r h)

-- a column that is there is set, once its item is
column_set : (rels : List RelDef) (q : Query) (set : List ℕ) (o : Option (ℕ × ℕ)) (walk : Option ℕ) (r : Ref) → is_among set r.item ≡ true → is_some (column_kind rels q.items r) ≡ true
    → is_set (placed rels q set o walk) r ≡ true
column_set rels q set o walk r a h =
    let p = placed rels q set o walk in
    let all = is_among p.items r.item && was_bound p.denied r in
    or_left (is_known p r) (has_bound o r) (elim (cases_Bool (is_among p.users r.item)) [
      | inl e ↦ cond-true (is_among p.users r.item) (nat_lt r.col 2) all e ∙ two (slice_get q.items r.item) r.col (chosen_is_user q set r.item e) h
      | inr e ↦ cond-false (is_among p.users r.item) (nat_lt r.col 2) all e ∙ and_from (is_among set r.item) (was_bound p.denied r) a (was_bound_there rels q set r h)
    ])
  where
    two : (o : Option Item) (col : ℕ) → is_users_item o ≡ true → is_some (option_and_then (λ item. slice_get (item_kinds rels item) col) o) ≡ true → nat_lt col 2 ≡ true
    two None col u h = absurd (false≢true u)
    two (Some (Rel alias rel sign path)) col u h = absurd (false≢true u)
    two (Some (Users alias)) zero u h = refl
    two (Some (Users alias)) (suc zero) u h = refl
    two (Some (Users alias)) (suc (suc col)) u h = absurd (false≢true h)

-- a user of a path is fixed, or that of a `Users` item
abbrev names_user : Query → Who → Bool
names_user q (User i) = true
names_user q (Of k) = is_user_at q k

path_set : (rels : List RelDef) (q : Query) (set : List ℕ) (o : Option (ℕ × ℕ)) (walk : Option ℕ) (path : List Who) → list_all (who_among set) path ≡ true → list_all (names_user q) path ≡ true
    → list_all (who_is_set (placed rels q set o walk)) path ≡ true
path_set rels q set o walk [] h g = refl
path_set rels q set o walk (who ∷ whos) h g =
    let k = and_parts (who_among set who) (list_all (who_among set) whos) h in
    let m = and_parts (names_user q who) (list_all (names_user q) whos) g in
    let p = placed rels q set o walk in
    and_from (who_is_set p who) (list_all (who_is_set p) whos) (one who k.0 m.0) (path_set rels q set o walk whos k.1 m.1)
  where
    one : (who : Who) → who_among set who ≡ true → names_user q who ≡ true → who_is_set (placed rels q set o walk) who ≡ true
    one (User i) h g = refl
    one (Of k) h g = among_chosen q set k h g

new_one : (n at : ℕ) (rels : List RelDef) (q : Query) (set : List ℕ) (walk : Option ℕ) → at < n → is_among set at ≡ false → is_new n (placed rels q set None walk) at ≡ true
new_one n at rels q set walk h g = and_from (nat_lt at n) (not (is_among set at) && true) (lt-ltb at n h) (ap (λ b. not b && true) g)

-- what the lemmas on items need of a catalog and a query
pub record IsFit (rels : List RelDef) (w : ℕ → ℕ → Bool) (q : Query) : Type 0 where
  pub whole : (rel : ℕ) → is_some (slice_get rels rel) ≡ true → w rel (length (columns_at rels rel)) ≡ true
  pub conds : list_all (joins_one_kind rels q.items) q.conds ≡ true
  pub rels_there : (i : ℕ) (alias : List ℕ) (rel : ℕ) (path : List Who) → slice_get q.items i ≡ Some (Rel alias rel Minus path) → is_some (slice_get rels rel) ≡ true
  pub users_named : (i : ℕ) (alias : List ℕ) (rel : ℕ) (sign : Sign) (path : List Who) → slice_get q.items i ≡ Some (Rel alias rel sign path) → list_all (names_user q) path ≡ true
  pub safe : IsSafe rels q

-- one item's columns are bound
source_set : (w : ℕ → ℕ → Bool) (rels : List RelDef) (q : Query) → IsFit rels w q → (set : List ℕ) (o : Option (ℕ × ℕ)) (walk : Option ℕ) → ((k : ℕ) → is_given (slice_get q.items k) ≡ true → is_among set k ≡ true)
    → (r : Ref) (x : Operand) → is_some (column_kind rels q.items r) ≡ true → IsSource rels q r x → operand_is_set (placed rels q set o walk) x ≡ true
source_set w rels q fit set o walk h r x there (literal c e l j p) = lit c.right l
  where
    lit : (y : Operand) → is_literal y ≡ true → operand_is_set (placed rels q set o walk) y ≡ true
    lit (Col s) l = absurd (false≢true l)
    lit (Lit v) l = refl
source_set w rels q fit set o walk h r x there (column s j g) =
    let keeps = joined_keeps (column_kind rels q.items) q.conds (conds_keep_kinds rels q.items q.conds fit.conds) r s j in
    column_set rels q set o walk s (h s.item g) (ap is_some (sym keeps) ∙ there)

-- a column is there, and has a source
record HasSource (rels : List RelDef) (q : Query) (r : Ref) : Type 0 where
  there : is_some (column_kind rels q.items r) ≡ true
  source : is_some (source_of rels q r) ≡ true

bind_leads : (n : ℕ) (w : ℕ → ℕ → Bool) (rels : List RelDef) (q : Query) → IsFit rels w q → (set : List ℕ) (o : Option (ℕ × ℕ)) (walk : Option ℕ) (at col : ℕ) → ((k : ℕ) → is_given (slice_get q.items k) ≡ true → is_among set k ≡ true)
    → comes_next n (placed rels q set o walk) o at col ≡ true → HasSource rels q (record { item = at; col = col })
    → Leads n w (placed rels q set o walk) (bind_of (record { item = at; col = col }) (source_of rels q (record { item = at; col = col }))) (placed rels q set (Some (at, col + 1)) walk)
bind_leads n w rels q fit set o walk at col given next has =
    let r : Ref = record { item = at; col = col } in
    let p = placed rels q set o walk in
    let end = placed rels q set (Some (at, col + 1)) walk in
    let src = some_of (source_of rels q r) has.source in
    let set_there = source_set w rels q fit set o walk given r src.0 has.there (source_is rels q r src.0 src.1) in
    subst (λ x. Leads n w p (bind_of r x) end) (sym src.1)
    (leads_one n w p end (step.Bind at col src.0) (operand_is_set p src.0 && comes_next n p o at col) refl (and_from (operand_is_set p src.0) (comes_next n p o at col) set_there next))

bound_next : (n : ℕ) (p : SetSoFar) (at col : ℕ) → comes_next n p (Some (at, col)) at col ≡ true
bound_next n p at col = and_from (nat_eq at at) (nat_eq col col) (itself at) (itself col)

first_source : (rels : List RelDef) (q : Query) (at col : ℕ) → HasSource rels q (record { item = at; col = col + zero }) → HasSource rels q (record { item = at; col = col })
first_source rels q at col h =
    let same : col + zero ≡ col = omega arith in
    subst (λ i. HasSource rels q (record { item = at; col = i })) same h

later_source : (rels : List RelDef) (q : Query) (at col k : ℕ) → HasSource rels q (record { item = at; col = col + suc k }) → HasSource rels q (record { item = at; col = (col + 1) + k })
later_source rels q at col k h =
    let same : col + suc k ≡ (col + 1) + k = omega arith in
    subst (λ i. HasSource rels q (record { item = at; col = i })) same h

binds_lead : (n : ℕ) (w : ℕ → ℕ → Bool) (rels : List RelDef) (q : Query) → IsFit rels w q → (set : List ℕ) (o : Option (ℕ × ℕ)) (walk : Option ℕ) (at col : ℕ) (c : ColDef) (cs : List ColDef)
    → ((k : ℕ) → is_given (slice_get q.items k) ≡ true → is_among set k ≡ true) → comes_next n (placed rels q set o walk) o at col ≡ true → ((k : ℕ) → k < length (c ∷ cs) → HasSource rels q (record { item = at; col = col + k }))
    → Leads n w (placed rels q set o walk) (binds_from rels q at col (c ∷ cs)) (placed rels q set (Some (at, col + length (c ∷ cs))) walk)
binds_lead n w rels q fit set o walk at col c [] given next has =
    let r : Ref = record { item = at; col = col } in
    let one : col + 1 ≡ col + length (c ∷ []) = omega arith in
    let bind = bind_leads n w rels q fit set o walk at col given next (first_source rels q at col (has 0 (omega arith))) in
    leads_both n w (placed rels q set o walk) (placed rels q set (Some (at, col + 1)) walk) (placed rels q set (Some (at, col + length (c ∷ []))) walk) (bind_of r (source_of rels q r)) [] bind (ap (λ k. Some (placed rels q set (Some (at, k)) walk)) one)
binds_lead n w rels q fit set o walk at col c (d ∷ ds) given next has =
    let r : Ref = record { item = at; col = col } in
    let more = placed rels q set (Some (at, col + 1)) walk in
    let end : (col + 1) + length (d ∷ ds) ≡ col + length (c ∷ d ∷ ds) = omega arith in
    let bind = bind_leads n w rels q fit set o walk at col given next (first_source rels q at col (has 0 (omega arith))) in
    let rest = binds_lead n w rels q fit set (Some (at, col + 1)) walk at (col + 1) d ds given (bound_next n more at (col + 1)) (λ k lt. later_source rels q at col k (has (suc k) (omega arith))) in
    leads_both n w (placed rels q set o walk) more (placed rels q set (Some (at, col + length (c ∷ d ∷ ds))) walk) (bind_of r (source_of rels q r)) (binds_from rels q at (col + 1) (d ∷ ds)) bind
    (rest ∙ ap (λ k. Some (placed rels q set (Some (at, k)) walk)) end)

column_at_there : (cols : List ColDef) (k : ℕ) → k < length cols → is_some (slice_get (map (λ c. c.kind) cols) k) ≡ true
column_at_there [] k h = absurd (omega arith)
column_at_there (c ∷ cs) zero h = refl
column_at_there (c ∷ cs) (suc k) h = column_at_there cs k (omega arith)

from_nothing : (k : ℕ) → 0 + k ≡ k
from_nothing k = omega arith

-- all columns of a minus item are bound
minus_binds : (n : ℕ) (w : ℕ → ℕ → Bool) (rels : List RelDef) (q : Query) → IsFit rels w q → (set : List ℕ) (walk : Option ℕ) (at : ℕ) (alias : List ℕ) (rel : ℕ) (path : List Who) → at < n → is_among set at ≡ false
    → slice_get q.items at ≡ Some (Rel alias rel Minus path) → Needs q set (Rel alias rel Minus path)
    → Leads n w (placed rels q set None walk) (binds_from rels q at 0 (columns_at rels rel)) (placed rels q set (all_bound at (columns_at rels rel)) walk)
minus_binds n w rels q fit set walk at alias rel path within apart e needs = by (columns_at rels rel) has
  where
    by : (cols : List ColDef) → ((k : ℕ) → k < length cols → HasSource rels q (record { item = at; col = 0 + k }))
        → Leads n w (placed rels q set None walk) (binds_from rels q at 0 cols) (placed rels q set (all_bound at cols) walk)
    by [] h = refl
    by (c ∷ cs) h =
        let p = placed rels q set None walk in
        let start : comes_next n p None at 0 ≡ true = and_from (is_new n p at) true (new_one n at rels q set walk within apart) refl in
        binds_lead n w rels q fit set None walk at 0 c cs needs.1 start h ∙ ap (λ k. Some (placed rels q set (Some (at, k)) walk)) (from_nothing (length (c ∷ cs)))

    has : (k : ℕ) → k < length (columns_at rels rel) → HasSource rels q (record { item = at; col = 0 + k })
    has k lt =
        let r : Ref = record { item = at; col = 0 + k } in
        let there : is_some (column_kind rels q.items r) ≡ true = ap (λ o. is_some (option_and_then (λ item. slice_get (item_kinds rels item) (0 + k)) o)) e ∙ column_at_there (columns_at rels rel) (0 + k) (subst (λ i. i < length (columns_at rels rel)) (sym (from_nothing k)) lt) in
        record { there = there; source = bound_has_source rels q fit.conds (fit.safe r (record { minus = ap is_minus e; there = there })) there }

-- once all columns of a minus item are bound, each column of it is set, it is whole, and so many are counted
column_bound : (rels : List RelDef) (q : Query) (set : List ℕ) (walk : Option ℕ) (at : ℕ) (cols : List ColDef) (r : Ref) → nat_eq r.item at ≡ true → r.col < length cols → is_set (placed rels q set (all_bound at cols) walk) r ≡ true
column_bound rels q set walk at [] r m lt = absurd (omega arith)
column_bound rels q set walk at (c ∷ cs) r m lt =
    let p = placed rels q set (all_bound at (c ∷ cs)) walk in
    or_right (is_known p r) (nat_eq r.item at && nat_lt r.col (length (c ∷ cs))) (and_from (nat_eq r.item at) (nat_lt r.col (length (c ∷ cs))) m (lt-ltb r.col (length (c ∷ cs)) lt))

all_whole : (n : ℕ) (w : ℕ → ℕ → Bool) (rels : List RelDef) (q : Query) (set : List ℕ) (walk : Option ℕ) (at rel : ℕ) (cols : List ColDef) → at < n → is_among set at ≡ false → w rel (length cols) ≡ true
    → is_whole n w (placed rels q set (all_bound at cols) walk) (all_bound at cols) at rel ≡ true
all_whole n w rels q set walk at rel [] within apart h = and_from (is_new n (placed rels q set None walk) at) (w rel 0) (new_one n at rels q set walk within apart) h
all_whole n w rels q set walk at rel (c ∷ cs) within apart h = and_from (nat_eq at at) (w rel (length (c ∷ cs))) (itself at) h

all_counted : (at : ℕ) (cols : List ColDef) → bound_count (all_bound at cols) ≡ length cols
all_counted at [] = refl
all_counted at (c ∷ cs) = refl

-- steps lead from where some items are set to where others are, whichever walk is left
abbrev LeadsOn : ℕ → (ℕ → ℕ → Bool) → List RelDef → Query → List ℕ → Option ℕ → List Step → List ℕ → Type 0
LeadsOn n w rels q set walk xs more = (left : Option ℕ) × Leads n w (placed rels q set None walk) xs (placed rels q more None left)

due_lead : (n : ℕ) (w : ℕ → ℕ → Bool) (rels : List RelDef) (q : Query) → IsFit rels w q → (set : List ℕ) (at : ℕ) (walk : Option ℕ)
    → Leads n w (placed rels q (at ∷ set) None walk) (map step.Test (due set at q.conds) ++ []) (placed rels q (at ∷ set) None walk)
due_lead n w rels q fit set at walk =
    let p = placed rels q (at ∷ set) None walk in
    leads_both n w p p p (map step.Test (due set at q.conds)) [] (tests_lead n w p (due set at q.conds) (due_set rels q set at p fit.conds (λ r a k. column_set rels q (at ∷ set) None walk r a k))) refl

-- of an item that is no `Users` item no user is chosen
none_chosen : (q : Query) (set : List ℕ) (at : ℕ) (alias : List ℕ) (rel : ℕ) (sign : Sign) (path : List Who) → slice_get q.items at ≡ Some (Rel alias rel sign path) → chosen q set ≡ chosen q (at ∷ set)
none_chosen q set at alias rel sign path e = sym (filter_dropped_one (is_user_at q) at set (ap is_users_item e))

-- what is set, from its parts
abbrev made : List ℕ → List ℕ → List (ℕ × ℕ) → Option ℕ → SetSoFar
made users items denied walk = record { users = users; items = items; denied = denied; bound = None; walk = walk }

same_made : (users users' items : List ℕ) (denied denied' : List (ℕ × ℕ)) (walk : Option ℕ) → users ≡ users' → denied ≡ denied' → made users items denied walk ≡ made users' items denied' walk
same_made users users' items denied denied' walk u d = ap (λ x. made x items denied walk) u ∙ ap (λ x. made users' items x walk) d

item_leads : (n : ℕ) (w : ℕ → ℕ → Bool) (rels : List RelDef) (q : Query) → IsFit rels w q → (set : List ℕ) (walk : Option ℕ) (at : ℕ) (item : Item) → at < n → is_among set at ≡ false → slice_get q.items at ≡ Some item → Needs q set item
    → LeadsOn n w rels q set walk (item_steps rels q set at (Some item)) (at ∷ set)
item_leads n w rels q fit set walk at (Users alias) within apart e needs =
    let p = placed rels q set None walk in
    let end = placed rels q (at ∷ set) None walk in
    let test = is_new n p at in
    let same : with_user p at ≡ end = same_made (at ∷ p.users) end.users (at ∷ set) p.denied end.denied walk (sym (filter_kept_one (is_user_at q) at set (ap is_users_item e))) (sym (ap (λ o. denied_more rels at o p.denied) e)) in (
      walk,
      leads_both n w p end end (step.User at ∷ []) (map step.Test (due set at q.conds) ++ [])
          (leads_one n w p end (step.User at) test (ap (placed_if test) same) (new_one n at rels q set walk within apart))
          (due_lead n w rels q fit set at walk),
    )
item_leads n w rels q fit set walk at (Rel alias rel Plus path) within apart e needs =
    let p = placed rels q set None walk in
    let walked = placed rels q set None (Some at) in
    let end = placed rels q (at ∷ set) None (Some at) in
    let test = nat_eq at at && is_new n walked at in
    let same : with_tuple walked at ≡ end = same_made p.users end.users (at ∷ set) p.denied end.denied (Some at) (none_chosen q set at alias rel Plus path e) (sym (ap (λ o. denied_more rels at o p.denied) e)) in
    let path_there = path_set rels q set None (Some at) path needs (fit.users_named at alias rel Plus path e) in (
      Some at,
      leads_both n w p end end (walk_of at path ++ (step.Pos at rel ∷ [])) (map step.Test (due set at q.conds) ++ [])
          (leads_both n w p walked end (walk_of at path) (step.Pos at rel ∷ []) (walk_leads n w p at path within path_there)
          (leads_one n w walked end (step.Pos at rel) test (ap (placed_if test) same) (and_from (nat_eq at at) (is_new n walked at) (itself at) (new_one n at rels q set (Some at) within apart))))
          (due_lead n w rels q fit set at (Some at)),
    )
item_leads n w rels q fit set walk at (Rel alias rel Minus path) within apart e needs =
    let cols = columns_at rels rel in
    let o = all_bound at cols in
    let p = placed rels q set None walk in
    let b = placed rels q set o walk in
    let walked = placed rels q set o (Some at) in
    let end = placed rels q (at ∷ set) None (Some at) in
    let whole = is_whole n w walked o at rel in
    let test = nat_eq at at && whole in
    let denied : (at, bound_count o) ∷ p.denied ≡ end.denied = ap (λ k. (at, k) ∷ p.denied) (all_counted at cols) ∙ sym (ap (λ i. denied_more rels at i p.denied) e) in
    let same : with_all_bound walked at ≡ end = same_made p.users end.users (at ∷ set) ((at, bound_count o) ∷ p.denied) end.denied (Some at) (none_chosen q set at alias rel Minus path e) denied in
    let binds = minus_binds n w rels q fit set walk at alias rel path within apart e needs in
    let tests = tests_lead n w b (due set at q.conds) (due_set rels q set at b fit.conds there) in
    let path_there = path_set rels q set o (Some at) path needs.0 (fit.users_named at alias rel Minus path e) in
    let is_there : whole ≡ true = all_whole n w rels q set (Some at) at rel cols within apart (fit.whole rel (fit.rels_there at alias rel path e)) in (
      Some at,
      leads_both n w p b end (binds_from rels q at 0 cols) (map step.Test (due set at q.conds) ++ (walk_of at path ++ (step.Neg at rel ∷ []))) binds
          (leads_both n w b b end (map step.Test (due set at q.conds)) (walk_of at path ++ (step.Neg at rel ∷ [])) tests
          (leads_both n w b walked end (walk_of at path) (step.Neg at rel ∷ []) (walk_leads n w b at path within path_there)
          (leads_one n w walked end (step.Neg at rel) test (ap (placed_if test) same) (and_from (nat_eq at at) whole (itself at) is_there)))),
    )
  where
    there : (r : Ref) → is_among (at ∷ set) r.item ≡ true → is_some (column_kind rels q.items r) ≡ true → is_set (placed rels q set (all_bound at (columns_at rels rel)) walk) r ≡ true
    there r a k = elim (or_cases (nat_eq r.item at) (is_among set r.item) a) [
      | inl m ↦ column_bound rels q set walk at (columns_at rels rel) r m (column_within rels q.items r alias rel path (ap (slice_get q.items) (eqb-true r.item at m) ∙ e) k)
      | inr m ↦ column_set rels q set (all_bound at (columns_at rels rel)) walk r m k
    ]

-- ---- the order of items

order_leads : (w : ℕ → ℕ → Bool) (rels : List RelDef) (q : Query) → IsFit rels w q → (set order : List ℕ) (walk : Option ℕ) → OrderFits q set order
    → LeadsOn (length q.items) w rels q set walk (steps_from rels q set order) (set_after set order)
order_leads w rels q fit set [] walk h = (walk, refl)
order_leads w rels q fit set (at ∷ order) walk h =
    let n = length q.items in
    let (item, is, apart, needs) = h.0 in
    let one : LeadsOn n w rels q set walk (item_steps rels q set at (slice_get q.items at)) (at ∷ set) =
    subst (λ o. LeadsOn n w rels q set walk (item_steps rels q set at o) (at ∷ set)) (sym is) (item_leads n w rels q fit set walk at item (slice_get_within q.items at item is) apart is needs) in
    let rest = order_leads w rels q fit (at ∷ set) order one.0 h.1 in
    let p = placed rels q set None walk in
    let more = placed rels q (at ∷ set) None one.0 in
    let end = placed rels q (set_after set (at ∷ order)) None rest.0 in
    (rest.0, leads_both n w p more end (item_steps rels q set at (slice_get q.items at)) (steps_from rels q (at ∷ set) order) one.1 rest.1)

-- the item at a place passes
abbrev passes : (Item → Bool) → Option Item → Bool
passes p None = false
passes p (Some item) = p item

abbrev Within : List ℕ → List ℕ → Type 0
Within set more = (k : ℕ) → is_among set k ≡ true → is_among more k ≡ true

within_more : (set : List ℕ) (at : ℕ) → Within set (at ∷ set)
within_more set at k h = or_right (nat_eq k at) (is_among set k) h

past_end : (all : List Item) (at k : ℕ) → ((i : ℕ) → slice_get all (at + i) ≡ slice_get {X = Item} [] i) → at ≤ k → slice_get all k ≡ None
past_end all at k h le =
    let same : at + (k - at) ≡ k = omega arith in
    ap (slice_get all) (sym same) ∙ h (k - at)

newer : (q : Query) (p : Item → Bool) (set : List ℕ) (at : ℕ) → ((k : ℕ) → is_among set k ≡ true → passes p (slice_get q.items k) ≡ true → k < at)
    → (k : ℕ) → is_among (at ∷ set) k ≡ true → passes p (slice_get q.items k) ≡ true → k < at + 1
newer q p set at new k e y = elim (or_cases (nat_eq k at) (is_among set k) e) [
  | inl m ↦ let same : k ≡ at = eqb-true k at m in omega arith
  | inr m ↦ let lt = new k m y in omega arith
]

past : (q : Query) (p : Item → Bool) (k at : ℕ) → passes p (slice_get q.items at) ≡ false → passes p (slice_get q.items k) ≡ true → at ≤ k → at + 1 ≤ k
past q p k at f e le = elim (cases_Bool (nat_eq k at)) [
  | inl m ↦ absurd (false≢true (sym f ∙ ap (λ i. passes p (slice_get q.items i)) (sym (eqb-true k at m)) ∙ e))
  | inr m ↦ grind (arith, nat_tests)
]

all_from : (q : Query) (p : Item → Bool) (set : List ℕ) (at : ℕ) (more : List ℕ) → Within (at ∷ set) more → ((k : ℕ) → passes p (slice_get q.items k) ≡ true → at + 1 ≤ k → is_among more k ≡ true)
    → (k : ℕ) → passes p (slice_get q.items k) ≡ true → at ≤ k → is_among more k ≡ true
all_from q p set at more m all k e le = elim (cases_Bool (nat_eq k at)) [
  | inl s ↦ m k (or_left (nat_eq k at) (is_among set k) s)
  | inr s ↦ all k e (further k at s le)
]
  where
    further : (k at : ℕ) → nat_eq k at ≡ false → at ≤ k → at + 1 ≤ k
    further k at s le = grind (arith, nat_tests)

back_from : (q : Query) (p : Item → Bool) (set : List ℕ) (at : ℕ) (more : List ℕ) → passes p (slice_get q.items at) ≡ true
    → ((k : ℕ) → is_among more k ≡ true → (is_among (at ∷ set) k ≡ true) ⊎ (passes p (slice_get q.items k) ≡ true))
    → (k : ℕ) → is_among more k ≡ true → (is_among set k ≡ true) ⊎ (passes p (slice_get q.items k) ≡ true)
back_from q p set at more pass back k e = elim (back k e) [
  | inl a ↦ elim (or_cases (nat_eq k at) (is_among set k) a) [
    | inl s ↦ inr (ap (λ i. passes p (slice_get q.items i)) (eqb-true k at s) ∙ pass)
    | inr s ↦ inl s
  ]
  | inr a ↦ inr a
]

-- the places of items that pass, with what comes behind them
segment : (q : Query) (p : Item → Bool) (items : List Item) (at : ℕ) (set rest : List ℕ) → ((k : ℕ) → slice_get q.items (at + k) ≡ slice_get items k)
    → ((i : ℕ) (item : Item) (more : List ℕ) → slice_get q.items i ≡ Some item → p item ≡ true → Within set more → Needs q more item)
    → ((k : ℕ) → is_among set k ≡ true → passes p (slice_get q.items k) ≡ true → k < at)
    → ((more : List ℕ) → Within set more → ((k : ℕ) → passes p (slice_get q.items k) ≡ true → at ≤ k → is_among more k ≡ true)
    → ((k : ℕ) → is_among more k ≡ true → (is_among set k ≡ true) ⊎ (passes p (slice_get q.items k) ≡ true)) → OrderFits q more rest)
    → OrderFits q set (places p at items ++ rest)
segment q p [] at set rest h needs new next = next set (λ k e. e) (λ k e le. absurd (false≢true (ap (passes p) (sym (past_end q.items at k h le)) ∙ e))) (λ k e. inl e)
segment q p (item ∷ items) at set rest h needs new next = elim (cases_Bool (p item)) [
  | inl t ↦
      let here = here_at q.items items at item h in
      let pass : passes p (slice_get q.items at) ≡ true = ap (passes p) here ∙ t in
      let apart : is_among set at ≡ false = elim (cases_Bool (is_among set at)) [ inl a ↦ absurd (let bad : at < at = new at a pass in omega arith) | inr a ↦ a ] in
      subst (λ xs. OrderFits q set (xs ++ rest)) (sym (cond-true (p item) (at ∷ places p (at + 1) items) (places p (at + 1) items) t)) (
        (item, here, apart, needs at item set here t (λ k e. e)),
        segment q p items (at + 1) (at ∷ set) rest (move_on q.items items at item h) (λ i x more e y m. needs i x more e y (λ k a. m k (within_more set at k a)))
            (newer q p set at new)
            (λ more m all back. next more (λ k a. m k (within_more set at k a)) (all_from q p set at more m all) (back_from q p set at more pass back)),
      )
  | inr t ↦
      let here = here_at q.items items at item h in
      let fails : passes p (slice_get q.items at) ≡ false = ap (passes p) here ∙ t in
      subst (λ xs. OrderFits q set (xs ++ rest)) (sym (cond-false (p item) (at ∷ places p (at + 1) items) (places p (at + 1) items) t))
      (segment q p items (at + 1) set rest (move_on q.items items at item h) needs (λ k a e. let lt = new k a e in let le : k < at + 1 = omega arith in le)
      (λ more m all back. next more m (λ k e le. all k e (past q p k at fails e le)) back))
]

-- what is among nothing
none_among : (k : ℕ) → is_among [] k ≡ true → ⊥
none_among k h = false≢true h

-- the users of a path are set
path_needs : (catalog : Catalog) (items : List Item) (set : List ℕ) → ((k : ℕ) → passes is_users (slice_get items k) ≡ true → is_among set k ≡ true) → (path : List Who)
    → list_all (who_fits catalog.users items) path ≡ true → list_all (who_among set) path ≡ true
path_needs catalog items set h path f = list_all_weaker (who_fits catalog.users items) (who_among set) one path f
  where
    users_pass : (o : Option Item) → is_users_item o ≡ true → passes is_users o ≡ true
    users_pass None h = h
    users_pass (Some item) h = h

    one : (who : Who) → who_fits catalog.users items who ≡ true → who_among set who ≡ true
    one (User i) e = refl
    one (Of k) e = h k (users_pass (slice_get items k) e)

pub path_fits : (catalog : Catalog) (items : List Item) → list_all (item_fits catalog items) items ≡ true → (i : ℕ) (item : Item) → slice_get items i ≡ Some item → item_fits catalog items item ≡ true
path_fits catalog items f i item e = list_all_get (item_fits catalog items) items i item f e

pub order_fits : (catalog : Catalog) (q : Query) → list_all (item_fits catalog q.items) q.items ≡ true → OrderFits q [] (order_of q.items)
order_fits catalog q f =
    segment q is_users q.items 0 [] (places is_plus 0 q.items ++ places is_minus_item 0 q.items) (from_zero q.items) users_need (λ k a e. absurd (none_among k a))
    (λ one m users back. segment q is_plus q.items 0 one (places is_minus_item 0 q.items) (from_zero q.items) (plus_need one (λ k e. users k e (least k))) (λ k a e. absurd (not_plus k (only_users k (back k a)) e))
    (λ two m' plus back'. subst (OrderFits q two) (append-nil (places is_minus_item 0 q.items))
    (segment q is_minus_item q.items 0 two [] (from_zero q.items)
    (minus_need two (λ k e. m' k (users k e (least k))) (λ k e. plus k e (least k)))
    (λ k a e. absurd (not_minus k (only_given k one (λ b. only_users k (back k b)) (back' k a)) e)) (λ three x y z. tt))))
  where
    least : (k : ℕ) → 0 ≤ k
    least k = omega arith

    users_need : (i : ℕ) (item : Item) (more : List ℕ) → slice_get q.items i ≡ Some item → is_users item ≡ true → Within [] more → Needs q more item
    users_need i (Users alias) more e h m = tt
    users_need i (Rel alias rel sign path) more e h m = absurd (false≢true h)

    plus_need : (one : List ℕ) → ((k : ℕ) → passes is_users (slice_get q.items k) ≡ true → is_among one k ≡ true)
        → (i : ℕ) (item : Item) (more : List ℕ) → slice_get q.items i ≡ Some item → is_plus item ≡ true → Within one more → Needs q more item
    plus_need one users i (Users alias) more e h m = tt
    plus_need one users i (Rel alias rel Plus path) more e h m =
        let k = and_parts (is_some (slice_get catalog.rels rel)) (list_all (who_fits catalog.users q.items) path && fixed_differ path) (path_fits catalog q.items f i (Rel alias rel Plus path) e) in
        path_needs catalog q.items more (λ j g. m j (users j g)) path (and_parts (list_all (who_fits catalog.users q.items) path) (fixed_differ path) k.1).0
    plus_need one users i (Rel alias rel Minus path) more e h m = absurd (false≢true h)

    minus_need : (two : List ℕ) → ((k : ℕ) → passes is_users (slice_get q.items k) ≡ true → is_among two k ≡ true) → ((k : ℕ) → passes is_plus (slice_get q.items k) ≡ true → is_among two k ≡ true)
        → (i : ℕ) (item : Item) (more : List ℕ) → slice_get q.items i ≡ Some item → is_minus_item item ≡ true → Within two more → Needs q more item
    minus_need two users plus i (Users alias) more e h m = absurd (false≢true h)
    minus_need two users plus i (Rel alias rel Plus path) more e h m = absurd (false≢true h)
    minus_need two users plus i (Rel alias rel Minus path) more e h m =
        let k = and_parts (is_some (slice_get catalog.rels rel)) (list_all (who_fits catalog.users q.items) path && fixed_differ path) (path_fits catalog q.items f i (Rel alias rel Minus path) e) in
        (path_needs catalog q.items more (λ j g. m j (users j g)) path (and_parts (list_all (who_fits catalog.users q.items) path) (fixed_differ path) k.1).0, (λ j g. m j (given j (slice_get q.items j) refl g)))
      where
        given : (j : ℕ) (o : Option Item) → slice_get q.items j ≡ o → is_given o ≡ true → is_among two j ≡ true
        given j None e g = absurd (false≢true g)
        given j (Some (Users alias)) e g = users j (ap (passes is_users) e)
        given j (Some (Rel alias rel Plus path)) e g = plus j (ap (passes is_plus) e)
        given j (Some (Rel alias rel Minus path)) e g = absurd (false≢true g)

    only_users : (k : ℕ) → (is_among [] k ≡ true) ⊎ (passes is_users (slice_get q.items k) ≡ true) → passes is_users (slice_get q.items k) ≡ true
    only_users k (inl a) = absurd (none_among k a)
    only_users k (inr a) = a

    only_given : (k : ℕ) (one : List ℕ) → (is_among one k ≡ true → passes is_users (slice_get q.items k) ≡ true) → (is_among one k ≡ true) ⊎ (passes is_plus (slice_get q.items k) ≡ true) → is_given (slice_get q.items k) ≡ true
    only_given k one u (inl a) = users_given (slice_get q.items k) (u a)
      where
        users_given : (o : Option Item) → passes is_users o ≡ true → is_given o ≡ true
        users_given None h = absurd (false≢true h)
        users_given (Some (Users alias)) h = refl
        users_given (Some (Rel alias rel sign path)) h = absurd (false≢true h)
    only_given k one u (inr a) = plus_given (slice_get q.items k) a
      where
        plus_given : (o : Option Item) → passes is_plus o ≡ true → is_given o ≡ true
        plus_given None h = absurd (false≢true h)
        plus_given (Some (Users alias)) h = refl
        plus_given (Some (Rel alias rel Plus path)) h = refl
        plus_given (Some (Rel alias rel Minus path)) h = absurd (false≢true h)

    not_plus : (k : ℕ) → passes is_users (slice_get q.items k) ≡ true → passes is_plus (slice_get q.items k) ≡ true → ⊥
    not_plus k = by (slice_get q.items k)
      where
        by : (o : Option Item) → passes is_users o ≡ true → passes is_plus o ≡ true → ⊥
        by None h g = false≢true h
        by (Some (Users alias)) h g = false≢true g
        by (Some (Rel alias rel sign path)) h g = false≢true h

    not_minus : (k : ℕ) → is_given (slice_get q.items k) ≡ true → passes is_minus_item (slice_get q.items k) ≡ true → ⊥
    not_minus k = by (slice_get q.items k)
      where
        by : (o : Option Item) → is_given o ≡ true → passes is_minus_item o ≡ true → ⊥
        by None h g = false≢true h
        by (Some (Users alias)) h g = false≢true g
        by (Some (Rel alias rel Plus path)) h g = false≢true g
        by (Some (Rel alias rel Minus path)) h g = false≢true h

-- ---- the whole plan

query_is_fit : (w : ℕ → ℕ → Bool) (catalog : Catalog) (q : Query)
    → ((rel : ℕ) → is_some (slice_get catalog.rels rel) ≡ true → w rel (length (columns_at catalog.rels rel)) ≡ true)
    → list_all (item_fits catalog q.items) q.items ≡ true → list_all (joins_one_kind catalog.rels q.items) q.conds ≡ true → IsSafe catalog.rels q → IsFit catalog.rels w q
query_is_fit w catalog q whole items conds safe = record {
  whole = whole;
  conds = conds;
  rels_there = λ i alias rel path e. (parts i alias rel Minus path e).0;
  users_named = λ i alias rel sign path e.
      list_all_weaker (who_fits catalog.users q.items) (names_user q) named path (and_parts (list_all (who_fits catalog.users q.items) path) (fixed_differ path) (parts i alias rel sign path e).1).0;
  safe = safe;
}
  where
    parts : (i : ℕ) (alias : List ℕ) (rel : ℕ) (sign : Sign) (path : List Who) → slice_get q.items i ≡ Some (Rel alias rel sign path)
        → (is_some (slice_get catalog.rels rel) ≡ true) × (list_all (who_fits catalog.users q.items) path && fixed_differ path ≡ true)
    parts i alias rel sign path e = and_parts (is_some (slice_get catalog.rels rel)) (list_all (who_fits catalog.users q.items) path && fixed_differ path) (path_fits catalog q.items items i (Rel alias rel sign path) e)

    named : (who : Who) → who_fits catalog.users q.items who ≡ true → names_user q who ≡ true
    named (User i) h = refl
    named (Of k) h = h

pub plan_is_fit : (w : ℕ → ℕ → Bool) (catalog : Catalog) (q : Query)
    → ((rel : ℕ) → is_some (slice_get catalog.rels rel) ≡ true → w rel (length (columns_at catalog.rels rel)) ≡ true) → query_fits catalog q ≡ true → IsSafe catalog.rels q
    → (order : List ℕ) → IsOrder q order → fits_from (length q.items) w q.take (Some at_first) (steps_from catalog.rels q [] order) ≡ true
plan_is_fit w catalog q whole fits safe order is =
    let rels = catalog.rels in
    let few = and_parts (nat_lt (length q.items) (2 ^ 32)) (list_all (λ def. nat_lt (length def.cols) (2 ^ 32)) rels && (list_all (item_fits catalog q.items) q.items && (list_all (λ r. is_some (column_kind rels q.items r)) q.take && list_all (joins_one_kind rels q.items) q.conds))) fits in
    let columns = and_parts (list_all (λ def. nat_lt (length def.cols) (2 ^ 32)) rels) (list_all (item_fits catalog q.items) q.items && (list_all (λ r. is_some (column_kind rels q.items r)) q.take && list_all (joins_one_kind rels q.items) q.conds)) few.1 in
    let items = and_parts (list_all (item_fits catalog q.items) q.items) (list_all (λ r. is_some (column_kind rels q.items r)) q.take && list_all (joins_one_kind rels q.items) q.conds) columns.1 in
    let rest = and_parts (list_all (λ r. is_some (column_kind rels q.items r)) q.take) (list_all (joins_one_kind rels q.items) q.conds) items.1 in
    let fit = query_is_fit w catalog q whole items.0 rest.1 safe in
    let end = set_after [] order in
    let leads = order_leads w rels q fit [] order None is.fits in
    ap (takes_set q.take) leads.1
    ∙ list_all_weaker (λ r. is_some (column_kind rels q.items r)) (is_set (placed rels q end None leads.0)) (λ r e. column_set rels q end None leads.0 r (comes_set [] order r.item (there_in_order rels q.items order is.each r e)) e) q.take rest.0

-- the order in which the plan's text sets the items fits
pub written_order : (catalog : Catalog) (q : Query) → query_fits catalog q ≡ true → IsOrder q (order_of q.items)
written_order catalog q fits =
    let few = and_parts (nat_lt (length q.items) (2 ^ 32)) _ fits in
    let columns = and_parts (list_all (λ def. nat_lt (length def.cols) (2 ^ 32)) catalog.rels) _ few.1 in
    let items = and_parts (list_all (item_fits catalog q.items) q.items) _ columns.1 in
    record { fits = order_fits catalog q items.0; each = in_order q.items }

-- ---- relations of a valid catalog

pub some_column : (rels : List RelDef) (rel : ℕ) → list_all is_valid_relation rels ≡ true → is_some (slice_get rels rel) ≡ true → (c : ColDef) × (cs : List ColDef) × (columns_at rels rel ≡ c ∷ cs)
some_column rels rel v h =
    let def = some_of (slice_get rels rel) h in
    let ok = list_all_get is_valid_relation rels rel def.0 v def.1 in
    let few = (and_parts (nat_lt 0 (length def.0.cols)) (nat_le (length def.0.cols) 16) (and_parts (nat_lt 0 (length def.0.cols) && nat_le (length def.0.cols) 16) _ ok).0).0 in
    let first = by def.0.cols few in
    (first.0, first.1, ap columns_of_definition def.1 ∙ first.2)
  where
    by : (cols : List ColDef) → nat_lt 0 (length cols) ≡ true → (c : ColDef) × (cs : List ColDef) × (cols ≡ c ∷ cs)
    by [] h = absurd (false≢true h)
    by (c ∷ cs) h = (c, cs, refl)
