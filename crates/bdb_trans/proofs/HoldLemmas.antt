-- The steps of a query's plan hold exactly of the slots that hold of the query.
use Rattle.std.proofs.Common.{◌≡◌, ◌∙◌, ℕ, suc, ◌+◌, ◌-◌, ◌^◌, nat_lt, Bool, true, false, not, ◌&&◌, ◌||◌, nat_eq, List, [], ◌∷◌, ◌++◌, Option, None, Some, inl, inr, refl, ap, sym, subst, length, map, arith}
use Prim.Native.Nat.{zero}
use Rattle.std.specs.List.{list_all, slice_get}
use Rattle.std.specs.Option.{option_map, option_and_then, is_some}
use Rattle.std.proofs.lemmas.Bool.{false≢true, cases_Bool, cond-true, cond-false, or_cases, or_left, and_parts, and_from, eqb-true}
use Rattle.bdb_base.specs.declared.kinds.ColDef.{ColDef}
use Rattle.bdb_base.specs.declared.kinds.Cond.{Cond}
use Rattle.bdb_base.specs.declared.kinds.Item.{Item}
use Rattle.bdb_base.specs.declared.kinds.Item.TheVariants.{Users, Rel}
use Rattle.bdb_base.specs.declared.kinds.Kind.{Kind}
use Rattle.bdb_base.specs.declared.kinds.Kind.TheVariants as kind
use Rattle.bdb_base.specs.declared.kinds.Operand.{Operand}
use Rattle.bdb_base.specs.declared.kinds.Operand.TheVariants.{Col, Lit}
use Rattle.bdb_base.specs.declared.kinds.Query.{Query}
use Rattle.bdb_base.specs.declared.kinds.Ref.{Ref}
use Rattle.bdb_base.specs.declared.kinds.RelDef.{RelDef}
use Rattle.bdb_base.specs.declared.kinds.Sign.{Sign}
use Rattle.bdb_base.specs.declared.kinds.Sign.TheVariants.{Plus, Minus}
use Rattle.bdb_base.specs.declared.kinds.Value.{Value}
use Rattle.bdb_base.specs.declared.kinds.Value.TheVariants.{Int, Text}
use Rattle.bdb_base.specs.declared.kinds.Who.{Who}
use Rattle.bdb_base.specs.declared.kinds.Who.TheVariants.{User, Of}
use Rattle.bdb_base.specs.declared.tuple.Tuple.{Tuple}
use Rattle.bdb_base.specs.Bases.{Contents, IsValid, is_user, user_names, is_plain, fits_kind, fits_columns, fits_definition, fits_relation}
use Rattle.bdb_base.specs.Queries.{columns_at, columns_of_definition}
use Rattle.bdb_base.specs.Safety.{is_given, is_minus, is_users_item, is_literal, who_fits, fixed_differ, item_fits, item_kinds, column_kind, operand_kind, literal_kind, one_kind, joins_one_kind, query_fits, IsSafe}
use Rattle.bdb_base.proofs.ListLemmas.{list_all_get, list_all-filter}
use Rattle.bdb_base.proofs.UserLemmas.{name_found}
use Rattle.bdb_base.proofs.OptionLemmas.{some_of}
use Rattle.bdb_base.proofs.BaseLemmas.{as_many_values, fits_its_columns}
use Rattle.bdb_queries.specs.Slots.{slot_at, known, known_operand, must_hold, must_all_hold, uid_of, path_of, user_tuple}
use Rattle.bdb_queries.proofs.FoundLemmas.{Found, found_at, found-filter, found_passes, list_all_from_gets}
use Rattle.bdb_queries.proofs.HoldingLemmas.{SlotHolds, SlotsHold, items_fit}
use Rattle.bdb_queries.proofs.UserLemmas.{found_name}
use Rattle.bdb_plan.specs.declared.step.Step.{Step}
use Rattle.bdb_plan.specs.Fitness.{is_among}
use Rattle.bdb_plan.specs.Holding.{world_if, world_at_end, steps_hold}
use Rattle.bdb_plan.specs.PlanOf.{places, operand_set, all_set, due, item_steps, steps_from}
use Rattle.bdb_plan.specs.Shown.{Shows}
use Rattle.bdb_plan.specs.Sight.{Sight}
use Rattle.bdb_plan.specs.Sources.{source_of}
use Rattle.bdb_trans.specs.Orders.{who_among, Needs, OrderFits, IsOrder}
use Rattle.bdb_trans.proofs.ItemLemmas.{Means, KnownPath, EqualsSource, EqualSources, SettingSays, DenyingSays, item_means, Each, OrderSays, order_means}
use Rattle.bdb_trans.proofs.PlaceLemmas.{each_of_all, each_at, from_zero}
use Rattle.bdb_trans.proofs.SourceLemmas.{move_on, here_at, one_kind_is, joined_keeps, conds_keep_kinds, bound_has_source, IsSource, literal, column, source_is, source_known, source_holds}
use Rattle.bdb_trans.proofs.StepLemmas.{end_append}

-- ---- steps that hold

if_some : (t : Bool) (n m : ℕ) → world_if t n ≡ Some m → t ≡ true
if_some true n m e = refl
if_some false n m e = cc

pub holds_means : {F : Type 0} (sight : Sight) (zs : List (Option Tuple)) (n : ℕ) (xs : List Step) → Means sight zs n xs F → F → is_some (world_at_end sight zs n xs) ≡ true
holds_means sight zs n xs f h = ap is_some (f.is ∙ ap (λ t. world_if t f.end) (f.whole h))

-- steps that hold one after the other
pub split_end : (sight : Sight) (zs : List (Option Tuple)) (n : ℕ) (xs ys : List Step) → is_some (world_at_end sight zs n (xs ++ ys)) ≡ true
    → (m : ℕ) × (world_at_end sight zs n xs ≡ Some m) × (is_some (world_at_end sight zs m ys) ≡ true)
split_end sight zs n xs ys h = by (world_at_end sight zs n xs) (ap is_some (sym (end_append sight zs n xs ys)) ∙ h)
  where
    by : (o : Option ℕ) → is_some (option_and_then (λ k. world_at_end sight zs k ys) o) ≡ true → (m : ℕ) × (o ≡ Some m) × (is_some (world_at_end sight zs m ys) ≡ true)
    by None h = absurd (false≢true h)
    by (Some m) h = (m, refl, h)

-- ---- users and paths

-- each item's place is among places
abbrev pub HasEach : List Item → List ℕ → Type 0
HasEach items order = (k : ℕ) (item : Item) → slice_get items k ≡ Some item → is_among order k ≡ true

-- for each `Users` item a user is chosen
abbrev pub AreUsers : Contents → List Item → List (Option Tuple) → Type 0
AreUsers b items zs = (i : ℕ) → is_users_item (slice_get items i) ≡ true → SlotHolds b zs (Users []) (slot_at zs i)

users_at : (o : Option Item) → is_users_item o ≡ true → (alias : List ℕ) × (o ≡ Some (Users alias))
users_at None h = absurd (false≢true h)
users_at (Some (Users alias)) h = (alias, refl)
users_at (Some (Rel alias rel sign path)) h = absurd (false≢true h)

who_known : (b : Contents) (items : List Item) (zs : List (Option Tuple)) → AreUsers b items zs → (who : Who) → who_fits b.catalog.users items who ≡ true
    → (i : ℕ) × (uid_of zs who ≡ Some i) × (is_user b.catalog.users i ≡ true)
who_known b items zs u (User i) f = (i, refl, f)
who_known b items zs u (Of item) f = let (uid, name, user, named, is) = u item f in (uid, ap (option_map (λ t. t.rel)) is, user)

path_known : (b : Contents) (items : List Item) (zs : List (Option Tuple)) → AreUsers b items zs → (path : List Who) → list_all (who_fits b.catalog.users items) path ≡ true
    → (w : List ℕ) × (path_of zs path ≡ Some w) × (list_all (is_user b.catalog.users) w ≡ true)
path_known b items zs u [] f = ([], refl, refl)
path_known b items zs u (who ∷ whos) f =
    let k = and_parts (who_fits b.catalog.users items who) (list_all (who_fits b.catalog.users items) whos) f in
    let first = who_known b items zs u who k.0 in
    let rest = path_known b items zs u whos k.1 in (
      first.0 ∷ rest.0,
      ap (option_and_then (λ uid. option_map (λ w. uid ∷ w) (path_of zs whos))) first.1 ∙ ap (option_map (λ w. first.0 ∷ w)) rest.1,
      and_from (is_user b.catalog.users first.0) (list_all (is_user b.catalog.users) rest.0) first.2 rest.2,
    )

pub paths_known : (b : Contents) (items : List Item) (zs : List (Option Tuple)) → AreUsers b items zs → list_all (item_fits b.catalog items) items ≡ true → (at : ℕ) → KnownPath b zs (slice_get items at)
paths_known b items zs u f at = by (slice_get items at) (λ item e. list_all_get (item_fits b.catalog items) items at item f e)
  where
    by : (o : Option Item) → ((item : Item) → o ≡ Some item → item_fits b.catalog items item ≡ true) → KnownPath b zs o
    by None h = tt
    by (Some (Users alias)) h = tt
    by (Some (Rel alias rel sign path)) h =
        let k = and_parts (is_some (slice_get b.catalog.rels rel)) (list_all (who_fits b.catalog.users items) path && fixed_differ path) (h (Rel alias rel sign path) refl) in
        let m = and_parts (list_all (who_fits b.catalog.users items) path) (fixed_differ path) k.1 in
        let p = path_known b items zs u path m.0 in
        record { users = p.0; is = p.1; there = p.2; apart = m.1 }

-- of the `Users` items that are set a user is chosen for each
abbrev pub AreUsersOf : Contents → List Item → List (Option Tuple) → List ℕ → Type 0
AreUsersOf b items zs set = (i : ℕ) → is_among set i ≡ true → is_users_item (slice_get items i) ≡ true → SlotHolds b zs (Users []) (slot_at zs i)

-- the path of an item whose users are set is known
path_of_set : (b : Contents) (items : List Item) (zs : List (Option Tuple)) (set : List ℕ) → AreUsersOf b items zs set → (path : List Who) → list_all (who_among set) path ≡ true
    → list_all (who_fits b.catalog.users items) path ≡ true → (w : List ℕ) × (path_of zs path ≡ Some w) × (list_all (is_user b.catalog.users) w ≡ true)
path_of_set b items zs set u [] a f = ([], refl, refl)
path_of_set b items zs set u (who ∷ whos) a f =
    let n = and_parts (who_among set who) (list_all (who_among set) whos) a in
    let k = and_parts (who_fits b.catalog.users items who) (list_all (who_fits b.catalog.users items) whos) f in
    let first = one who n.0 k.0 in
    let rest = path_of_set b items zs set u whos n.1 k.1 in (
      first.0 ∷ rest.0,
      ap (option_and_then (λ uid. option_map (λ w. uid ∷ w) (path_of zs whos))) first.1 ∙ ap (option_map (λ w. first.0 ∷ w)) rest.1,
      and_from (is_user b.catalog.users first.0) (list_all (is_user b.catalog.users) rest.0) first.2 rest.2,
    )
  where
    one : (who : Who) → who_among set who ≡ true → who_fits b.catalog.users items who ≡ true → (i : ℕ) × (uid_of zs who ≡ Some i) × (is_user b.catalog.users i ≡ true)
    one (User i) n k = (i, refl, k)
    one (Of item) n k = let (uid, name, user, named, is) = u item n k in (uid, ap (option_map (λ t. t.rel)) is, user)

known_of_set : (b : Contents) (q : Query) (zs : List (Option Tuple)) (set : List ℕ) → AreUsersOf b q.items zs set → (item : Item) → Needs q set item → item_fits b.catalog q.items item ≡ true → KnownPath b zs (Some item)
known_of_set b q zs set u (Users alias) n f = tt
known_of_set b q zs set u (Rel alias rel sign path) n f =
    let k = and_parts (is_some (slice_get b.catalog.rels rel)) (list_all (who_fits b.catalog.users q.items) path && fixed_differ path) f in
    let m = and_parts (list_all (who_fits b.catalog.users q.items) path) (fixed_differ path) k.1 in
    let p = path_of_set b q.items zs set u path (needed sign n) m.0 in
    record { users = p.0; is = p.1; there = p.2; apart = m.1 }
  where
    needed : (sign : Sign) → Needs q set (Rel alias rel sign path) → list_all (who_among set) path ≡ true
    needed Plus n = n
    needed Minus n = n.0

-- steps that hold say what each item and each comparison says, in any order that fits
steps_say : (b : Contents) (sight : Sight) (number : List ℕ → ℕ) → Shows b sight number → IsValid b.catalog b.stmts → (q : Query) → list_all (item_fits b.catalog q.items) q.items ≡ true → (zs : List (Option Tuple)) (n : ℕ) (set order : List ℕ)
    → OrderFits q set order → AreUsersOf b q.items zs set → is_some (world_at_end sight zs n (steps_from b.catalog.rels q set order)) ≡ true → OrderSays b q zs set order
steps_say b sight number s valid q fits zs n set [] o u h = tt
steps_say b sight number s valid q fits zs n set (at ∷ order) o u h =
    let (item, is, apart, needs) = o.0 in
    let parts = split_end sight zs n (item_steps b.catalog.rels q set at (slice_get q.items at)) (steps_from b.catalog.rels q (at ∷ set) order) h in
    let known : KnownPath b zs (slice_get q.items at) = subst (KnownPath b zs) (sym is) (known_of_set b q zs set u item needs (list_all_get (item_fits b.catalog q.items) q.items at item fits is)) in
    let f = item_means b sight number s valid.stmts q zs n set at (slice_get q.items at) known in
    let says = f.sound (if_some f.test f.end parts.0 (sym f.is ∙ parts.1)) in
    (says, steps_say b sight number s valid q fits zs parts.0 (at ∷ set) order o.1 (more says.0) parts.2)
  where
    more : SettingSays b q zs at (slice_get q.items at) → AreUsersOf b q.items zs (at ∷ set)
    more says i e user = elim (or_cases (nat_eq i at) (is_among set i) e) [
      | inl k ↦
          let same : i ≡ at = eqb-true i at k in
          let there = users_at (slice_get q.items i) user in
          subst (λ j. SlotHolds b zs (Users []) (slot_at zs j)) (sym same) (subst (SettingSays b q zs at) (ap (slice_get q.items) (sym same) ∙ there.1) says)
      | inr k ↦ u i k user
    ]

-- ---- comparisons

-- what is set once an order of items is
abbrev pub set_after : List ℕ → List ℕ → List ℕ
set_after set [] = set
set_after set (at ∷ order) = set_after (at ∷ set) order

pub stays_set : (set order : List ℕ) (i : ℕ) → is_among set i ≡ true → is_among (set_after set order) i ≡ true
stays_set set [] i h = h
stays_set set (at ∷ order) i h = stays_set (at ∷ set) order i (by (nat_eq i at) (is_among set i) h)
  where
    by : (a c : Bool) → c ≡ true → (a || c) ≡ true
    by true c h = refl
    by false c h = h

pub comes_set : (set order : List ℕ) (i : ℕ) → is_among order i ≡ true → is_among (set_after set order) i ≡ true
comes_set set [] i h = absurd (false≢true h)
comes_set set (at ∷ order) i h = elim (or_cases (nat_eq i at) (is_among order i) h) [
  | inl k ↦ stays_set (at ∷ set) order i (or_left (nat_eq i at) (is_among set i) k)
  | inr k ↦ comes_set (at ∷ set) order i k
]

-- a comparison of which all is set in the end holds
due_holds : (b : Contents) (q : Query) (zs : List (Option Tuple)) (set order : List ℕ) (c : Cond) → Found c q.conds → OrderSays b q zs set order
    → all_set set c ≡ false → all_set (set_after set order) c ≡ true → must_hold zs c ≡ true
due_holds b q zs set [] c f says before ends = absurd (false≢true (sym before ∙ ends))
due_holds b q zs set (at ∷ order) c f says before ends = elim (cases_Bool (all_set (at ∷ set) c)) [
  | inl k ↦
      let test : Cond → Bool = λ d. all_set (at ∷ set) d && not (all_set set d) in
      let now : test c ≡ true = and_from (all_set (at ∷ set) c) (not (all_set set c)) k (ap not before) in
      found_passes (must_hold zs) (due set at q.conds) c says.0.1.0 (found-filter test q.conds c f now)
  | inr k ↦ due_holds b q zs (at ∷ set) order c f says.1 k ends
]

nothing_set : (c : Cond) → all_set [] c ≡ false
nothing_set c = refl

pub there_in_order : (rels : List RelDef) (items : List Item) (order : List ℕ) → HasEach items order → (r : Ref) → is_some (column_kind rels items r) ≡ true → is_among order r.item ≡ true
there_in_order rels items order each r h = by (slice_get items r.item) refl h
  where
    by : (o : Option Item) → slice_get items r.item ≡ o → is_some (option_and_then (λ item. slice_get (item_kinds rels item) r.col) o) ≡ true → is_among order r.item ≡ true
    by None e h = absurd (false≢true h)
    by (Some item) e h = each r.item item e

pub both_there : (rels : List RelDef) (items : List Item) (c : Cond) → joins_one_kind rels items c ≡ true → (is_some (column_kind rels items c.left) ≡ true) × (is_some (operand_kind rels items c.right) ≡ true)
both_there rels items c h = by (column_kind rels items c.left) (operand_kind rels items c.right) h
  where
    by : (a b : Option Kind) → one_kind a b ≡ true → (is_some a ≡ true) × (is_some b ≡ true)
    by None b h = absurd (false≢true h)
    by (Some a) None h = absurd (false≢true h)
    by (Some a) (Some b) h = (refl, refl)

-- in the end all columns of a comparison that fits are set
pub set_in_end : (rels : List RelDef) (items : List Item) (order : List ℕ) → HasEach items order → (c : Cond) → joins_one_kind rels items c ≡ true → all_set (set_after [] order) c ≡ true
set_in_end rels items order each c h =
    let end = set_after [] order in
    let there = both_there rels items c h in
    and_from (is_among end c.left.item) (operand_set end c.right) (comes_set [] order c.left.item (there_in_order rels items order each c.left there.0)) (right c.right there.1)
  where
    right : (o : Operand) → is_some (operand_kind rels items o) ≡ true → operand_set (set_after [] order) o ≡ true
    right (Col r) h = comes_set [] order r.item (there_in_order rels items order each r h)
    right (Lit v) h = refl

conds_hold : (b : Contents) (q : Query) (order : List ℕ) → HasEach q.items order → (zs : List (Option Tuple)) → list_all (joins_one_kind b.catalog.rels q.items) q.conds ≡ true → OrderSays b q zs [] order → must_all_hold zs q.conds ≡ true
conds_hold b q order each zs f says = list_all_from_gets (must_hold zs) q.conds (λ k c e.
    due_holds b q zs [] order c (found_at q.conds k c e) says (nothing_set c) (set_in_end b.catalog.rels q.items order each c (list_all_get (joins_one_kind b.catalog.rels q.items) q.conds k c f e)))

-- ---- kinds

kind_fits : (cols : List ColDef) (vals : List Value) (col : ℕ) (k : Kind) (v : Value) → fits_columns cols vals ≡ true → slice_get (map (λ c. c.kind) cols) col ≡ Some k → slice_get vals col ≡ Some v
    → fits_kind k v ≡ true
kind_fits [] vals col k v f e g = cc
kind_fits (c ∷ cs) [] col k v f e g = cc
kind_fits (c ∷ cs) (w ∷ ws) zero k v f e g =
    let a : c.kind ≡ k = cc in
    let d : w ≡ v = cc in
    ap (λ x. fits_kind x v) (sym a) ∙ ap (fits_kind c.kind) (sym d) ∙ (and_parts (fits_kind c.kind w) (fits_columns cs ws) f).0
kind_fits (c ∷ cs) (w ∷ ws) (suc col) k v f e g = kind_fits cs ws col k v (and_parts (fits_kind c.kind w) (fits_columns cs ws) f).1 e g

fits_from_each : (cols : List ColDef) (vals : List Value) → length vals ≡ length cols → ((k : ℕ) (c : ColDef) (v : Value) → slice_get cols k ≡ Some c → slice_get vals k ≡ Some v → fits_kind c.kind v ≡ true)
    → fits_columns cols vals ≡ true
fits_from_each [] [] l h = refl
fits_from_each [] (v ∷ vs) l h = absurd (omega arith)
fits_from_each (c ∷ cs) [] l h = absurd (omega arith)
fits_from_each (c ∷ cs) (v ∷ vs) l h = and_from (fits_kind c.kind v) (fits_columns cs vs) (h 0 c v refl refl) (fits_from_each cs vs (omega arith) (λ k d w e g. h (suc k) d w e g))

literal_fits : (w : Value) (k : Kind) → literal_kind w ≡ Some k → fits_kind k w ≡ true
literal_fits (Int n) k e = let is : kind.Int ≡ k = cc in ap (λ x. fits_kind x (Int n)) (sym is)
literal_fits (Text t) k e = elim (cases_Bool (is_plain t)) [
  | inl p ↦
      let same : Some kind.Text ≡ Some k = sym (cond-true (is_plain t) (Some kind.Text) None p) ∙ e in
      let is : kind.Text ≡ k = cc in
      ap (λ x. fits_kind x (Text t)) (sym is) ∙ p
  | inr p ↦
      let none : None ≡ Some k = sym (cond-false (is_plain t) (Some kind.Text) None p) ∙ e in
      cc
]

-- the items that are set before minus items hold
abbrev pub GivenHold : Contents → Query → List (Option Tuple) → Type 0
GivenHold b q zs = (i : ℕ) (item : Item) → slice_get q.items i ≡ Some item → is_given (Some item) ≡ true → SlotHolds b zs item (slot_at zs i)

value_of : (zs : List (Option Tuple)) (i : ℕ) (t : Tuple) (col : ℕ) → slot_at zs i ≡ Some t → known zs (record { item = i; col = col }) ≡ slice_get t.vals col
value_of zs i t col e = ap (option_and_then (λ t. slice_get t.vals col)) e

-- a value of a given item fits its column's kind
given_fits : (b : Contents) → IsValid b.catalog b.stmts → (q : Query) (zs : List (Option Tuple)) → GivenHold b q zs → (s : Ref) (k : Kind) (v : Value) → is_given (slice_get q.items s.item) ≡ true
    → column_kind b.catalog.rels q.items s ≡ Some k → known zs s ≡ Some v → fits_kind k v ≡ true
given_fits b valid q zs h s k v g ck e = by (slice_get q.items s.item) refl g ck
  where
    user : (uid : ℕ) (name : List ℕ) (col : ℕ) → is_plain name ≡ true → slice_get (kind.Int ∷ kind.Text ∷ []) col ≡ Some k → slice_get (user_tuple uid name).vals col ≡ Some v → fits_kind k v ≡ true
    user uid name zero p c e = cc
    user uid name (suc zero) p c e =
        let a : kind.Text ≡ k = cc in
        let d : Text name ≡ v = cc in
        ap (λ x. fits_kind x v) (sym a) ∙ ap (fits_kind kind.Text) (sym d) ∙ p
    user uid name (suc (suc col)) p c e = cc

    by : (o : Option Item) → slice_get q.items s.item ≡ o → is_given o ≡ true → option_and_then (λ item. slice_get (item_kinds b.catalog.rels item) s.col) o ≡ Some k → fits_kind k v ≡ true
    by None i g c = absurd (false≢true g)
    by (Some (Users alias)) i g c =
        let (uid, name, there, named, is) = h s.item (Users alias) i refl in
        user uid name s.col (found_passes is_plain (user_names b.catalog.users) name valid.catalog.users_plain (found_name b.catalog.users (uid - 1) name (name_found b.catalog.users uid name named).1)) c (sym (value_of zs s.item (user_tuple uid name) s.col is) ∙ e)
    by (Some (Rel alias rel Plus path)) i g c =
        let (t, is, r, fits, believed) = h s.item (Rel alias rel Plus path) i refl in
        kind_fits (columns_at b.catalog.rels rel) t.vals s.col k v (ap (λ n. fits_columns (columns_at b.catalog.rels n) t.vals) (sym r) ∙ fits_its_columns (slice_get b.catalog.rels t.rel) t.vals fits) c
        (sym (value_of zs s.item t s.col is) ∙ e)
    by (Some (Rel alias rel Minus path)) i g c = absurd (false≢true g)

-- the value of a source fits the kind of its column
source_fits : (b : Contents) → IsValid b.catalog b.stmts → (q : Query) (zs : List (Option Tuple)) → list_all (joins_one_kind b.catalog.rels q.items) q.conds ≡ true → GivenHold b q zs
    → (r : Ref) (o : Operand) (k : Kind) (v : Value) → IsSource b.catalog.rels q r o → column_kind b.catalog.rels q.items r ≡ Some k → known_operand zs o ≡ Some v → fits_kind k v ≡ true
source_fits b valid q zs f h r o k v (literal c e l j p) ck kn =
    let rels = b.catalog.rels in
    let keeps = joined_keeps (column_kind rels q.items) q.conds (conds_keep_kinds rels q.items q.conds f) r c.left j in
    lit c.right l (sym (one_kind_is (column_kind rels q.items c.left) (operand_kind rels q.items c.right) (p (joins_one_kind rels q.items) f)) ∙ sym keeps ∙ ck) kn
  where
    lit : (o : Operand) → is_literal o ≡ true → operand_kind b.catalog.rels q.items o ≡ Some k → known_operand zs o ≡ Some v → fits_kind k v ≡ true
    lit (Col s) l e g = absurd (false≢true l)
    lit (Lit w) l e g = let is : w ≡ v = cc in ap (fits_kind k) (sym is) ∙ literal_fits w k e
source_fits b valid q zs f h r o k v (column s j g) ck kn =
    given_fits b valid q zs h s k v g (sym (joined_keeps (column_kind b.catalog.rels q.items) q.conds (conds_keep_kinds b.catalog.rels q.items q.conds f) r s j) ∙ ck) kn

get_map : (cols : List ColDef) (k : ℕ) (c : ColDef) → slice_get cols k ≡ Some c → slice_get (map (λ c. c.kind) cols) k ≡ Some c.kind
get_map [] k c e = cc
get_map (d ∷ ds) zero c e = let is : d ≡ c = cc in ap (λ x. Some x.kind) is
get_map (d ∷ ds) (suc k) c e = get_map ds k c e

-- the tuple of a minus item fits its relation
minus_fits : (b : Contents) → IsValid b.catalog b.stmts → (q : Query) → IsSafe b.catalog.rels q → list_all (joins_one_kind b.catalog.rels q.items) q.conds ≡ true → (zs : List (Option Tuple))
    → must_all_hold zs q.conds ≡ true → GivenHold b q zs → (i : ℕ) (alias : List ℕ) (rel : ℕ) (path : List Who) → slice_get q.items i ≡ Some (Rel alias rel Minus path) → is_some (slice_get b.catalog.rels rel) ≡ true
    → (t : Tuple) → slot_at zs i ≡ Some t → t.rel ≡ rel → length t.vals ≡ length (columns_at b.catalog.rels rel) → fits_relation b.catalog.rels t ≡ true
minus_fits b valid q safe f zs h g i alias rel path item there t is r long =
    let rels = b.catalog.rels in
    let def = some_of (slice_get rels rel) there in
    let columns : fits_columns (columns_at rels rel) t.vals ≡ true = fits_from_each (columns_at rels rel) t.vals long one in
    ap (λ n. fits_definition (slice_get rels n) t.vals) r ∙ ap (λ o. fits_definition o t.vals) def.1 ∙ sym (ap (λ o. fits_columns (columns_of_definition o) t.vals) def.1) ∙ columns
  where
    one : (k : ℕ) (c : ColDef) (v : Value) → slice_get (columns_at b.catalog.rels rel) k ≡ Some c → slice_get t.vals k ≡ Some v → fits_kind c.kind v ≡ true
    one k c v e w =
        let rels = b.catalog.rels in
        let ref : Ref = record { item = i; col = k } in
        let ck : column_kind rels q.items ref ≡ Some c.kind = ap (option_and_then (λ item. slice_get (item_kinds rels item) k)) item ∙ get_map (columns_at rels rel) k c e in
        let bound = safe ref (record { minus = ap is_minus item; there = ap is_some ck }) in
        let src = some_of (source_of rels q ref) (bound_has_source rels q f bound (ap is_some ck)) in
        let source = source_is rels q ref src.0 src.1 in
        let kn : known_operand zs src.0 ≡ Some v = sym (source_known rels q zs h ref src.0 source) ∙ value_of zs i t k is ∙ w in
        source_fits b valid q zs f g ref src.0 c.kind v source ck kn

-- ---- from steps to slots

facts_of : (b : Contents) (q : Query) (zs : List (Option Tuple)) (set order : List ℕ) → OrderSays b q zs set order → Each (λ at. SettingSays b q zs at (slice_get q.items at) × DenyingSays b zs at (slice_get q.items at)) order
facts_of b q zs set [] says = tt
facts_of b q zs set (at ∷ order) says = ((says.0.0, says.0.1.1), facts_of b q zs (at ∷ set) order says.1)

slots_hold : (b : Contents) (zs : List (Option Tuple)) (all items : List Item) (at : ℕ) (xs : List (Option Tuple)) → ((k : ℕ) → slice_get all (at + k) ≡ slice_get items k) → ((k : ℕ) → slot_at zs (at + k) ≡ slot_at xs k)
    → length xs ≡ length items → ((i : ℕ) (item : Item) → slice_get all i ≡ Some item → SlotHolds b zs item (slot_at zs i)) → SlotsHold b zs items xs
slots_hold b zs all [] at [] h g l f = tt
slots_hold b zs all [] at (x ∷ xs) h g l f = absurd (omega arith)
slots_hold b zs all (item ∷ items) at [] h g l f = absurd (omega arith)
slots_hold b zs all (item ∷ items) at (x ∷ xs) h g l f =
    let here : at + zero ≡ at = omega arith in
    let slot : slot_at zs at ≡ x = ap (slot_at zs) (sym here) ∙ g zero in
    (subst (SlotHolds b zs item) slot (f at item (here_at all items at item h)), slots_hold b zs all items (at + 1) xs (move_on all items at item h) (λ k. ap (slot_at zs) (next at k) ∙ g (suc k)) (omega arith) f)
  where
    next : (at k : ℕ) → (at + 1) + k ≡ at + suc k
    next at k = omega arith

pub conds_fit : (b : Contents) (q : Query) → query_fits b.catalog q ≡ true → list_all (joins_one_kind b.catalog.rels q.items) q.conds ≡ true
conds_fit b q h =
    let rels = b.catalog.rels in
    let few = and_parts (nat_lt (length q.items) (2 ^ 32)) (list_all (λ def. nat_lt (length def.cols) (2 ^ 32)) rels && (list_all (item_fits b.catalog q.items) q.items && (list_all (λ r. is_some (column_kind rels q.items r)) q.take && list_all (joins_one_kind rels q.items) q.conds))) h in
    let columns = and_parts (list_all (λ def. nat_lt (length def.cols) (2 ^ 32)) rels) (list_all (item_fits b.catalog q.items) q.items && (list_all (λ r. is_some (column_kind rels q.items r)) q.take && list_all (joins_one_kind rels q.items) q.conds)) few.1 in
    let items = and_parts (list_all (item_fits b.catalog q.items) q.items) (list_all (λ r. is_some (column_kind rels q.items r)) q.take && list_all (joins_one_kind rels q.items) q.conds) columns.1 in
    (and_parts (list_all (λ r. is_some (column_kind rels q.items r)) q.take) (list_all (joins_one_kind rels q.items) q.conds) items.1).1

pub slots_from_steps : (b : Contents) (sight : Sight) (number : List ℕ → ℕ) → Shows b sight number → IsValid b.catalog b.stmts → (q : Query) → query_fits b.catalog q ≡ true → IsSafe b.catalog.rels q
    → (order : List ℕ) → IsOrder q order → (zs : List (Option Tuple)) → length zs ≡ length q.items → steps_hold sight zs (steps_from b.catalog.rels q [] order) ≡ true
    → SlotsHold b zs q.items zs × (must_all_hold zs q.conds ≡ true)
slots_from_steps b sight number s valid q fits safe order is zs long h =
    let rels = b.catalog.rels in
    let says = steps_say b sight number s valid q (items_fit b q fits) zs 0 [] order is.fits none_yet h in
    let facts = facts_of b q zs [] order says in
    let conds = conds_hold b q order is.each zs (conds_fit b q fits) says in
    let at : (i : ℕ) (item : Item) → slice_get q.items i ≡ Some item → SettingSays b q zs i (Some item) × DenyingSays b zs i (Some item) =
    λ i item e. subst (λ o. SettingSays b q zs i o × DenyingSays b zs i o) e (each_at (λ at. SettingSays b q zs at (slice_get q.items at) × DenyingSays b zs at (slice_get q.items at)) order i facts (is.each i item e)) in
    let given = given_hold at in
    (slots_hold b zs q.items q.items 0 zs (from_zero q.items) (slot_from_zero zs) long (all_hold at given conds), conds)
  where
    none_yet : AreUsersOf b q.items zs []
    none_yet i e u = absurd (false≢true e)

    slot_from_zero : (zs : List (Option Tuple)) (k : ℕ) → slot_at zs (0 + k) ≡ slot_at zs k
    slot_from_zero zs k = ap (option_and_then (λ s. s)) (from_zero zs k)

    given_hold : ((i : ℕ) (item : Item) → slice_get q.items i ≡ Some item → SettingSays b q zs i (Some item) × DenyingSays b zs i (Some item)) → GivenHold b q zs
    given_hold at i (Users alias) e g = (at i (Users alias) e).0
    given_hold at i (Rel alias rel Plus path) e g = (at i (Rel alias rel Plus path) e).0
    given_hold at i (Rel alias rel Minus path) e g = absurd (false≢true g)

    all_hold : ((i : ℕ) (item : Item) → slice_get q.items i ≡ Some item → SettingSays b q zs i (Some item) × DenyingSays b zs i (Some item)) → GivenHold b q zs → must_all_hold zs q.conds ≡ true
        → (i : ℕ) (item : Item) → slice_get q.items i ≡ Some item → SlotHolds b zs item (slot_at zs i)
    all_hold at given conds i (Users alias) e = given i (Users alias) e refl
    all_hold at given conds i (Rel alias rel Plus path) e = given i (Rel alias rel Plus path) e refl
    all_hold at given conds i (Rel alias rel Minus path) e =
        let (t, is, r, wide, believed) = (at i (Rel alias rel Minus path) e).1 in
        let f = list_all_get (item_fits b.catalog q.items) q.items i (Rel alias rel Minus path) (items_fit b q fits) e in
        let there = (and_parts (is_some (slice_get b.catalog.rels rel)) _ f).0 in
        (t, is, r, minus_fits b valid q safe (conds_fit b q fits) zs conds given i alias rel path e there t is r wide, believed)

-- ---- from slots to steps

pub slot_holds_at : (b : Contents) (zs : List (Option Tuple)) (items : List Item) (xs : List (Option Tuple)) → SlotsHold b zs items xs → (k : ℕ) (item : Item) → slice_get items k ≡ Some item → SlotHolds b zs item (slot_at xs k)
slot_holds_at b zs [] xs h k item e = cc
slot_holds_at b zs (x ∷ items) [] h k item e = absurd h
slot_holds_at b zs (x ∷ items) (y ∷ xs) h zero item e = let is : x ≡ item = cc in subst (λ i. SlotHolds b zs i y) is h.0
slot_holds_at b zs (x ∷ items) (y ∷ xs) h (suc k) item e = slot_holds_at b zs items xs h.1 k item e

slots_long : (b : Contents) (zs : List (Option Tuple)) (items : List Item) (xs : List (Option Tuple)) → SlotsHold b zs items xs → length xs ≡ length items
slots_long b zs [] [] h = refl
slots_long b zs [] (x ∷ xs) h = absurd h
slots_long b zs (item ∷ items) [] h = absurd h
slots_long b zs (item ∷ items) (x ∷ xs) h = ap suc (slots_long b zs items xs h.1)

-- each column of a minus item equals its source
equal_sources : (rels : List RelDef) (q : Query) (zs : List (Option Tuple)) → must_all_hold zs q.conds ≡ true → (at col : ℕ) (cols : List ColDef) (vals : List Value) → fits_columns cols vals ≡ true
    → ((k : ℕ) (v : Value) → slice_get vals k ≡ Some v → known zs (record { item = at; col = col + k }) ≡ Some v) → EqualSources rels q zs at col cols
equal_sources rels q zs h at col [] vals f g = tt
equal_sources rels q zs h at col (c ∷ cs) [] f g = absurd (false≢true f)
equal_sources rels q zs h at col (c ∷ cs) (v ∷ vs) f g =
    let r : Ref = record { item = at; col = col } in
    let first : col + zero ≡ col = omega arith in
    let kn : known zs r ≡ Some v = subst (λ i. known zs (record { item = at; col = i }) ≡ Some v) first (g zero v refl) in
    (here r v kn (source_of rels q r) refl, equal_sources rels q zs h at (col + 1) cs vs (and_parts (fits_kind c.kind v) (fits_columns cs vs) f).1 (λ k w e. subst (λ i. known zs (record { item = at; col = i }) ≡ Some w) (moved col k) (g (suc k) w e)))
  where
    moved : (col k : ℕ) → col + suc k ≡ (col + 1) + k
    moved col k = omega arith

    here : (r : Ref) (v : Value) → known zs r ≡ Some v → (o : Option Operand) → source_of rels q r ≡ o → EqualsSource zs r o
    here r v kn None e = tt
    here r v kn (Some o) e = source_holds zs r o v kn (source_known rels q zs h r o (source_is rels q r o e))

says_of : (b : Contents) (q : Query) (zs : List (Option Tuple)) → must_all_hold zs q.conds ≡ true → (at : ℕ) (o : Option Item) → ((item : Item) → o ≡ Some item → SlotHolds b zs item (slot_at zs at))
    → SettingSays b q zs at o × DenyingSays b zs at o
says_of b q zs c at None h = (tt, tt)
says_of b q zs c at (Some (Users alias)) h = (h (Users alias) refl, tt)
says_of b q zs c at (Some (Rel alias rel Plus path)) h = (h (Rel alias rel Plus path) refl, tt)
says_of b q zs c at (Some (Rel alias rel Minus path)) h =
    let (t, is, r, fits, believed) = h (Rel alias rel Minus path) refl in
    let rels = b.catalog.rels in
    let columns : fits_columns (columns_at rels rel) t.vals ≡ true = ap (λ n. fits_columns (columns_at rels n) t.vals) (sym r) ∙ fits_its_columns (slice_get rels t.rel) t.vals fits in (
      equal_sources rels q zs c at 0 (columns_at rels rel) t.vals columns (λ k v e. value_of zs at t (0 + k) is ∙ from_zero t.vals k ∙ e),
      (t, is, r, as_many_values (columns_at rels rel) t.vals columns, believed),
    )

order_says : (b : Contents) (q : Query) (zs : List (Option Tuple)) → must_all_hold zs q.conds ≡ true → ((at : ℕ) → SettingSays b q zs at (slice_get q.items at) × DenyingSays b zs at (slice_get q.items at))
    → (set order : List ℕ) → OrderSays b q zs set order
order_says b q zs c h set [] = tt
order_says b q zs c h set (at ∷ order) =
    (((h at).0, (list_all-filter (must_hold zs) (λ d. all_set (at ∷ set) d && not (all_set set d)) q.conds c, (h at).1)), order_says b q zs c h (at ∷ set) order)

pub steps_from_slots : (b : Contents) (sight : Sight) (number : List ℕ → ℕ) → Shows b sight number → IsValid b.catalog b.stmts → (q : Query) → query_fits b.catalog q ≡ true → (order : List ℕ) → (zs : List (Option Tuple))
    → SlotsHold b zs q.items zs → must_all_hold zs q.conds ≡ true → (length zs ≡ length q.items) × (steps_hold sight zs (steps_from b.catalog.rels q [] order) ≡ true)
steps_from_slots b sight number s valid q fits order zs h c =
    let hold = slot_holds_at b zs q.items zs h in
    let users : AreUsers b q.items zs = λ i u. let at = users_at (slice_get q.items i) u in hold i (Users at.0) at.1 in
    let paths = paths_known b q.items zs users (items_fit b q fits) in
    let means = order_means b sight number s valid.stmts q zs 0 [] order (each_of_all (λ at. KnownPath b zs (slice_get q.items at)) order paths) in
    let says = order_says b q zs c (λ at. says_of b q zs c at (slice_get q.items at) (λ item e. hold at item e)) [] order in
    (slots_long b zs q.items zs h, holds_means sight zs 0 (steps_from b.catalog.rels q [] order) means says)
