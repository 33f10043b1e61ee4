-- In what holds of a safe query, the values of minus items are those of other items, or literals.
use Rattle.std.proofs.Common.{◌≡◌, ◌∙◌, ℕ, true, false, ◌&&◌, ◌||◌, nat_eq, List, [], ◌∷◌, inl, inr, refl, ap, sym, suc, None, Some, Option, map}
use Prim.Native.Nat.{zero}
use Rattle.std.specs.List.{list_all, slice_get}
use Rattle.std.specs.Option.{is_some, option_and_then}
use Rattle.std.proofs.lemmas.Bool.{false≢true, or_cases, or_left, and_parts, eqb-true}
use Rattle.std.proofs.lemmas.Option.{same_Some}
use Rattle.bdb_base.specs.declared.kinds.ColDef.{ColDef}
use Rattle.bdb_base.specs.declared.kinds.Cond.{Cond}
use Rattle.bdb_base.specs.declared.kinds.Item.{Item}
use Rattle.bdb_base.specs.declared.kinds.Item.TheVariants.{Users, Rel}
use Rattle.bdb_base.specs.declared.kinds.Operand.{Operand}
use Rattle.bdb_base.specs.declared.kinds.Operand.TheVariants.{Col, Lit}
use Rattle.bdb_base.specs.declared.kinds.Query.{Query}
use Rattle.bdb_base.specs.declared.kinds.Ref.{Ref}
use Rattle.bdb_base.specs.declared.kinds.Sign.TheVariants.{Plus, Minus}
use Rattle.bdb_base.specs.declared.kinds.UserSlot.{UserSlot}
use Rattle.bdb_base.specs.declared.kinds.Value.{Value}
use Rattle.bdb_base.specs.Bases.{Contents, fits_kind, fits_columns, fits_relation}
use Rattle.bdb_base.specs.Conditions.{compare_so}
use Rattle.bdb_base.specs.Queries.{Choice, ChosenUser, ChosenTuple, choice_column, chosen_value, chosen_operand, chosen_path, cond_holds, path_believes, item_holds, items_hold, in_domain, literal_of, columns_at}
use Rattle.bdb_base.specs.Safety.{is_minus, same_column, is_equality, is_column, is_literal, pins, links, item_kinds, column_kind, IsBound, given, pinned, linked}
use Rattle.bdb_base.specs.Same.{same_value}
use Rattle.bdb_base.specs.SameLemmas.{same_value-Decides}
use Rattle.bdb_base.proofs.WorldRowsLemmas.{list_any-flat_map}
use Rattle.bdb_base.proofs.ConditionLemmas.{same_column_is, equality_is, equal_sides}
use Rattle.bdb_base.proofs.BaseLemmas.{fits_its_columns}
use Rattle.bdb_queries.specs.QueryLaws.{IsInRange, MinusValuesAreInRange}
use Rattle.bdb_queries.proofs.FoundLemmas.{list_any_both, found_both}

-- ---- what comparisons say

-- the number of an item and a column
abbrev ref_of : ℕ → ℕ → Ref
ref_of item col = record { item = item; col = col }

pub sides_are_equal : (users : List UserSlot) (chosen : List Choice) (c : Cond) → is_equality c.cmp ≡ true → cond_holds users chosen c ≡ true
    → (v : Value) × (chosen_value users chosen c.left ≡ Some v) × (chosen_operand users chosen c.right ≡ Some v)
sides_are_equal users chosen c e h = equal_sides (chosen_value users chosen c.left) (chosen_operand users chosen c.right)
    (ap (λ cmp. compare_so cmp (chosen_value users chosen c.left) (chosen_operand users chosen c.right)) (sym (equality_is c.cmp e)) ∙ h)

-- a literal is the value of its side
literal_value : (users : List UserSlot) (chosen : List Choice) (right : Operand) (v : Value) → is_literal right ≡ true → chosen_operand users chosen right ≡ Some v
    → in_domain (literal_of right) v ≡ true
literal_value users chosen (Col r) v l e = absurd (false≢true l)
literal_value users chosen (Lit w) v l e = or_left (same_value v w) false ((same_value-Decides v w).1 (sym (same_Some w v e)))

column_value : (users : List UserSlot) (chosen : List Choice) (right : Operand) (s : Ref) → is_column s right ≡ true → chosen_operand users chosen right ≡ chosen_value users chosen s
column_value users chosen (Col r) s h = ap (chosen_value users chosen) (sym (same_column_is s r h))
column_value users chosen (Lit v) s h = absurd (false≢true h)

-- a column that equals a literal has its value
pub pinned_value : (users : List UserSlot) (chosen : List Choice) (r : Ref) (v : Value) → chosen_value users chosen r ≡ Some v → (c : Cond) → cond_holds users chosen c ≡ true → pins r c ≡ true
    → in_domain (literal_of c.right) v ≡ true
pinned_value users chosen r v e c h p =
    let k = and_parts (is_equality c.cmp) (same_column r c.left && is_literal c.right) p in
    let m = and_parts (same_column r c.left) (is_literal c.right) k.1 in
    let sides = sides_are_equal users chosen c k.0 h in
    let left : chosen_value users chosen c.left ≡ Some v = ap (chosen_value users chosen) (sym (same_column_is r c.left m.0)) ∙ e in
    literal_value users chosen c.right v m.1 (sides.2 ∙ sym sides.1 ∙ left)

-- a column that equals another has its value
pub linked_value : (users : List UserSlot) (chosen : List Choice) (r s : Ref) (v : Value) → chosen_value users chosen r ≡ Some v → (c : Cond) → cond_holds users chosen c ≡ true → links r s c ≡ true
    → chosen_value users chosen s ≡ Some v
linked_value users chosen r s v e c h l =
    let k = and_parts (is_equality c.cmp) ((same_column r c.left && is_column s c.right) || (same_column s c.left && is_column r c.right)) l in
    let sides = sides_are_equal users chosen c k.0 h in
    let one : chosen_value users chosen c.left ≡ chosen_operand users chosen c.right = sides.1 ∙ sym sides.2 in
    elim (or_cases (same_column r c.left && is_column s c.right) (same_column s c.left && is_column r c.right) k.1) [
      | inl a ↦
          let m = and_parts (same_column r c.left) (is_column s c.right) a in
          sym (column_value users chosen c.right s m.1) ∙ sym one ∙ ap (chosen_value users chosen) (sym (same_column_is r c.left m.0)) ∙ e
      | inr a ↦
          let m = and_parts (same_column s c.left) (is_column r c.right) a in
          ap (chosen_value users chosen) (same_column_is s c.left m.0) ∙ one ∙ column_value users chosen c.right r m.1 ∙ e
    ]

-- a bound column has a value of another item, or a literal
pub bound_value : (b : Contents) (q : Query) (chosen : List Choice) → list_all (cond_holds b.catalog.users chosen) q.conds ≡ true → {r : Ref} → IsBound q r
    → (v : Value) → chosen_value b.catalog.users chosen r ≡ Some v → IsInRange b q chosen v
bound_value b q chosen h {r} (given g) v e = inl (r, g, e)
bound_value b q chosen h {r} (pinned p) v e =
    let users = b.catalog.users in
    inr (list_any-flat_map (same_value v) (λ c. literal_of c.right) q.conds
    ∙ list_any_both (cond_holds users chosen) (pins r) (λ c. in_domain (literal_of c.right) v) (pinned_value users chosen r v e) q.conds h p)
bound_value b q chosen h {r} (linked {s = s} l k) v e =
    let users = b.catalog.users in
    let found = found_both (cond_holds users chosen) (links r s) q.conds h l in
    bound_value b q chosen h k v (linked_value users chosen r s v e found.0 found.1 found.2)

-- ---- the items and their choices

-- the item that a choice is made for
pub item_of_choice : (b : Contents) (chosen : List Choice) (items : List Item) (cs : List Choice) (at : ℕ) (c : Choice) → items_hold b chosen items cs ≡ true → slice_get cs at ≡ Some c
    → (item : Item) × (slice_get items at ≡ Some item) × (item_holds b chosen item c ≡ true)
item_of_choice b chosen [] [] at c h e = cc
item_of_choice b chosen [] (d ∷ ds) at c h e = absurd (false≢true h)
item_of_choice b chosen (item ∷ items) [] at c h e = absurd (false≢true h)
item_of_choice b chosen (item ∷ items) (d ∷ ds) zero c h e =
    let k = and_parts (item_holds b chosen item d) (items_hold b chosen items ds) h in
    (item, refl, ap (item_holds b chosen item) (sym (same_Some d c e)) ∙ k.0)
item_of_choice b chosen (item ∷ items) (d ∷ ds) (suc at) c h e =
    let k = and_parts (item_holds b chosen item d) (items_hold b chosen items ds) h in
    item_of_choice b chosen items ds at c k.1 e

-- what an option is, and what it gives
pub and_then_some : {X Y : Type 0} (f : X → Option Y) (o : Option X) (y : Y) → option_and_then f o ≡ Some y → (x : X) × (o ≡ Some x) × (f x ≡ Some y)
and_then_some f None y e = cc
and_then_some f (Some x) y e = (x, refl, e)

-- a value of fitting values is of a column that is there
pub column_there : (cols : List ColDef) (vals : List Value) (at : ℕ) (v : Value) → fits_columns cols vals ≡ true → slice_get vals at ≡ Some v
    → is_some (slice_get (map (λ c. c.kind) cols) at) ≡ true
column_there [] [] at v h e = cc
column_there [] (w ∷ ws) at v h e = absurd (false≢true h)
column_there (c ∷ cs) [] at v h e = absurd (false≢true h)
column_there (c ∷ cs) (w ∷ ws) zero v h e = refl
column_there (c ∷ cs) (w ∷ ws) (suc at) v h e = column_there cs ws at v (and_parts (fits_kind c.kind w) (fits_columns cs ws) h).1 e

-- a value of what is chosen for a minus item is of a column that the catalog gives its relation
minus_there : (b : Contents) (chosen : List Choice) (item : Item) (c : Choice) (col : ℕ) (v : Value) → is_minus (Some item) ≡ true → item_holds b chosen item c ≡ true
    → choice_column b.catalog.users c col ≡ Some v → is_some (slice_get (item_kinds b.catalog.rels item) col) ≡ true
minus_there b chosen (Users alias) c col v m h e = absurd (false≢true m)
minus_there b chosen (Rel alias rel Plus path) c col v m h e = absurd (false≢true m)
minus_there b chosen (Rel alias rel Minus path) (ChosenUser uid) col v m h e = absurd (false≢true h)
minus_there b chosen (Rel alias rel Minus path) (ChosenTuple t) col v m h e =
    let rels = b.catalog.rels in
    let k = and_parts (nat_eq t.rel rel) (fits_relation rels t && path_believes b t Minus (chosen_path chosen path)) h in
    let l = and_parts (fits_relation rels t) (path_believes b t Minus (chosen_path chosen path)) k.1 in
    ap (λ r. is_some (slice_get (map (λ c. c.kind) (columns_at rels r)) col)) (sym (eqb-true t.rel rel k.0))
    ∙ column_there (columns_at rels t.rel) t.vals col v (fits_its_columns (slice_get rels t.rel) t.vals l.0) e

pub minus_values_are_in_range : MinusValuesAreInRange
minus_values_are_in_range b q chosen safe h r v m e =
    let users = b.catalog.users in
    let rels = b.catalog.rels in
    let k = and_parts (items_hold b chosen q.items chosen) (list_all (cond_holds users chosen) q.conds) h in
    let c = and_then_some (λ d. choice_column users d r.col) (slice_get chosen r.item) v e in
    let item = item_of_choice b chosen q.items chosen r.item c.0 k.0 c.1 in
    let there : is_some (column_kind rels q.items r) ≡ true = ap (λ o. is_some (option_and_then (λ i. slice_get (item_kinds rels i) r.col) o)) item.1
    ∙ minus_there b chosen item.0 c.0 r.col v (ap is_minus (sym item.1) ∙ m) item.2 c.2 in
    bound_value b q chosen k.1 (safe r (record { minus = m; there = there })) v e
