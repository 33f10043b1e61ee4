-- Where the values of columns come from.
use Rattle.std.proofs.Common.{◌≡◌, ◌∙◌, ℕ, suc, ◌+◌, Bool, true, false, ◌&&◌, ◌||◌, List, [], ◌∷◌, ◌++◌, Option, None, Some, inl, inr, refl, ap, sym, subst, find, cond, arith}
use Prim.Native.Nat.{zero}
use Rattle.std.specs.List.{list_any, list_all, slice_get}
use Rattle.std.specs.Option.{option_map, option_and_then, is_some}
use Rattle.std.proofs.lemmas.Bool.{false≢true, cases_Bool, cond-true, cond-false, or_cases, or_left, or_right, and_parts, and_from}
use Rattle.std.proofs.lemmas.List.Folds.{list_any-append}
use Rattle.bdb_base.specs.declared.kinds.Cmp.TheVariants.{Eq}
use Rattle.bdb_base.specs.declared.kinds.Cond.{Cond}
use Rattle.bdb_base.specs.declared.kinds.Item.{Item}
use Rattle.bdb_base.specs.declared.kinds.Kind.{Kind}
use Rattle.bdb_base.specs.declared.kinds.Operand.{Operand}
use Rattle.bdb_base.specs.declared.kinds.Operand.TheVariants.{Col, Lit}
use Rattle.bdb_base.specs.declared.kinds.Query.{Query}
use Rattle.bdb_base.specs.declared.kinds.Ref.{Ref}
use Rattle.bdb_base.specs.declared.kinds.RelDef.{RelDef}
use Rattle.bdb_base.specs.declared.kinds.Value.{Value}
use Rattle.bdb_base.specs.declared.tuple.Tuple.{Tuple}
use Rattle.bdb_base.specs.Conditions.{compare_so}
use Rattle.bdb_base.specs.Order.{value_cmp}
use Rattle.bdb_base.specs.OrderLemmas.{value_exact}
use Rattle.bdb_base.specs.Safety.{is_given, is_equality, is_literal, is_column, pins, links, same_column, item_kinds, column_kind, operand_kind, one_kind, joins_one_kind, IsBound, given, pinned, linked, equality, first_there}
use Rattle.bdb_base.specs.SameLemmas.{same_kind-Decides}
use Rattle.bdb_base.proofs.SetLemmas.{is_eq-Equal, is_eq_itself}
use Rattle.bdb_base.proofs.LeastLemmas.{find_passes}
use Rattle.bdb_base.proofs.FindLemmas.{find_all}
use Rattle.bdb_base.proofs.ConditionLemmas.{same_column_is, same_column_itself, column_is, equality_is}
use Rattle.bdb_queries.specs.Slots.{known, known_operand, must_hold, must_all_hold}
use Rattle.bdb_plan.specs.Sources.{renamed, renamed_by, stands_for, joined, pins_chain, columns_from, given_columns, source_of}

-- ---- what equalities keep

-- what is one for both sides of each equality of two columns
abbrev pub Keeps : {X : Type 0} → (Ref → X) → Cond → Type 0
Keeps f c = (y : Ref) → is_equality c.cmp ≡ true → c.right ≡ Col y → f c.left ≡ f y

abbrev pub KeepsAll : {X : Type 0} → (Ref → X) → List Cond → Type 0
KeepsAll f [] = Unit {0}
KeepsAll f (c ∷ cs) = Keeps f c × KeepsAll f cs

renamed_keeps : {X : Type 0} (f : Ref → X) (old new r : Ref) → f old ≡ f new → f (renamed old new r) ≡ f r
renamed_keeps f old new r e = elim (cases_Bool (same_column r old)) [
  | inl k ↦ ap f (cond-true (same_column r old) new r k) ∙ sym e ∙ ap f (sym (same_column_is r old k))
  | inr k ↦ ap f (cond-false (same_column r old) new r k)
]

renamed_by_keeps : {X : Type 0} (f : Ref → X) (b : Bool) (o : Operand) (name : Ref → Ref) (left r : Ref) → ((s : Ref) → f (name s) ≡ f s)
    → ((y : Ref) → b ≡ true → o ≡ Col y → f left ≡ f y) → f (renamed_by b o name left r) ≡ f r
renamed_by_keeps f true (Col y) name left r h k = renamed_keeps f (name left) (name y) (name r) (h left ∙ k y refl refl ∙ sym (h y)) ∙ h r
renamed_by_keeps f true (Lit v) name left r h k = h r
renamed_by_keeps f false o name left r h k = h r

-- it is one for a column and the one that stands for it
pub stands_keeps : {X : Type 0} (f : Ref → X) (conds : List Cond) → KeepsAll f conds → (r : Ref) → f (stands_for conds r) ≡ f r
stands_keeps f [] h r = refl
stands_keeps f (c ∷ cs) h r = renamed_by_keeps f (is_equality c.cmp) c.right (stands_for cs) c.left r (stands_keeps f cs h.1) h.0

pub joined_keeps : {X : Type 0} (f : Ref → X) (conds : List Cond) → KeepsAll f conds → (r s : Ref) → joined conds r s ≡ true → f r ≡ f s
joined_keeps f conds h r s j = sym (stands_keeps f conds h r) ∙ ap f (same_column_is (stands_for conds r) (stands_for conds s) j) ∙ stands_keeps f conds h s

-- ---- values

equal_sides : (a b : Option Value) → compare_so Eq a b ≡ true → a ≡ b
equal_sides None b h = absurd (false≢true h)
equal_sides (Some x) None h = absurd (false≢true h)
equal_sides (Some x) (Some y) h = ap Some (value_exact.exact x y (is_eq-Equal (value_cmp x y) h))

-- the sides of an equality that holds have one value
pub sides_known : (zs : List (Option Tuple)) (c : Cond) → is_equality c.cmp ≡ true → must_hold zs c ≡ true → known zs c.left ≡ known_operand zs c.right
sides_known zs c e h = equal_sides (known zs c.left) (known_operand zs c.right) (ap (λ cmp. compare_so cmp (known zs c.left) (known_operand zs c.right)) (sym (equality_is c.cmp e)) ∙ h)

pub conds_keep_values : (zs : List (Option Tuple)) (conds : List Cond) → must_all_hold zs conds ≡ true → KeepsAll (known zs) conds
conds_keep_values zs [] h = tt
conds_keep_values zs (c ∷ cs) h =
    let k = and_parts (must_hold zs c) (must_all_hold zs cs) h in
    ((λ y e o. sides_known zs c e k.0 ∙ ap (known_operand zs) o), conds_keep_values zs cs k.1)

pub one_kind_is : (a b : Option Kind) → one_kind a b ≡ true → a ≡ b
one_kind_is None b h = absurd (false≢true h)
one_kind_is (Some a) None h = absurd (false≢true h)
one_kind_is (Some a) (Some b) h = ap Some ((same_kind-Decides a b).0 h)

pub conds_keep_kinds : (rels : List RelDef) (items : List Item) (conds : List Cond) → list_all (joins_one_kind rels items) conds ≡ true → KeepsAll (column_kind rels items) conds
conds_keep_kinds rels items [] h = tt
conds_keep_kinds rels items (c ∷ cs) h =
    let k = and_parts (joins_one_kind rels items c) (list_all (joins_one_kind rels items) cs) h in
    ((λ y e o. one_kind_is (column_kind rels items c.left) (operand_kind rels items c.right) k.0 ∙ ap (operand_kind rels items) o), conds_keep_kinds rels items cs k.1)

-- ---- finding

pub found_is_found : {X : Type 0} (p : X → Bool) (xs : List X) → list_any p xs ≡ true → is_some (find p xs) ≡ true
found_is_found p [] h = absurd (false≢true h)
found_is_found p (x ∷ xs) h = elim (cases_Bool (p x)) [
  | inl k ↦ ap is_some (cond-true (p x) (Some x) (find p xs) k)
  | inr k ↦ ap is_some (cond-false (p x) (Some x) (find p xs) k) ∙ found_is_found p xs (ap (λ b. b || list_any p xs) (sym k) ∙ h)
]

-- ---- the columns of given items

abbrev is_given_at : List Item → Ref → Bool
is_given_at items r = is_given (slice_get items r.item)

columns_given : (items : List Item) (at col : ℕ) (ks : List Kind) → is_given (slice_get items at) ≡ true → list_all (is_given_at items) (columns_from at col ks) ≡ true
columns_given items at col [] h = refl
columns_given items at col (k ∷ ks) h = and_from (is_given_at items (record { item = at; col = col })) (list_all (is_given_at items) (columns_from at (col + 1) ks)) h (columns_given items at (col + 1) ks h)

list_all_append : {X : Type 0} (p : X → Bool) (xs ys : List X) → list_all p xs ≡ true → list_all p ys ≡ true → list_all p (xs ++ ys) ≡ true
list_all_append p [] ys h g = g
list_all_append p (x ∷ xs) ys h g =
    let k = and_parts (p x) (list_all p xs) h in
    and_from (p x) (list_all p (xs ++ ys)) k.0 (list_all_append p xs ys k.1 g)

pub move_on : (all items : List Item) (at : ℕ) (item : Item) → ((k : ℕ) → slice_get all (at + k) ≡ slice_get (item ∷ items) k) → (k : ℕ) → slice_get all ((at + 1) + k) ≡ slice_get items k
move_on all items at item h k = ap (slice_get all) (next at k) ∙ h (suc k)
  where
    next : (at k : ℕ) → (at + 1) + k ≡ at + suc k
    next at k = omega arith

pub here_at : (all items : List Item) (at : ℕ) (item : Item) → ((k : ℕ) → slice_get all (at + k) ≡ slice_get (item ∷ items) k) → slice_get all at ≡ Some item
here_at all items at item h = ap (slice_get all) (same at) ∙ h zero
  where
    same : (at : ℕ) → at ≡ at + zero
    same at = omega arith

given_are : (rels : List RelDef) (all items : List Item) (at : ℕ) → ((k : ℕ) → slice_get all (at + k) ≡ slice_get items k) → list_all (is_given_at all) (given_columns rels at items) ≡ true
given_are rels all [] at h = refl
given_are rels all (item ∷ items) at h =
    let rest = given_are rels all items (at + 1) (move_on all items at item h) in
    elim (cases_Bool (is_given (Some item))) [
      | inl k ↦
          ap (λ xs. list_all (is_given_at all) (xs ++ given_columns rels (at + 1) items)) (cond-true (is_given (Some item)) (columns_from at 0 (item_kinds rels item)) [] k)
          ∙ list_all_append (is_given_at all) (columns_from at 0 (item_kinds rels item)) (given_columns rels (at + 1) items)
          (columns_given all at 0 (item_kinds rels item) (ap is_given (here_at all items at item h) ∙ k)) rest
      | inr k ↦ ap (λ xs. list_all (is_given_at all) (xs ++ given_columns rels (at + 1) items)) (cond-false (is_given (Some item)) (columns_from at 0 (item_kinds rels item)) [] k) ∙ rest
    ]

pub all_given : (rels : List RelDef) (items : List Item) → list_all (is_given_at items) (given_columns rels 0 items) ≡ true
all_given rels items = given_are rels items items 0 (λ k. ap (slice_get items) (from_zero k))
  where
    from_zero : (k : ℕ) → 0 + k ≡ k
    from_zero k = omega arith

column_found : (p : Ref → Bool) (at col k : ℕ) (ks : List Kind) → is_some (slice_get ks k) ≡ true → p (record { item = at; col = col + k }) ≡ true → list_any p (columns_from at col ks) ≡ true
column_found p at col k [] h e = absurd (false≢true h)
column_found p at col zero (x ∷ ks) h e =
    let same : col + zero ≡ col = omega arith in
    or_left (p (record { item = at; col = col })) (list_any p (columns_from at (col + 1) ks)) (ap (λ c. p (record { item = at; col = c })) (sym same) ∙ e)
column_found p at col (suc k) (x ∷ ks) h e =
    let same : (col + 1) + k ≡ col + suc k = omega arith in
    or_right (p (record { item = at; col = col })) (list_any p (columns_from at (col + 1) ks)) (column_found p at (col + 1) k ks h (ap (λ c. p (record { item = at; col = c })) same ∙ e))

given_found : (rels : List RelDef) (p : Ref → Bool) (items : List Item) (at k col : ℕ) → is_given (slice_get items k) ≡ true → is_some (option_and_then (λ item. slice_get (item_kinds rels item) col) (slice_get items k)) ≡ true
    → p (record { item = at + k; col = col }) ≡ true → list_any p (given_columns rels at items) ≡ true
given_found rels p [] at k col g h e = absurd (false≢true g)
given_found rels p (item ∷ items) at zero col g h e =
    let same : at + zero ≡ at = omega arith in
    let first : 0 + col ≡ col = omega arith in
    ap (λ xs. list_any p (xs ++ given_columns rels (at + 1) items)) (cond-true (is_given (Some item)) (columns_from at 0 (item_kinds rels item)) [] g)
    ∙ list_any-append p (columns_from at 0 (item_kinds rels item)) (given_columns rels (at + 1) items)
    ∙ or_left (list_any p (columns_from at 0 (item_kinds rels item))) (list_any p (given_columns rels (at + 1) items))
    (column_found p at 0 col (item_kinds rels item) h (ap (λ c. p (record { item = at; col = c })) first ∙ ap (λ i. p (record { item = i; col = col })) (sym same) ∙ e))
given_found rels p (item ∷ items) at (suc k) col g h e =
    let same : (at + 1) + k ≡ at + suc k = omega arith in
    let front = cond (is_given (Some item)) (columns_from at 0 (item_kinds rels item)) [] in
    list_any-append p front (given_columns rels (at + 1) items)
    ∙ or_right (list_any p front) (list_any p (given_columns rels (at + 1) items)) (given_found rels p items (at + 1) k col g h (ap (λ i. p (record { item = i; col = col })) same ∙ e))

-- ---- bound columns have a source

-- the source of a column, by the one that stands for it
abbrev source_by : List RelDef → Query → Ref → Option Operand
source_by rels q x = first_there (option_map (λ c. c.right) (find (λ c. is_equality c.cmp && (is_literal c.right && same_column x (stands_for q.conds c.left))) q.conds))
    (option_map Col (find (λ s. same_column x (stands_for q.conds s)) (given_columns rels 0 q.items)))

some_first : {X : Type 0} (a b : Option X) → is_some a ≡ true → is_some (first_there a b) ≡ true
some_first None b h = absurd (false≢true h)
some_first (Some x) b h = refl

some_second : {X : Type 0} (a b : Option X) → is_some b ≡ true → is_some (first_there a b) ≡ true
some_second None b h = h
some_second (Some x) b h = refl

some_map : {X Y : Type 0} (f : X → Y) (o : Option X) → is_some o ≡ true → is_some (option_map f o) ≡ true
some_map f None h = absurd (false≢true h)
some_map f (Some x) h = refl

same_new : (old new : Ref) → renamed old new new ≡ new
same_new old new = elim (cases_Bool (same_column new old)) [
  | inl k ↦ cond-true (same_column new old) new new k
  | inr k ↦ cond-false (same_column new old) new new k
]

renamed_pair : (b : Bool) (o : Operand) (name : Ref → Ref) (left y : Ref) → b ≡ true → o ≡ Col y → renamed_by b o name left left ≡ renamed_by b o name left y
renamed_pair true (Col z) name left y e h =
    let same : z ≡ y = cc in
    cond-true (same_column (name left) (name left)) (name z) (name left) (same_column_itself (name left))
    ∙ sym (ap (λ x. renamed (name left) (name z) (name x)) (sym same) ∙ same_new (name left) (name z))
renamed_pair true (Lit v) name left y e h = cc
renamed_pair false o name left y e h = absurd (false≢true e)

renamed_same : (b : Bool) (o : Operand) (name : Ref → Ref) (left r s : Ref) → name r ≡ name s → renamed_by b o name left r ≡ renamed_by b o name left s
renamed_same true (Col y) name left r s e = ap (renamed (name left) (name y)) e
renamed_same true (Lit v) name left r s e = e
renamed_same false o name left r s e = e

-- columns that an equality links have one name
pub linked_stand : (conds : List Cond) (r s : Ref) → list_any (links r s) conds ≡ true → stands_for conds r ≡ stands_for conds s
linked_stand [] r s h = absurd (false≢true h)
linked_stand (c ∷ cs) r s h = elim (or_cases (links r s c) (list_any (links r s) cs) h) [
  | inl l ↦
      let k = and_parts (is_equality c.cmp) ((same_column r c.left && is_column s c.right) || (same_column s c.left && is_column r c.right)) l in
      elim (or_cases (same_column r c.left && is_column s c.right) (same_column s c.left && is_column r c.right) k.1) [
        | inl m ↦
            let n = and_parts (same_column r c.left) (is_column s c.right) m in
            ap (stands_for (c ∷ cs)) (same_column_is r c.left n.0) ∙ renamed_pair (is_equality c.cmp) c.right (stands_for cs) c.left s k.0 (column_is s c.right n.1)
        | inr m ↦
            let n = and_parts (same_column s c.left) (is_column r c.right) m in
            sym (ap (stands_for (c ∷ cs)) (same_column_is s c.left n.0) ∙ renamed_pair (is_equality c.cmp) c.right (stands_for cs) c.left r k.0 (column_is r c.right n.1))
      ]
  | inr l ↦ renamed_same (is_equality c.cmp) c.right (stands_for cs) c.left r s (linked_stand cs r s l)
]

kinds_there : (a b : Option Kind) → one_kind a b ≡ true → (is_some a ≡ true) × (is_some b ≡ true)
kinds_there None b h = absurd (false≢true h)
kinds_there (Some a) None h = absurd (false≢true h)
kinds_there (Some a) (Some b) h = (refl, refl)

-- both columns that an equality links are there
linked_there : (rels : List RelDef) (items : List Item) (conds : List Cond) (r s : Ref) → list_all (joins_one_kind rels items) conds ≡ true → list_any (links r s) conds ≡ true → is_some (column_kind rels items s) ≡ true
linked_there rels items [] r s h l = absurd (false≢true l)
linked_there rels items (c ∷ cs) r s h l =
    let a = and_parts (joins_one_kind rels items c) (list_all (joins_one_kind rels items) cs) h in
    let there = kinds_there (column_kind rels items c.left) (operand_kind rels items c.right) a.0 in
    elim (or_cases (links r s c) (list_any (links r s) cs) l) [
      | inl l ↦
          let k = and_parts (is_equality c.cmp) ((same_column r c.left && is_column s c.right) || (same_column s c.left && is_column r c.right)) l in
          elim (or_cases (same_column r c.left && is_column s c.right) (same_column s c.left && is_column r c.right) k.1) [
            | inl m ↦
                let n = and_parts (same_column r c.left) (is_column s c.right) m in
                ap (λ o. is_some (operand_kind rels items o)) (sym (column_is s c.right n.1)) ∙ there.1
            | inr m ↦
                let n = and_parts (same_column s c.left) (is_column r c.right) m in
                ap (λ x. is_some (column_kind rels items x)) (same_column_is s c.left n.0) ∙ there.0
          ]
      | inr l ↦ linked_there rels items cs r s a.1 l
    ]

pinned_found : (all conds : List Cond) (r : Ref) → list_any (pins r) conds ≡ true → list_any (pins_chain all r) conds ≡ true
pinned_found all [] r h = absurd (false≢true h)
pinned_found all (c ∷ cs) r h = elim (or_cases (pins r c) (list_any (pins r) cs) h) [
  | inl l ↦
      let k = and_parts (is_equality c.cmp) (same_column r c.left && is_literal c.right) l in
      let m = and_parts (same_column r c.left) (is_literal c.right) k.1 in
      let j : joined all r c.left ≡ true = ap (λ x. same_column (stands_for all r) (stands_for all x)) (sym (same_column_is r c.left m.0)) ∙ same_column_itself (stands_for all r) in
      or_left (pins_chain all r c) (list_any (pins_chain all r) cs) (and_from (is_equality c.cmp) (is_literal c.right && joined all r c.left) k.0 (and_from (is_literal c.right) (joined all r c.left) m.1 j))
  | inr l ↦ or_right (pins_chain all r c) (list_any (pins_chain all r) cs) (pinned_found all cs r l)
]

-- a bound column that is there has a source
pub bound_has_source : (rels : List RelDef) (q : Query) → list_all (joins_one_kind rels q.items) q.conds ≡ true → {r : Ref} → IsBound q r → is_some (column_kind rels q.items r) ≡ true → is_some (source_of rels q r) ≡ true
bound_has_source rels q f {r} (given g) there =
    let same : 0 + r.item ≡ r.item = omega arith in
    some_second (option_map (λ c. c.right) (find (pins_chain q.conds r) q.conds)) (option_map Col (find (joined q.conds r) (given_columns rels 0 q.items)))
    (some_map Col (find (joined q.conds r) (given_columns rels 0 q.items)) (found_is_found (joined q.conds r) (given_columns rels 0 q.items)
    (given_found rels (joined q.conds r) q.items 0 r.item r.col g there (ap (λ i. joined q.conds r (record { item = i; col = r.col })) same ∙ same_column_itself (stands_for q.conds r)))))
bound_has_source rels q f {r} (pinned p) there =
    some_first (option_map (λ c. c.right) (find (pins_chain q.conds r) q.conds)) (option_map Col (find (joined q.conds r) (given_columns rels 0 q.items)))
    (some_map (λ c. c.right) (find (pins_chain q.conds r) q.conds) (found_is_found (pins_chain q.conds r) q.conds (pinned_found q.conds q.conds r p)))
bound_has_source rels q f {r} (linked {s = s} l k) there =
    ap (λ x. is_some (source_by rels q x)) (linked_stand q.conds r s l) ∙ bound_has_source rels q f k (linked_there rels q.items q.conds r s f l)

-- ---- what a source is

-- A source is a literal of an equality whose column is joined to the column, or a joined column of a given item.
pub data IsSource (rels : List RelDef) (q : Query) (r : Ref) : Operand → Type 0 where
  literal : (c : Cond) → is_equality c.cmp ≡ true → is_literal c.right ≡ true → joined q.conds r c.left ≡ true
      → ((p : Cond → Bool) → list_all p q.conds ≡ true → p c ≡ true) → IsSource rels q r c.right
  column : (s : Ref) → joined q.conds r s ≡ true → is_given (slice_get q.items s.item) ≡ true → IsSource rels q r (Col s)

pub source_is : (rels : List RelDef) (q : Query) (r : Ref) (o : Operand) → source_of rels q r ≡ Some o → IsSource rels q r o
source_is rels q r o e = by (find (pins_chain q.conds r) q.conds) (find (joined q.conds r) (given_columns rels 0 q.items))
    (λ c k. find_passes (pins_chain q.conds r) q.conds c k) (λ c k p h. find_all (pins_chain q.conds r) p q.conds c h k)
    (λ s k. find_passes (joined q.conds r) (given_columns rels 0 q.items) s k) (λ s k. find_all (joined q.conds r) (is_given_at q.items) (given_columns rels 0 q.items) s (all_given rels q.items) k) e
  where
    by : (a : Option Cond) (b : Option Ref) → ((c : Cond) → a ≡ Some c → pins_chain q.conds r c ≡ true) → ((c : Cond) → a ≡ Some c → (p : Cond → Bool) → list_all p q.conds ≡ true → p c ≡ true)
        → ((s : Ref) → b ≡ Some s → joined q.conds r s ≡ true) → ((s : Ref) → b ≡ Some s → is_given_at q.items s ≡ true)
        → first_there (option_map (λ c. c.right) a) (option_map Col b) ≡ Some o → IsSource rels q r o
    by (Some c) b h g i j e =
        let k = and_parts (is_equality c.cmp) (is_literal c.right && joined q.conds r c.left) (h c refl) in
        let m = and_parts (is_literal c.right) (joined q.conds r c.left) k.1 in
        let is : c.right ≡ o = cc in
        subst (IsSource rels q r) is (literal c k.0 m.0 m.1 (g c refl))
    by None (Some s) h g i j e =
        let is : Col s ≡ o = cc in
        subst (IsSource rels q r) is (column s (i s refl) (j s refl))
    by None None h g i j e = cc

-- where the comparisons hold, a column has the value of its source
pub source_known : (rels : List RelDef) (q : Query) (zs : List (Option Tuple)) → must_all_hold zs q.conds ≡ true → (r : Ref) (o : Operand) → IsSource rels q r o → known zs r ≡ known_operand zs o
source_known rels q zs h r o (literal c e l j p) = joined_keeps (known zs) q.conds (conds_keep_values zs q.conds h) r c.left j ∙ sides_known zs c e (p (must_hold zs) h)
source_known rels q zs h r o (column s j g) = joined_keeps (known zs) q.conds (conds_keep_values zs q.conds h) r s j

-- a column that is known equals its source
pub source_holds : (zs : List (Option Tuple)) (r : Ref) (o : Operand) (v : Value) → known zs r ≡ Some v → known zs r ≡ known_operand zs o → must_hold zs (equality r o) ≡ true
source_holds zs r o v e s =
    ap (λ x. compare_so Eq x (known_operand zs o)) e ∙ ap (compare_so Eq (Some v)) (sym s ∙ e) ∙ is_eq_itself value_exact v
