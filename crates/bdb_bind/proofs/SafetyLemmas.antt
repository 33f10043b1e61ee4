-- The test of safety tells exactly the safe queries.
use Rattle.std.proofs.Common.{◌≡◌, ◌∙◌, ℕ, ◌+◌, zero, suc, true, List, [], ◌∷◌, map, Option, Some, None, refl, sym, ap, inl, inr, arith, zero-add}
use Rattle.std.specs.Option.{option_or, option_and_then, is_some, is_none}
use Rattle.std.specs.List.{slice_get}
use Rattle.std.proofs.lemmas.Bool.{cases_Bool, cond-true, cond-false}
use Rattle.std.proofs.lemmas.Option.{slice_get-map}
use Rattle.bdb_base.specs.declared.kinds.ColDef.{ColDef}
use Rattle.bdb_base.specs.declared.kinds.Item.{Item}
use Rattle.bdb_base.specs.declared.kinds.Item.TheVariants.{Users, Rel}
use Rattle.bdb_base.specs.declared.kinds.Query.{Query}
use Rattle.bdb_base.specs.declared.kinds.Ref.{Ref}
use Rattle.bdb_base.specs.declared.kinds.RelDef.{RelDef}
use Rattle.bdb_base.specs.declared.kinds.Sign.TheVariants.{Plus, Minus}
use Rattle.bdb_base.specs.Queries.{columns_at}
use Rattle.bdb_base.specs.Safety.{item_kinds, column_kind, is_minus, IsMinusColumn, IsSafe}
use Rattle.bdb_base.proofs.OptionLemmas.{some_mapped}
use Rattle.bdb_bind.specs.Safe.{is_known, bound_columns, unbound_from, unbound_of, unbound_among, first_unbound, is_safe, TestTellsSafe}
use Rattle.bdb_bind.proofs.BoundLemmas.{test_tells_bound}

-- ---- the columns of one item

at_place : (items : List Item) (known : List Ref) (item a b : ℕ) → a ≡ b → is_known items known (record { item = item; col = a }) ≡ true
    → is_known items known (record { item = item; col = b }) ≡ true
at_place items known item a b same there = ap (λ n. is_known items known (record { item = item; col = n })) (sym same) ∙ there

columns_known : (items : List Item) (known : List Ref) (item col : ℕ) (cols : List ColDef) → unbound_from items known item col cols ≡ None → (k : ℕ)
    → is_some (slice_get cols k) ≡ true → is_known items known (record { item = item; col = col + k }) ≡ true
columns_known items known item col [] none k there = cc
columns_known items known item col (c ∷ cs) none k there = elim (cases_Bool (is_known items known (record { item = item; col = col }))) [
  | inl here ↦ later_known items known item col c cs here
      (columns_known items known item (col + 1) cs (sym (cond-true (is_known items known (record { item = item; col = col })) (unbound_from items known item (col + 1) cs) (Some (item, col)) here) ∙ none))
      k there
  | inr unknown ↦ let absurdly : Some (item, col) ≡ None =
      sym (cond-false (is_known items known (record { item = item; col = col })) (unbound_from items known item (col + 1) cs) (Some (item, col)) unknown) ∙ none in cc
]
  where
    later_known : (items : List Item) (known : List Ref) (item col : ℕ) (c : ColDef) (cs : List ColDef) → is_known items known (record { item = item; col = col }) ≡ true
        → ((j : ℕ) → is_some (slice_get cs j) ≡ true → is_known items known (record { item = item; col = col + 1 + j }) ≡ true) → (k : ℕ)
        → is_some (slice_get (c ∷ cs) k) ≡ true → is_known items known (record { item = item; col = col + k }) ≡ true
    later_known items known item col c cs here later zero there = at_place items known item col (col + 0) (omega arith) here
    later_known items known item col c cs here later (suc j) there = at_place items known item (col + 1 + j) (col + suc j) (omega arith) (later j there)

none_unbound : (items : List Item) (known : List Ref) (item col : ℕ) (cols : List ColDef)
    → ((k : ℕ) → is_some (slice_get cols k) ≡ true → is_known items known (record { item = item; col = col + k }) ≡ true) → unbound_from items known item col cols ≡ None
none_unbound items known item col [] all = refl
none_unbound items known item col (c ∷ cs) all =
    cond-true (is_known items known (record { item = item; col = col })) (unbound_from items known item (col + 1) cs) (Some (item, col))
    (at_place items known item (col + 0) col (omega arith) (all 0 refl))
    ∙ none_unbound items known item (col + 1) cs (λ (k : ℕ) (there : is_some (slice_get cs k) ≡ true). at_place items known item (col + suc k) (col + 1 + k) (omega arith) (all (suc k) there))

-- ---- the items

neither_unbound : (a b : Option (ℕ × ℕ)) → option_or a b ≡ None → (a ≡ None) × (b ≡ None)
neither_unbound None b e = (refl, e)
neither_unbound (Some x) b e = cc

item_at : (rels : List RelDef) (items : List Item) (known : List Ref) (a b : ℕ) (i : Item) → a ≡ b → unbound_of rels items known a i ≡ None → unbound_of rels items known b i ≡ None
item_at rels items known a b i same none = ap (λ n. unbound_of rels items known n i) (sym same) ∙ none

among_none : (rels : List RelDef) (items : List Item) (known : List Ref) (at : ℕ) (rest : List Item) → unbound_among rels items known at rest ≡ None
    → (n : ℕ) (i : Item) → slice_get rest n ≡ Some i → unbound_of rels items known (at + n) i ≡ None
among_none rels items known at [] none n i there = cc
among_none rels items known at (x ∷ xs) none zero i there =
    let same : x ≡ i = cc in
    let here = (neither_unbound (unbound_of rels items known at x) (unbound_among rels items known (at + 1) xs) none).0 in
    item_at rels items known at (at + 0) i (omega arith) (ap (unbound_of rels items known at) (sym same) ∙ here)
among_none rels items known at (x ∷ xs) none (suc n) i there =
    let later = (neither_unbound (unbound_of rels items known at x) (unbound_among rels items known (at + 1) xs) none).1 in
    item_at rels items known (at + 1 + n) (at + suc n) i (omega arith) (among_none rels items known (at + 1) xs later n i there)

none_among_items : (rels : List RelDef) (items : List Item) (known : List Ref) (at : ℕ) (rest : List Item)
    → ((n : ℕ) (i : Item) → slice_get rest n ≡ Some i → unbound_of rels items known (at + n) i ≡ None) → unbound_among rels items known at rest ≡ None
none_among_items rels items known at [] all = refl
none_among_items rels items known at (x ∷ xs) all =
    ap (λ o. option_or o (unbound_among rels items known (at + 1) xs)) (item_at rels items known (at + 0) at x (omega arith) (all 0 x refl))
    ∙ none_among_items rels items known (at + 1) xs
    (λ (n : ℕ) (i : Item) (there : slice_get xs n ≡ Some i). item_at rels items known (at + suc n) (at + 1 + n) i (omega arith) (all (suc n) i there))

-- ---- minus columns

-- a column that has a kind is there
kind_there : (cols : List ColDef) (k : ℕ) → is_some (slice_get (map (λ c. c.kind) cols) k) ≡ is_some (slice_get cols k)
kind_there cols k = ap is_some (slice_get-map (λ c. c.kind) cols k) ∙ some_mapped (λ c. c.kind) (slice_get cols k)

-- a column by its places from 0
from_zero : (items : List Item) (known : List Ref) (r : Ref) → is_known items known (record { item = 0 + r.item; col = 0 + r.col }) ≡ true → is_known items known r ≡ true
from_zero items known r there =
    sym (ap (λ n. is_known items known (record { item = n; col = 0 + r.col })) (zero-add r.item)
    ∙ ap (λ n. is_known items known (record { item = r.item; col = n })) (zero-add r.col)) ∙ there

minus_known : (rels : List RelDef) (items : List Item) (known : List Ref) (r : Ref) (o : Option Item) → slice_get items r.item ≡ o → is_minus o ≡ true
    → is_some (option_and_then (λ i. slice_get (item_kinds rels i) r.col) o) ≡ true → unbound_among rels items known 0 items ≡ None → is_known items known r ≡ true
minus_known rels items known r None at minus there none = cc
minus_known rels items known r (Some (Users alias)) at minus there none = cc
minus_known rels items known r (Some (Rel alias rel Plus path)) at minus there none = cc
minus_known rels items known r (Some (Rel alias rel Minus path)) at minus there none =
    let clear : unbound_from items known (0 + r.item) 0 (columns_at rels rel) ≡ None = among_none rels items known 0 items none r.item (Rel alias rel Minus path) at in
    from_zero items known r (columns_known items known (0 + r.item) 0 (columns_at rels rel) clear r.col (sym (kind_there (columns_at rels rel) r.col) ∙ there))

item_clear : (rels : List RelDef) (q : Query) (n : ℕ) (i : Item) → IsSafe rels q → slice_get q.items n ≡ Some i
    → unbound_of rels q.items (bound_columns q.items q.conds) (0 + n) i ≡ None
item_clear rels q n (Users alias) safe at = refl
item_clear rels q n (Rel alias rel Plus path) safe at = refl
item_clear rels q n (Rel alias rel Minus path) safe at =
    none_unbound q.items (bound_columns q.items q.conds) (0 + n) 0 (columns_at rels rel) (λ (k : ℕ) (there : is_some (slice_get (columns_at rels rel) k) ≡ true).
    let r : Ref = record { item = 0 + n; col = 0 + k } in
    let here : slice_get q.items (0 + n) ≡ Some (Rel alias rel Minus path) = ap (slice_get q.items) (zero-add n) ∙ at in
    let kind : is_some (slice_get (map (λ c. c.kind) (columns_at rels rel)) (0 + k)) ≡ true =
    ap (λ j. is_some (slice_get (map (λ c. c.kind) (columns_at rels rel)) j)) (zero-add k) ∙ kind_there (columns_at rels rel) k ∙ there in
    let column : is_some (column_kind rels q.items r) ≡ true = ap (λ o. is_some (option_and_then (λ i. slice_get (item_kinds rels i) (0 + k)) o)) here ∙ kind in
    (test_tells_bound q r).1 (safe r (record { minus = ap is_minus here; there = column })))

none_from_test : {X : Type 0} (o : Option X) → is_none o ≡ true → o ≡ None
none_from_test None e = refl
none_from_test (Some x) e = cc

safe_from : (rels : List RelDef) (q : Query) → first_unbound rels q ≡ None → IsSafe rels q
unfolding first_unbound
safe_from rels q none = λ (r : Ref) (m : IsMinusColumn rels q r).
    (test_tells_bound q r).0 (minus_known rels q.items (bound_columns q.items q.conds) r (slice_get q.items r.item) refl m.minus m.there none)

none_from : (rels : List RelDef) (q : Query) → IsSafe rels q → first_unbound rels q ≡ None
unfolding first_unbound
none_from rels q safe = none_among_items rels q.items (bound_columns q.items q.conds) 0 q.items (λ (n : ℕ) (i : Item) (at : slice_get q.items n ≡ Some i). item_clear rels q n i safe at)

pub test_tells_safe : TestTellsSafe
test_tells_safe rels q = (
  λ (e : is_safe rels q ≡ true). safe_from rels q (none_from_test (first_unbound rels q) e),
  λ (safe : IsSafe rels q). ap is_none (none_from rels q safe),
)
