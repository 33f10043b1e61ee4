-- The sources of a query's columns.
use Rattle.std.proofs.Common.{◌≡◌, ◌∙◌, ℕ, ◌<◌, ◌≤◌, Bool, true, false, not, ◌&&◌, ◌||◌, List, [], ◌∷◌, ◌++◌, Option, None, Some, inl, inr, refl, ap, sym, length, filter, find, arith, ◌⊎◌, subst}
use Rattle.std.specs.List.{list_any, list_all, slice_get}
use Rattle.std.specs.Option.{option_map, is_some}
use Rattle.std.proofs.lemmas.Bool.{cases_Bool, cond-true, cond-false, or_cases, or_left, or_right, and_parts, and_from}
use Rattle.bdb_base.specs.declared.kinds.Cmp.{Cmp}
use Rattle.bdb_base.specs.declared.kinds.Cmp.TheVariants.{Eq}
use Rattle.bdb_base.specs.declared.kinds.Cond.{Cond}
use Rattle.bdb_base.specs.declared.kinds.Item.{Item}
use Rattle.bdb_base.specs.declared.kinds.Operand.{Operand}
use Rattle.bdb_base.specs.declared.kinds.Operand.TheVariants.{Col, Lit}
use Rattle.bdb_base.specs.declared.kinds.Query.{Query}
use Rattle.bdb_base.specs.declared.kinds.Ref.{Ref}
use Rattle.bdb_base.specs.declared.kinds.Value.{Value}
use Rattle.bdb_base.specs.declared.tuple.Tuple.{Tuple}
use Rattle.bdb_base.specs.Conditions.{compare_so}
use Rattle.bdb_base.specs.OrderLemmas.{is_eq_value_cmp}
use Rattle.bdb_base.specs.Safety.{is_given, same_column, is_equality, is_column, is_literal, pins, links, IsBound, given, pinned, linked, equality, operand_columns, first_there}
use Rattle.bdb_base.specs.SameLemmas.{same_value-Decides}
use Rattle.bdb_base.proofs.WorldRowsLemmas.{list_any-flat_map}
use Rattle.bdb_base.proofs.ConditionLemmas.{same_column_is, same_column_itself, equality_is, equal_sides}
use Rattle.bdb_queries.specs.Slots.{known, known_operand, must_hold, must_all_hold}
use Rattle.bdb_model.specs.Sources.{source_of, source_in, source_of_operand, fresh_source, turned_source, source_from, next_source, is_simple, is_source, named_columns, missing, AreSources}

-- ---- columns

abbrev cond_of : Ref → Cmp → Operand → Cond
cond_of l m o = record { left = l; cmp = m; right = o }

abbrev ref_of : ℕ → ℕ → Ref
ref_of i c = record { item = i; col = c }

-- ---- equal comparisons

pub values_equal : (x y : Option Value) (v : Value) → x ≡ Some v → y ≡ Some v → compare_so Eq x y ≡ true
values_equal x y v p q = ap (λ z. compare_so Eq z y) p ∙ ap (compare_so Eq (Some v)) q ∙ is_eq_value_cmp v v ∙ (same_value-Decides v v).1 refl

-- ---- what a source is

-- the right side of the first source that fits
pub found_source : (r : Ref) (sources : List Cond) (o : Operand) → option_map (λ c. c.right) (find (λ c. same_column r c.left) sources) ≡ Some o
    → (c : Cond) × (c.left ≡ r) × (c.right ≡ o) × ((p : Cond → Bool) → list_all p sources ≡ true → p c ≡ true)
found_source r [] o e = cc
found_source r (c ∷ cs) o e = elim (cases_Bool (same_column r c.left)) [
  | inl k ↦
      let here : find (λ d. same_column r d.left) (c ∷ cs) ≡ Some c = cond-true (same_column r c.left) (Some c) (find (λ d. same_column r d.left) cs) k in
      let same : Some c.right ≡ Some o = ap (option_map (λ d. d.right)) (sym here) ∙ e in
      (c, sym (same_column_is r c.left k), cc, (λ p h. (and_parts (p c) (list_all p cs) h).0))
  | inr k ↦
      let there : find (λ d. same_column r d.left) (c ∷ cs) ≡ find (λ d. same_column r d.left) cs = cond-false (same_column r c.left) (Some c) (find (λ d. same_column r d.left) cs) k in
      let rest = found_source r cs o (ap (option_map (λ d. d.right)) (sym there) ∙ e) in
      (rest.0, rest.1, rest.2, (λ p h. rest.3 p (and_parts (p c) (list_all p cs) h).1))
]

-- a column with a source is its own, or has one among the equalities
source_cases : (items : List Item) (sources : List Cond) (r : Ref) (o : Operand) → source_in items sources r ≡ Some o
    → ((is_given (slice_get items r.item) ≡ true) × (o ≡ Col r)) ⊎ (source_of sources r ≡ Some o)
source_cases items sources r o e = elim (cases_Bool (is_given (slice_get items r.item))) [
  | inl k ↦ let same : Some (Col r) ≡ Some o = sym (cond-true (is_given (slice_get items r.item)) (Some (Col r)) (source_of sources r) k) ∙ e in inl (k, cc)
  | inr k ↦ inr (sym (cond-false (is_given (slice_get items r.item)) (Some (Col r)) (source_of sources r) k) ∙ e)
]

-- a source that holds gives its column and its right side one value
pub source_value : (items : List Item) (slots : List (Option Tuple)) (c : Cond) → is_source items c ≡ true → must_hold slots c ≡ true
    → (v : Value) × (known slots c.left ≡ Some v) × (known_operand slots c.right ≡ Some v)
source_value items slots c s h =
    let eq : c.cmp ≡ Eq = equality_is c.cmp (and_parts (is_equality c.cmp) (is_simple items c.right) s).0 in
    equal_sides (known slots c.left) (known_operand slots c.right) (ap (λ m. compare_so m (known slots c.left) (known_operand slots c.right)) (sym eq) ∙ h)

-- where the sources hold, the source of a right side has its value
pub source_has_value : (items : List Item) (sources : List Cond) (slots : List (Option Tuple)) → list_all (is_source items) sources ≡ true → must_all_hold slots sources ≡ true
    → (o src : Operand) (v : Value) → source_of_operand items sources o ≡ Some src → known_operand slots o ≡ Some v → known_operand slots src ≡ Some v
source_has_value items sources slots s h (Lit w) src v e k = let same : src ≡ Lit w = cc in ap (known_operand slots) same ∙ k
source_has_value items sources slots s h (Col r) src v e k = elim (source_cases items sources r src e) [
  | inl a ↦ ap (known_operand slots) a.1 ∙ k
  | inr a ↦
      let f = found_source r sources src a in
      let both = source_value items slots f.0 (f.3 (is_source items) s) (f.3 (must_hold slots) h) in
      let at : known slots r ≡ Some both.0 = ap (known slots) (sym f.1) ∙ both.1 in
      let one : Some both.0 ≡ Some v = sym at ∙ k in
      ap (known_operand slots) (sym f.2) ∙ both.2 ∙ one
]

-- a source is a literal, or a given column
source_is_simple : (items : List Item) (sources : List Cond) → list_all (is_source items) sources ≡ true → (o src : Operand) → source_of_operand items sources o ≡ Some src → is_simple items src ≡ true
source_is_simple items sources s (Lit w) src e = let same : src ≡ Lit w = cc in ap (is_simple items) same
source_is_simple items sources s (Col r) src e = elim (source_cases items sources r src e) [
  | inl a ↦ ap (is_simple items) a.1 ∙ a.0
  | inr a ↦
      let f = found_source r sources src a in
      ap (is_simple items) (sym f.2) ∙ (and_parts (is_equality f.0.cmp) (is_simple items f.0.right) (f.3 (is_source items) s)).1
]

-- ---- a source that is new

-- a fresh source is of a column that had none, and equals it with the source of what it equals
fresh_parts : (items : List Item) (sources : List Cond) (r : Ref) (o : Operand) (e : Cond) → fresh_source items sources r o ≡ Some e
    → (is_some (source_in items sources r) ≡ false) × ((src : Operand) × (source_of_operand items sources o ≡ Some src) × (e ≡ equality r src))
fresh_parts items sources r o e h = elim (cases_Bool (is_some (source_in items sources r))) [
  | inl k ↦
      let none : None ≡ Some e = sym (cond-true (is_some (source_in items sources r)) None (option_map (equality r) (source_of_operand items sources o)) k) ∙ h in
      cc
  | inr k ↦
      let some : option_map (equality r) (source_of_operand items sources o) ≡ Some e =
      sym (cond-false (is_some (source_in items sources r)) None (option_map (equality r) (source_of_operand items sources o)) k) ∙ h in
      (k, mapped (source_of_operand items sources o) r e some)
]
  where
    mapped : (x : Option Operand) (r : Ref) (e : Cond) → option_map (equality r) x ≡ Some e → (src : Operand) × (x ≡ Some src) × (e ≡ equality r src)
    mapped None r e h = cc
    mapped (Some src) r e h = (src, refl, cc)

-- a source is a fresh one of a comparison, from the one side or the other
from_cases : (items : List Item) (sources : List Cond) (c e : Cond) → source_from items sources c ≡ Some e
    → (c.cmp ≡ Eq) × ((fresh_source items sources c.left c.right ≡ Some e) ⊎ (turned_source items sources c.left c.right ≡ Some e))
from_cases items sources c e h = elim (cases_Bool (is_equality c.cmp)) [
  | inl k ↦ (
    equality_is c.cmp k,
    there_cases (fresh_source items sources c.left c.right) (turned_source items sources c.left c.right) e
        (sym (cond-true (is_equality c.cmp) (first_there (fresh_source items sources c.left c.right) (turned_source items sources c.left c.right)) None k) ∙ h),
  )
  | inr k ↦
      let none : None ≡ Some e = sym (cond-false (is_equality c.cmp) (first_there (fresh_source items sources c.left c.right) (turned_source items sources c.left c.right)) None k) ∙ h in
      cc
]
  where
    there_cases : (x y : Option Cond) (e : Cond) → first_there x y ≡ Some e → (x ≡ Some e) ⊎ (y ≡ Some e)
    there_cases (Some d) y e h = inl h
    there_cases None y e h = inr h

-- what is known of a source that comparisons give: it is of a column that they name and that had none; it is a literal or a
-- given column; it holds where they and the sources do
pub record IsNextSource (items : List Item) (sources conds : List Cond) (e : Cond) : Type 0 where
  pub named : list_any (λ c. list_any (same_column e.left) (c.left ∷ operand_columns c.right)) conds ≡ true
  pub fresh : is_some (source_in items sources e.left) ≡ false
  pub simple : is_source items e ≡ true
  pub holds : (slots : List (Option Tuple)) → must_all_hold slots conds ≡ true → must_all_hold slots sources ≡ true → must_hold slots e ≡ true

abbrev names : Ref → Cond → Bool
names r c = list_any (same_column r) (c.left ∷ operand_columns c.right)

-- what is known of a source that one comparison gives
record IsSourceFrom (items : List Item) (sources : List Cond) (c e : Cond) : Type 0 where
  named : names e.left c ≡ true
  fresh : is_some (source_in items sources e.left) ≡ false
  simple : is_source items e ≡ true
  holds : (slots : List (Option Tuple)) → must_hold slots c ≡ true → must_all_hold slots sources ≡ true → must_hold slots e ≡ true

from_left : (items : List Item) (sources : List Cond) (c e : Cond) → list_all (is_source items) sources ≡ true → c.cmp ≡ Eq → fresh_source items sources c.left c.right ≡ Some e
    → IsSourceFrom items sources c e
from_left items sources c e s eq h =
    let parts = fresh_parts items sources c.left c.right e h in
    let src = parts.1.0 in
    record {
      named = ap (λ d. names d.left c) parts.1.2 ∙ or_left (same_column c.left c.left) (list_any (same_column c.left) (operand_columns c.right)) (same_column_itself c.left);
      fresh = ap (λ d. is_some (source_in items sources d.left)) parts.1.2 ∙ parts.0;
      simple = ap (is_source items) parts.1.2 ∙ source_is_simple items sources s c.right src parts.1.1;
      holds = λ slots a b.
          let both = equal_sides (known slots c.left) (known_operand slots c.right) (ap (λ m. compare_so m (known slots c.left) (known_operand slots c.right)) (sym eq) ∙ a) in
          ap (must_hold slots) parts.1.2
          ∙ values_equal (known slots c.left) (known_operand slots src) both.0 both.1 (source_has_value items sources slots s b c.right src both.0 parts.1.1 both.2);
    }

from_right : (items : List Item) (sources : List Cond) (l : Ref) (o : Operand) (e : Cond) → list_all (is_source items) sources ≡ true → turned_source items sources l o ≡ Some e
    → IsSourceFrom items sources (record { left = l; cmp = Eq; right = o }) e
from_right items sources l (Lit w) e s h = cc
from_right items sources l (Col r) e s h =
    let parts = fresh_parts items sources r (Col l) e h in
    let src = parts.1.0 in
    record {
      named = ap (λ d. names d.left (equality l (Col r))) parts.1.2 ∙ or_right (same_column r l) (same_column r r || false) (or_left (same_column r r) false (same_column_itself r));
      fresh = ap (λ d. is_some (source_in items sources d.left)) parts.1.2 ∙ parts.0;
      simple = ap (is_source items) parts.1.2 ∙ source_is_simple items sources s (Col l) src parts.1.1;
      holds = λ slots a b.
          let both = equal_sides (known slots l) (known slots r) a in
          ap (must_hold slots) parts.1.2
          ∙ values_equal (known slots r) (known_operand slots src) both.0 both.2 (source_has_value items sources slots s b (Col l) src both.0 parts.1.1 both.1);
    }

from_one : (items : List Item) (sources : List Cond) (c e : Cond) → list_all (is_source items) sources ≡ true → source_from items sources c ≡ Some e → IsSourceFrom items sources c e
from_one items sources c e s h =
    let cases = from_cases items sources c e h in
    elim cases.1 [
      | inl a ↦ from_left items sources c e s cases.0 a
      | inr a ↦
          let same : record { left = c.left; cmp = Eq; right = c.right } ≡ c = ap (λ m. cond_of c.left m c.right) (sym cases.0) in
          let P : Cond → Type 0 = λ d. IsSourceFrom items sources d e in
          subst P same (from_right items sources c.left c.right e s a)
    ]

pub is_next_source : (items : List Item) (sources conds : List Cond) (e : Cond) → list_all (is_source items) sources ≡ true → next_source items sources conds ≡ Some e
    → IsNextSource items sources conds e
is_next_source items sources [] e s h = cc
is_next_source items sources (c ∷ cs) e s h = elim (next_cases (source_from items sources c) (next_source items sources cs) e h) [
  | inl a ↦
      let one = from_one items sources c e s a in
      record {
        named = or_left (names e.left c) (list_any (names e.left) cs) one.named;
        fresh = one.fresh;
        simple = one.simple;
        holds = λ slots m n. one.holds slots (and_parts (must_hold slots c) (must_all_hold slots cs) m).0 n;
      }
  | inr a ↦
      let more = is_next_source items sources cs e s a in
      record {
        named = or_right (names e.left c) (list_any (names e.left) cs) more.named;
        fresh = more.fresh;
        simple = more.simple;
        holds = λ slots m n. more.holds slots (and_parts (must_hold slots c) (must_all_hold slots cs) m).1 n;
      }
]
  where
    next_cases : (x y : Option Cond) (e : Cond) → first_there x y ≡ Some e → (x ≡ Some e) ⊎ (y ≡ Some e)
    next_cases (Some d) y e h = inl h
    next_cases None y e h = inr h

-- ---- the sources grow

all_one_more : (p : Cond → Bool) (sources : List Cond) (e : Cond) → list_all p sources ≡ true → p e ≡ true → list_all p (sources ++ e ∷ []) ≡ true
all_one_more p [] e h k = and_from (p e) true k refl
all_one_more p (c ∷ cs) e h k =
    let parts = and_parts (p c) (list_all p cs) h in
    and_from (p c) (list_all p (cs ++ e ∷ [])) parts.0 (all_one_more p cs e parts.1 k)

pub simple_grows : (items : List Item) (sources conds : List Cond) (e : Cond) → list_all (is_source items) sources ≡ true → next_source items sources conds ≡ Some e
    → list_all (is_source items) (sources ++ e ∷ []) ≡ true
simple_grows items sources conds e s h = all_one_more (is_source items) sources e s (is_next_source items sources conds e s h).simple

pub follow_grows : (items : List Item) (sources conds : List Cond) (e : Cond) → list_all (is_source items) sources ≡ true → next_source items sources conds ≡ Some e
    → ((slots : List (Option Tuple)) → must_all_hold slots conds ≡ true → must_all_hold slots sources ≡ true)
    → (slots : List (Option Tuple)) → must_all_hold slots conds ≡ true → must_all_hold slots (sources ++ e ∷ []) ≡ true
follow_grows items sources conds e s h f slots k =
    all_one_more (must_hold slots) sources e (f slots k) ((is_next_source items sources conds e s h).holds slots k (f slots k))

-- ---- each new source leaves fewer columns without one

found_more : (r : Ref) (sources : List Cond) (e : Cond) → is_some (source_of sources r) ≡ true → is_some (source_of (sources ++ e ∷ []) r) ≡ true
found_more r [] e h = cc
found_more r (c ∷ cs) e h = elim (cases_Bool (same_column r c.left)) [
  | inl k ↦ ap (λ x. is_some (option_map (λ d. d.right) x)) (cond-true (same_column r c.left) (Some c) (find (λ d. same_column r d.left) (cs ++ e ∷ [])) k)
  | inr k ↦
      ap (λ x. is_some (option_map (λ d. d.right) x)) (cond-false (same_column r c.left) (Some c) (find (λ d. same_column r d.left) (cs ++ e ∷ [])) k)
      ∙ found_more r cs e (ap (λ x. is_some (option_map (λ d. d.right) x)) (sym (cond-false (same_column r c.left) (Some c) (find (λ d. same_column r d.left) cs) k)) ∙ h)
]

found_last : (sources : List Cond) (e : Cond) → is_some (source_of (sources ++ e ∷ []) e.left) ≡ true
found_last [] e = ap (λ x. is_some (option_map (λ d. d.right) x)) (cond-true (same_column e.left e.left) (Some e) None (same_column_itself e.left))
found_last (c ∷ cs) e = elim (cases_Bool (same_column e.left c.left)) [
  | inl k ↦ ap (λ x. is_some (option_map (λ d. d.right) x)) (cond-true (same_column e.left c.left) (Some c) (find (λ d. same_column e.left d.left) (cs ++ e ∷ [])) k)
  | inr k ↦
      ap (λ x. is_some (option_map (λ d. d.right) x)) (cond-false (same_column e.left c.left) (Some c) (find (λ d. same_column e.left d.left) (cs ++ e ∷ [])) k)
      ∙ found_last cs e
]

-- a column is its own source, or has one among the equalities
has_source : (items : List Item) (sources : List Cond) (r : Ref) → is_some (source_in items sources r) ≡ (is_given (slice_get items r.item) || is_some (source_of sources r))
has_source items sources r = elim (cases_Bool (is_given (slice_get items r.item))) [
  | inl k ↦ ap is_some (cond-true (is_given (slice_get items r.item)) (Some (Col r)) (source_of sources r) k) ∙ ap (λ b. b || is_some (source_of sources r)) (sym k)
  | inr k ↦ ap is_some (cond-false (is_given (slice_get items r.item)) (Some (Col r)) (source_of sources r) k) ∙ ap (λ b. b || is_some (source_of sources r)) (sym k)
]

source_more : (items : List Item) (sources : List Cond) (e : Cond) (r : Ref) → is_some (source_in items sources r) ≡ true → is_some (source_in items (sources ++ e ∷ []) r) ≡ true
source_more items sources e r h = has_source items (sources ++ e ∷ []) r ∙ elim (or_cases (is_given (slice_get items r.item)) (is_some (source_of sources r)) (sym (has_source items sources r) ∙ h)) [
  | inl k ↦ or_left (is_given (slice_get items r.item)) (is_some (source_of (sources ++ e ∷ []) r)) k
  | inr k ↦ or_right (is_given (slice_get items r.item)) (is_some (source_of (sources ++ e ∷ []) r)) (found_more r sources e k)
]

source_last : (items : List Item) (sources : List Cond) (e : Cond) → is_some (source_in items (sources ++ e ∷ []) e.left) ≡ true
source_last items sources e = has_source items (sources ++ e ∷ []) e.left
    ∙ or_right (is_given (slice_get items e.left.item)) (is_some (source_of (sources ++ e ∷ []) e.left)) (found_last sources e)

-- a stronger test leaves no more items, and fewer where an item passed the weaker one alone
filter_le : {X : Type 0} (p q : X → Bool) → ((x : X) → p x ≡ true → q x ≡ true) → (xs : List X) → length (filter p xs) ≤ length (filter q xs)
filter_le p q w [] = omega arith
filter_le p q w (x ∷ xs) =
    let rest = filter_le p q w xs in
    elim (cases_Bool (p x)) [
      | inl k ↦
          let a = ap length (cond-true (p x) (x ∷ filter p xs) (filter p xs) k) in
          let b = ap length (cond-true (q x) (x ∷ filter q xs) (filter q xs) (w x k)) in
          omega arith
      | inr k ↦
          let a = ap length (cond-false (p x) (x ∷ filter p xs) (filter p xs) k) in
          elim (cases_Bool (q x)) [
            | inl m ↦ let b = ap length (cond-true (q x) (x ∷ filter q xs) (filter q xs) m) in omega arith
            | inr m ↦ let b = ap length (cond-false (q x) (x ∷ filter q xs) (filter q xs) m) in omega arith
          ]
    ]

filter_less : {X : Type 0} (p q : X → Bool) → ((x : X) → p x ≡ true → q x ≡ true) → (y : X) → p y ≡ false → q y ≡ true → (e : X → Bool) → ((x : X) → e x ≡ true → x ≡ y) → (xs : List X)
    → list_any e xs ≡ true → length (filter p xs) < length (filter q xs)
filter_less p q w y np qy e is [] h = cc
filter_less p q w y np qy e is (x ∷ xs) h = elim (or_cases (e x) (list_any e xs) h) [
  | inl k ↦
      let same = is x k in
      let a = ap length (cond-false (p x) (x ∷ filter p xs) (filter p xs) (ap p same ∙ np)) in
      let b = ap length (cond-true (q x) (x ∷ filter q xs) (filter q xs) (ap q same ∙ qy)) in
      let rest = filter_le p q w xs in
      omega arith
  | inr k ↦
      let rest = filter_less p q w y np qy e is xs k in
      elim (cases_Bool (p x)) [
        | inl m ↦
            let a = ap length (cond-true (p x) (x ∷ filter p xs) (filter p xs) m) in
            let b = ap length (cond-true (q x) (x ∷ filter q xs) (filter q xs) (w x m)) in
            omega arith
        | inr m ↦
            let a = ap length (cond-false (p x) (x ∷ filter p xs) (filter p xs) m) in
            elim (cases_Bool (q x)) [
              | inl n ↦ let b = ap length (cond-true (q x) (x ∷ filter q xs) (filter q xs) n) in omega arith
              | inr n ↦ let b = ap length (cond-false (q x) (x ∷ filter q xs) (filter q xs) n) in omega arith
            ]
      ]
]

pub fewer_missing : (items : List Item) (sources conds : List Cond) (e : Cond) → list_all (is_source items) sources ≡ true → next_source items sources conds ≡ Some e
    → length (missing items (sources ++ e ∷ []) conds) < length (missing items sources conds)
fewer_missing items sources conds e s h =
    let next = is_next_source items sources conds e s h in
    filter_less (λ r. not (is_some (source_in items (sources ++ e ∷ []) r))) (λ r. not (is_some (source_in items sources r)))
    (λ r k. still_missing (is_some (source_in items sources r)) (is_some (source_in items (sources ++ e ∷ []) r)) (source_more items sources e r) k)
    e.left (ap not (source_last items sources e)) (ap not next.fresh) (same_column e.left) (λ r k. sym (same_column_is e.left r k)) (named_columns conds)
    (list_any-flat_map (same_column e.left) (λ c. c.left ∷ operand_columns c.right) conds ∙ next.named)
  where
    still_missing : (a b : Bool) → (a ≡ true → b ≡ true) → not b ≡ true → not a ≡ true
    still_missing true b h k = ap not (sym (h refl)) ∙ k
    still_missing false b h k = refl

-- ---- where comparisons give no new source, each bound column has one

-- a comparison that passes a test gives no source
gives_none : (items : List Item) (sources : List Cond) (p : Cond → Bool) (conds : List Cond) → list_any p conds ≡ true → next_source items sources conds ≡ None
    → (c : Cond) × (p c ≡ true) × (source_from items sources c ≡ None)
gives_none items sources p [] h n = cc
gives_none items sources p (c ∷ cs) h n =
    let parts = both_none (source_from items sources c) (next_source items sources cs) n in
    elim (or_cases (p c) (list_any p cs) h) [
      | inl k ↦ (c, k, parts.0)
      | inr k ↦ gives_none items sources p cs k parts.1
    ]
  where
    both_none : (x y : Option Cond) → first_there x y ≡ None → (x ≡ None) × (y ≡ None)
    both_none (Some d) y h = cc
    both_none None y h = (refl, h)

-- a comparison for equality gives no source from either side
neither_side : (items : List Item) (sources : List Cond) (c : Cond) → is_equality c.cmp ≡ true → source_from items sources c ≡ None
    → (fresh_source items sources c.left c.right ≡ None) × (turned_source items sources c.left c.right ≡ None)
neither_side items sources c k n =
    both_none (fresh_source items sources c.left c.right) (turned_source items sources c.left c.right)
    (sym (cond-true (is_equality c.cmp) (first_there (fresh_source items sources c.left c.right) (turned_source items sources c.left c.right)) None k) ∙ n)
  where
    both_none : (x y : Option Cond) → first_there x y ≡ None → (x ≡ None) × (y ≡ None)
    both_none (Some d) y h = cc
    both_none None y h = (refl, h)

-- where the right side has a source and gives none, the column has one
has_from_right : (items : List Item) (sources : List Cond) (r : Ref) (o : Operand) → fresh_source items sources r o ≡ None → is_some (source_of_operand items sources o) ≡ true
    → is_some (source_in items sources r) ≡ true
has_from_right items sources r o n h = elim (cases_Bool (is_some (source_in items sources r))) [
  | inl k ↦ k
  | inr k ↦ mapped (source_of_operand items sources o) r (is_some (source_in items sources r)) h
      (sym (cond-false (is_some (source_in items sources r)) None (option_map (equality r) (source_of_operand items sources o)) k) ∙ n)
]
  where
    mapped : (x : Option Operand) (r : Ref) (b : Bool) → is_some x ≡ true → option_map (equality r) x ≡ None → b ≡ true
    mapped None r b h n = cc
    mapped (Some o) r b h n = cc

literal_source : (items : List Item) (sources : List Cond) (o : Operand) → is_literal o ≡ true → is_some (source_of_operand items sources o) ≡ true
literal_source items sources (Col r) h = cc
literal_source items sources (Lit v) h = refl

column_source : (items : List Item) (sources : List Cond) (s : Ref) (o : Operand) → is_column s o ≡ true → is_some (source_in items sources s) ≡ true → is_some (source_of_operand items sources o) ≡ true
column_source items sources s (Col r) h k = ap (λ x. is_some (source_in items sources x)) (sym (same_column_is s r h)) ∙ k
column_source items sources s (Lit v) h k = cc

has_from_left : (items : List Item) (sources : List Cond) (r s : Ref) (o : Operand) → is_column r o ≡ true → turned_source items sources s o ≡ None → is_some (source_in items sources s) ≡ true
    → is_some (source_in items sources r) ≡ true
has_from_left items sources r s (Col t) h n k =
    ap (λ x. is_some (source_in items sources x)) (same_column_is r t h) ∙ has_from_right items sources t (Col s) n k
has_from_left items sources r s (Lit v) h n k = cc

pub bound_has_source : (q : Query) (sources : List Cond) → next_source q.items sources q.conds ≡ None → {r : Ref} → IsBound q r → is_some (source_in q.items sources r) ≡ true
bound_has_source q sources n {r} (given g) = ap is_some (cond-true (is_given (slice_get q.items r.item)) (Some (Col r)) (source_of sources r) g)
bound_has_source q sources n {r} (pinned p) =
    let f = gives_none q.items sources (pins r) q.conds p n in
    let c = f.0 in
    let parts = and_parts (is_equality c.cmp) (same_column r c.left && is_literal c.right) f.1 in
    let more = and_parts (same_column r c.left) (is_literal c.right) parts.1 in
    let sides = neither_side q.items sources c parts.0 f.2 in
    ap (λ x. is_some (source_in q.items sources x)) (same_column_is r c.left more.0)
    ∙ has_from_right q.items sources c.left c.right sides.0 (literal_source q.items sources c.right more.1)
bound_has_source q sources n {r} (linked {s = s} l b) =
    let before = bound_has_source q sources n b in
    let f = gives_none q.items sources (links r s) q.conds l n in
    let c = f.0 in
    let parts = and_parts (is_equality c.cmp) ((same_column r c.left && is_column s c.right) || (same_column s c.left && is_column r c.right)) f.1 in
    let sides = neither_side q.items sources c parts.0 f.2 in
    elim (or_cases (same_column r c.left && is_column s c.right) (same_column s c.left && is_column r c.right) parts.1) [
      | inl k ↦
          let more = and_parts (same_column r c.left) (is_column s c.right) k in
          ap (λ x. is_some (source_in q.items sources x)) (same_column_is r c.left more.0)
          ∙ has_from_right q.items sources c.left c.right sides.0 (column_source q.items sources s c.right more.1 before)
      | inr k ↦
          let more = and_parts (same_column s c.left) (is_column r c.right) k in
          has_from_left q.items sources r c.left c.right more.1 sides.1 (ap (λ x. is_some (source_in q.items sources x)) (sym (same_column_is s c.left more.0)) ∙ before)
    ]

pub are_sources : (q : Query) (sources : List Cond) → list_all (is_source q.items) sources ≡ true
    → ((slots : List (Option Tuple)) → must_all_hold slots q.conds ≡ true → must_all_hold slots sources ≡ true) → next_source q.items sources q.conds ≡ None → AreSources q sources
are_sources q sources s f n = record { follow = f; simple = s; whole = λ r b. bound_has_source q sources n b }
