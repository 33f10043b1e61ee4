-- What is chosen so far in a run, and choices for all items above it.
use Rattle.std.proofs.Common.{◌≡◌, ◌∙◌, ℕ, suc, ◌+◌, ◌<◌, true, false, not, ◌&&◌, ◌||◌, nat_eq, nat_lt, List, [], ◌∷◌, ◌++◌, Option, None, Some, inl, inr, refl, ap, sym, subst, length, slice_set, append_assoc, arith}
use Prim.Native.Nat.{zero}
use Rattle.std.specs.List.{slice_get}
use Rattle.std.specs.Option.{option_map, option_and_then}
use Rattle.std.proofs.lemmas.Bool.{false≢true, cases_Bool, cond-false, or_cases, and_parts, eqb-true, ltb-true, not-true, or_parts, or_right}
use Rattle.std.proofs.lemmas.Bool.Decides.{Decides-eqb, nat_tests}
use Rattle.bdb_base.specs.declared.kinds.Operand.{Operand}
use Rattle.bdb_base.specs.declared.kinds.Operand.TheVariants.{Col, Lit}
use Rattle.bdb_base.specs.declared.kinds.Ref.{Ref}
use Rattle.bdb_base.specs.declared.kinds.Value.{Value}
use Rattle.bdb_base.specs.declared.kinds.Who.{Who}
use Rattle.bdb_base.specs.declared.kinds.Who.TheVariants.{User, Of}
use Rattle.bdb_base.specs.declared.tuple.Tuple.{Tuple}
use Rattle.bdb_base.specs.Same.{tuple_of}
use Rattle.bdb_base.proofs.Numbers.{differs_turned}
use Rattle.bdb_queries.specs.Slots.{slot_at, known, known_operand, uid_of}
use Rattle.bdb_queries.proofs.RangeLemmas.{and_then_some}
use Rattle.bdb_plan.specs.Fitness.{SetSoFar, is_among, is_bound, has_bound, was_bound, is_known, is_set, operand_is_set, who_is_set, is_new, comes_next, is_whole, at_width}
use Rattle.bdb_plan.specs.Running.{with_value}

-- ---- lists

one_less : (i j : ℕ) → nat_eq (suc j) (suc i) ≡ false → nat_eq j i ≡ false
one_less i j h = grind (arith, nat_tests)

pub slot_set : (xs : List (Option Tuple)) (i : ℕ) (t : Tuple) → i < length xs → slot_at (slice_set xs i (Some t)) i ≡ Some t
slot_set [] i t h = absurd (omega arith)
slot_set (x ∷ xs) zero t h = refl
slot_set (x ∷ xs) (suc i) t h = slot_set xs i t (omega arith)

pub slot_other : (xs : List (Option Tuple)) (i j : ℕ) (t : Tuple) → nat_eq j i ≡ false → slot_at (slice_set xs i (Some t)) j ≡ slot_at xs j
slot_other [] i j t h = refl
slot_other (x ∷ xs) zero zero t h = absurd (false≢true (sym h))
slot_other (x ∷ xs) zero (suc j) t h = refl
slot_other (x ∷ xs) (suc i) zero t h = refl
slot_other (x ∷ xs) (suc i) (suc j) t h = slot_other xs i j t (one_less i j h)

length_set : (xs : List (Option Tuple)) (i : ℕ) (x : Option Tuple) → length (slice_set xs i x) ≡ length xs
length_set [] i x = refl
length_set (y ∷ ys) zero x = refl
length_set (y ∷ ys) (suc i) x = ap suc (length_set ys i x)

get_front : (xs ys : List Value) (k : ℕ) → k < length xs → slice_get (xs ++ ys) k ≡ slice_get xs k
get_front [] ys k h = absurd (omega arith)
get_front (x ∷ xs) ys zero h = refl
get_front (x ∷ xs) ys (suc k) h = get_front xs ys k (omega arith)

get_behind : (xs : List Value) (v : Value) (ys : List Value) → slice_get (xs ++ v ∷ ys) (length xs) ≡ Some v
get_behind [] v ys = refl
get_behind (x ∷ xs) v ys = get_behind xs v ys

rest_behind : (xs rest : List Value) (v : Value) → slice_get (xs ++ rest) (length xs) ≡ Some v → (ys : List Value) × (rest ≡ v ∷ ys)
rest_behind [] [] v e = cc
rest_behind [] (y ∷ ys) v e = (ys, cc)
rest_behind (x ∷ xs) rest v e = rest_behind xs rest v e

no_rest : (xs rest : List Value) → length (xs ++ rest) ≡ length xs → rest ≡ []
no_rest [] [] e = refl
no_rest [] (y ∷ ys) e = absurd (omega arith)
no_rest (x ∷ xs) rest e = no_rest xs rest (omega arith)

append_none : (xs : List Value) → xs ++ [] ≡ xs
append_none [] = refl
append_none (x ∷ xs) = ap (λ ys. x ∷ ys) (append_none xs)

length_more : (xs : List Value) (v : Value) → length (xs ++ v ∷ []) ≡ length xs + 1
length_more [] v = refl
length_more (x ∷ xs) v = let k = length_more xs v in omega arith

-- ---- what is chosen so far

-- the item that is being bound has a tuple with as many values as are bound
abbrev pub BoundStands : ℕ → List ℕ → List (Option Tuple) → Option (ℕ × ℕ) → Type 0
BoundStands n items slots None = Unit {0}
BoundStands n items slots (Some b) = (t : Tuple) × (slot_at slots b.0 ≡ Some t) × (length t.vals ≡ b.1) × (is_among items b.0 ≡ false) × (b.0 < n)

-- slots are those of a run in which so much is set
pub record Stands (n : ℕ) (items : List ℕ) (o : Option (ℕ × ℕ)) (slots : List (Option Tuple)) : Type 0 where
  pub long : length slots ≡ n
  pub empty : (i : ℕ) → is_among items i ≡ false → is_bound o i ≡ false → slot_at slots i ≡ None
  pub bound : BoundStands n items slots o

-- the tuple of the item that is being bound begins with the values that are bound
abbrev pub BoundAbove : List (Option Tuple) → List (Option Tuple) → Option (ℕ × ℕ) → Type 0
BoundAbove slots zs None = Unit {0}
BoundAbove slots zs (Some b) = (t : Tuple) × (u : Tuple) × (rest : List Value) × (slot_at slots b.0 ≡ Some t) × (slot_at zs b.0 ≡ Some u) × (u.vals ≡ t.vals ++ rest)

-- choices for all items have what is set
pub record Above (items : List ℕ) (o : Option (ℕ × ℕ)) (slots zs : List (Option Tuple)) : Type 0 where
  pub chosen : (i : ℕ) → is_among items i ≡ true → slot_at zs i ≡ slot_at slots i
  pub bound : BoundAbove slots zs o

pub above_itself : (n : ℕ) (items : List ℕ) (o : Option (ℕ × ℕ)) (slots : List (Option Tuple)) → Stands n items o slots → Above items o slots slots
above_itself n items o slots h = record { chosen = λ i e. refl; bound = by o h.bound }
  where
    by : (o : Option (ℕ × ℕ)) → BoundStands n items slots o → BoundAbove slots slots o
    by None h = tt
    by (Some b) (t, is, long, apart, within) = (t, t, [], is, is, sym (append_none t.vals))

-- ---- what is set is the same

known_bound : (n : ℕ) (items : List ℕ) (slots zs : List (Option Tuple)) (o : Option (ℕ × ℕ)) → BoundStands n items slots o → BoundAbove slots zs o → (r : Ref) → has_bound o r ≡ true → known zs r ≡ known slots r
known_bound n items slots zs None s a r h = absurd (false≢true h)
known_bound n items slots zs (Some b) (t', is', long, apart, within) (t, u, rest, is, up, vals) r h =
    let k = and_parts (nat_eq r.item b.0) (nat_lt r.col b.1) h in
    let item : r.item ≡ b.0 = eqb-true r.item b.0 k.0 in
    let same : t' ≡ t = cc in
    let few : r.col < b.1 = ltb-true r.col b.1 k.1 in
    let size : length t.vals ≡ b.1 = ap (λ x. length x.vals) (sym same) ∙ long in
    let front : r.col < length t.vals = omega arith in
    let col : Option Tuple → Option Value = λ x. option_and_then (λ y. slice_get y.vals r.col) x in
    ap (λ i. col (slot_at zs i)) item ∙ ap col up ∙ ap (λ vs. slice_get vs r.col) vals ∙ get_front t.vals rest r.col front
    ∙ sym (ap (λ i. col (slot_at slots i)) item ∙ ap col is)

-- the items for which a user is chosen are set
abbrev pub UsersAreSet : SetSoFar → Type 0
UsersAreSet p = (i : ℕ) → is_among p.users i ≡ true → is_among p.items i ≡ true

known_item : (p : SetSoFar) (r : Ref) → UsersAreSet p → is_known p r ≡ true → is_among p.items r.item ≡ true
known_item p r u h = elim (cases_Bool (is_among p.users r.item)) [
  | inl e ↦ u r.item e
  | inr e ↦
      let all = is_among p.items r.item && was_bound p.denied r in
      (and_parts (is_among p.items r.item) (was_bound p.denied r) (sym (cond-false (is_among p.users r.item) (nat_lt r.col 2) all e) ∙ h)).0
]

pub known_same : (n : ℕ) (p : SetSoFar) (slots zs : List (Option Tuple)) → UsersAreSet p → Stands n p.items p.bound slots → Above p.items p.bound slots zs → (r : Ref) → is_set p r ≡ true → known zs r ≡ known slots r
known_same n p slots zs u s a r h = elim (or_cases (is_known p r) (has_bound p.bound r) h) [
  | inl k ↦ ap (option_and_then (λ t. slice_get t.vals r.col)) (a.chosen r.item (known_item p r u k))
  | inr k ↦ known_bound n p.items slots zs p.bound s.bound a.bound r k
]

pub operand_same : (n : ℕ) (p : SetSoFar) (slots zs : List (Option Tuple)) → UsersAreSet p → Stands n p.items p.bound slots → Above p.items p.bound slots zs → (o : Operand) → operand_is_set p o ≡ true
    → known_operand zs o ≡ known_operand slots o
operand_same n p slots zs u s a (Col r) h = known_same n p slots zs u s a r h
operand_same n p slots zs u s a (Lit v) h = refl

pub who_same : (p : SetSoFar) (slots zs : List (Option Tuple)) → UsersAreSet p → Above p.items p.bound slots zs → (who : Who) → who_is_set p who ≡ true → uid_of zs who ≡ uid_of slots who
who_same p slots zs u a (User i) h = refl
who_same p slots zs u a (Of item) h = ap (option_map (λ t. t.rel)) (a.chosen item (u item h))

-- ---- one more item is chosen

not_among : (items : List ℕ) (i item : ℕ) → is_among items item ≡ false → is_among items i ≡ true → nat_eq i item ≡ false
not_among items i item h k = elim (cases_Bool (nat_eq i item)) [
  | inl e ↦ absurd (false≢true (sym h ∙ ap (is_among items) (sym (eqb-true i item e)) ∙ k))
  | inr e ↦ e
]

pub record IsNew (n : ℕ) (items : List ℕ) (o : Option (ℕ × ℕ)) (item : ℕ) : Type 0 where
  pub within : item < n
  pub apart : is_among items item ≡ false
  pub unbound : is_bound o item ≡ false

pub is_new_tells : (n : ℕ) (p : SetSoFar) (item : ℕ) → is_new n p item ≡ true → IsNew n p.items p.bound item
is_new_tells n p item h =
    let k = and_parts (nat_lt item n) (not (is_among p.items item) && not (is_bound p.bound item)) h in
    let m = and_parts (not (is_among p.items item)) (not (is_bound p.bound item)) k.1 in
    record { within = ltb-true item n k.0; apart = not-true (is_among p.items item) m.0; unbound = not-true (is_bound p.bound item) m.1 }

pub new_stands : (n : ℕ) (items : List ℕ) (o : Option (ℕ × ℕ)) (slots : List (Option Tuple)) (item : ℕ) (t : Tuple) → Stands n items o slots → IsNew n items o item → Stands n (item ∷ items) o (slice_set slots item (Some t))
new_stands n items o slots item t s new = record {
  long = length_set slots item (Some t) ∙ s.long;
  empty = λ i a b. let k = or_parts (nat_eq i item) (is_among items i) a in slot_other slots item i t k.0 ∙ s.empty i k.1 b;
  bound = by o s.bound new.unbound;
}
  where
    by : (o : Option (ℕ × ℕ)) → BoundStands n items slots o → is_bound o item ≡ false → BoundStands n (item ∷ items) (slice_set slots item (Some t)) o
    by None h e = tt
    by (Some b) (u, is, long, apart, within) e =
        let other = differs_turned item b.0 e in
        (u, slot_other slots item b.0 t other ∙ is, long, ap (λ x. x || is_among items b.0) other ∙ apart, within)

-- what is among the items is among one more
listed_later : (items : List ℕ) (item i : ℕ) → is_among items i ≡ true → is_among (item ∷ items) i ≡ true
listed_later items item i k = or_right (nat_eq i item) (is_among items i) k

pub new_below : (n : ℕ) (items : List ℕ) (o : Option (ℕ × ℕ)) (slots zs : List (Option Tuple)) (item : ℕ) (t : Tuple) → Stands n items o slots → IsNew n items o item → Above (item ∷ items) o (slice_set slots item (Some t)) zs
    → Above items o slots zs × (slot_at zs item ≡ Some t)
new_below n items o slots zs item t s new a =
    let within : item < length slots = subst (λ k. item < k) (sym s.long) new.within in
    let itself : is_among (item ∷ items) item ≡ true = ap (λ b. b || is_among items item) ((Decides-eqb item item).1 refl) in (
      record { chosen = λ i k. a.chosen i (listed_later items item i k) ∙ slot_other slots item i t (not_among items i item new.apart k); bound = by o a.bound new.unbound },
      a.chosen item itself ∙ slot_set slots item t within,
    )
  where
    by : (o : Option (ℕ × ℕ)) → BoundAbove (slice_set slots item (Some t)) zs o → is_bound o item ≡ false → BoundAbove slots zs o
    by None h e = tt
    by (Some b) (u, v, rest, is, up, vals) e = (u, v, rest, sym (slot_other slots item b.0 t (differs_turned item b.0 e)) ∙ is, up, vals)

pub new_above : (n : ℕ) (items : List ℕ) (o : Option (ℕ × ℕ)) (slots zs : List (Option Tuple)) (item : ℕ) (t : Tuple) → Stands n items o slots → IsNew n items o item → Above items o slots zs → slot_at zs item ≡ Some t
    → Above (item ∷ items) o (slice_set slots item (Some t)) zs
new_above n items o slots zs item t s new a e = record { chosen = at; bound = by o a.bound new.unbound }
  where
    at : (i : ℕ) → is_among (item ∷ items) i ≡ true → slot_at zs i ≡ slot_at (slice_set slots item (Some t)) i
    at i k = elim (cases_Bool (nat_eq i item)) [
      | inl m ↦
          let same : i ≡ item = eqb-true i item m in
          let within : item < length slots = subst (λ k. item < k) (sym s.long) new.within in
          ap (slot_at zs) same ∙ e ∙ sym (slot_set slots item t within) ∙ ap (slot_at (slice_set slots item (Some t))) (sym same)
      | inr m ↦ a.chosen i (ap (λ b. b || is_among items i) (sym m) ∙ k) ∙ sym (slot_other slots item i t m)
    ]

    by : (o : Option (ℕ × ℕ)) → BoundAbove slots zs o → is_bound o item ≡ false → BoundAbove (slice_set slots item (Some t)) zs o
    by None h x = tt
    by (Some b) (u, v, rest, is, up, vals) x = (u, v, rest, slot_other slots item b.0 t (differs_turned item b.0 x) ∙ is, up, vals)

-- ---- one more column is bound

-- what is bound of the item so far
pub data Before (n : ℕ) (items : List ℕ) (slots : List (Option Tuple)) (item col : ℕ) : Option (ℕ × ℕ) → Type 0 where
  first : item < n → is_among items item ≡ false → slot_at slots item ≡ None → col ≡ 0 → Before n items slots item col None
  next : (b : ℕ × ℕ) (t : Tuple) → item ≡ b.0 → col ≡ b.1 → slot_at slots item ≡ Some t → length t.vals ≡ col → is_among items item ≡ false → item < n → Before n items slots item col (Some b)

pub before_of : (n : ℕ) (p : SetSoFar) (slots : List (Option Tuple)) (item col : ℕ) → Stands n p.items p.bound slots → comes_next n p p.bound item col ≡ true → Before n p.items slots item col p.bound
before_of n p slots item col s h = by p.bound s.bound (λ e u. s.empty item e u) (λ e. is_new_tells n p item e) h
  where
    by : (o : Option (ℕ × ℕ)) → BoundStands n p.items slots o → (is_among p.items item ≡ false → is_bound p.bound item ≡ false → slot_at slots item ≡ None) → (is_new n p item ≡ true → IsNew n p.items p.bound item)
        → comes_next n p o item col ≡ true → Before n p.items slots item col o
    by None s empty new h =
        let k = and_parts (is_new n p item) (nat_eq col 0) h in
        let fresh = new k.0 in
        first fresh.within fresh.apart (empty fresh.apart fresh.unbound) (eqb-true col 0 k.1)
    by (Some b) (t, is, long, apart, within) empty new h =
        let k = and_parts (nat_eq item b.0) (nat_eq col b.1) h in
        let same : item ≡ b.0 = eqb-true item b.0 k.0 in
        let count : col ≡ b.1 = eqb-true col b.1 k.1 in
        next b t same count (ap (slot_at slots) same ∙ is) (long ∙ sym count) (ap (is_among p.items) same ∙ apart) (subst (λ i. i < n) (sym same) within)

pub next_stands : (n : ℕ) (items : List ℕ) (o : Option (ℕ × ℕ)) (slots : List (Option Tuple)) (item col : ℕ) (v : Value) → Stands n items o slots → Before n items slots item col o
    → Stands n items (Some (item, col + 1)) (slice_set slots item (Some (with_value (slot_at slots item) v)))
next_stands n items o slots item col v s (first within apart none zero_col) =
    let u = with_value (slot_at slots item) v in
    let size : length u.vals ≡ col + 1 = ap (λ x. length (with_value x v).vals) none ∙ ap (λ k. k + 1) (sym zero_col) in
    record {
      long = length_set slots item (Some u) ∙ s.long;
      empty = λ i a b. slot_other slots item i u b ∙ s.empty i a refl;
      bound = (u, slot_set slots item u (subst (λ k. item < k) (sym s.long) within), size, apart, within);
    }
next_stands n items o slots item col v s (next b t same count is long apart within) =
    let u = with_value (slot_at slots item) v in
    let size : length u.vals ≡ col + 1 = ap (λ x. length (with_value x v).vals) is ∙ length_more t.vals v ∙ ap (λ k. k + 1) long in
    record {
      long = length_set slots item (Some u) ∙ s.long;
      empty = λ i a c. slot_other slots item i u c ∙ s.empty i a (ap (nat_eq i) (sym same) ∙ c);
      bound = (u, slot_set slots item u (subst (λ k. item < k) (sym s.long) within), size, apart, within);
    }

value_at_end : (zs : List (Option Tuple)) (item col : ℕ) (u : Tuple) → slot_at zs item ≡ Some u → known zs (record { item = item; col = col }) ≡ slice_get u.vals col
value_at_end zs item col u e = ap (option_and_then (λ t. slice_get t.vals col)) e

pub next_below : (n : ℕ) (items : List ℕ) (o : Option (ℕ × ℕ)) (slots zs : List (Option Tuple)) (item col : ℕ) (v : Value) → Stands n items o slots → Before n items slots item col o
    → Above items (Some (item, col + 1)) (slice_set slots item (Some (with_value (slot_at slots item) v))) zs → Above items o slots zs × (known zs (record { item = item; col = col }) ≡ Some v)
next_below n items o slots zs item col v s (first within apart none zero_col) a =
    let u = with_value (slot_at slots item) v in
    let (t', w, rest, is', up, vals) = a.bound in
    let here : Some u ≡ Some t' = sym (slot_set slots item u (subst (λ k. item < k) (sym s.long) within)) ∙ is' in
    let tuple : tuple_of 0 (v ∷ []) ≡ u = ap (λ x. with_value x v) (sym none) in
    let same : u ≡ t' = cc in
    let values : w.vals ≡ (v ∷ []) ++ rest = vals ∙ ap (λ x. x.vals ++ rest) (sym (tuple ∙ same)) in (
      record { chosen = λ i k. a.chosen i k ∙ slot_other slots item i u (not_among items i item apart k); bound = tt },
      value_at_end zs item col w up ∙ ap (slice_get w.vals) zero_col ∙ ap (λ vs. slice_get vs 0) values,
    )
next_below n items o slots zs item col v s (next b t same count is long apart within) a =
    let u = with_value (slot_at slots item) v in
    let (t', w, rest, is', up, vals) = a.bound in
    let here : Some u ≡ Some t' = sym (slot_set slots item u (subst (λ k. item < k) (sym s.long) within)) ∙ is' in
    let tuple : tuple_of t.rel (t.vals ++ v ∷ []) ≡ u = ap (λ x. with_value x v) (sym is) in
    let equal : u ≡ t' = cc in
    let values : w.vals ≡ t.vals ++ (v ∷ rest) = vals ∙ ap (λ x. x.vals ++ rest) (sym (tuple ∙ equal)) ∙ append_assoc t.vals (v ∷ []) rest in (
      record { chosen = λ i k. a.chosen i k ∙ slot_other slots item i u (not_among items i item apart k); bound = (t, w, v ∷ rest, ap (slot_at slots) (sym same) ∙ is, ap (slot_at zs) (sym same) ∙ up, values) },
      value_at_end zs item col w up ∙ ap (slice_get w.vals) (sym long) ∙ ap (λ vs. slice_get vs (length t.vals)) values ∙ get_behind t.vals v rest,
    )

pub next_above : (n : ℕ) (items : List ℕ) (o : Option (ℕ × ℕ)) (slots zs : List (Option Tuple)) (item col : ℕ) (v : Value) → Stands n items o slots → Before n items slots item col o
    → Above items o slots zs → known zs (record { item = item; col = col }) ≡ Some v → Above items (Some (item, col + 1)) (slice_set slots item (Some (with_value (slot_at slots item) v))) zs
next_above n items o slots zs item col v s (first within apart none zero_col) a e =
    let u = with_value (slot_at slots item) v in
    let w = and_then_some (λ t. slice_get t.vals col) (slot_at zs item) v e in
    let begin = rest_behind [] w.0.vals v (ap (slice_get w.0.vals) (sym zero_col) ∙ w.2) in
    let tuple : tuple_of 0 (v ∷ []) ≡ u = ap (λ x. with_value x v) (sym none) in
    record {
      chosen = λ i k. a.chosen i k ∙ sym (slot_other slots item i u (not_among items i item apart k));
      bound = (u, w.0, begin.0, slot_set slots item u (subst (λ k. item < k) (sym s.long) within), w.1, begin.1 ∙ ap (λ x. x.vals ++ begin.0) tuple);
    }
next_above n items o slots zs item col v s (next b t same count is long apart within) a e =
    let u = with_value (slot_at slots item) v in
    let (t', w, rest, is', up, vals) = a.bound in
    let equal : Some t' ≡ Some t = sym is' ∙ ap (slot_at slots) (sym same) ∙ is in
    let one : t' ≡ t = cc in
    let values : w.vals ≡ t.vals ++ rest = vals ∙ ap (λ x. x.vals ++ rest) one in
    let there : slot_at zs item ≡ Some w = ap (slot_at zs) same ∙ up in
    let at : slice_get (t.vals ++ rest) (length t.vals) ≡ Some v = ap (λ vs. slice_get vs (length t.vals)) (sym values) ∙ ap (slice_get w.vals) long ∙ sym (value_at_end zs item col w there) ∙ e in
    let more = rest_behind t.vals rest v at in
    let tuple : tuple_of t.rel (t.vals ++ v ∷ []) ≡ u = ap (λ x. with_value x v) (sym is) in
    record {
      chosen = λ i k. a.chosen i k ∙ sym (slot_other slots item i u (not_among items i item apart k));
      bound = (
        u,
        w,
        more.0,
        slot_set slots item u (subst (λ k. item < k) (sym s.long) within),
        there,
        values ∙ ap (λ ys. t.vals ++ ys) more.1 ∙ sym (append_assoc t.vals (v ∷ []) more.0) ∙ ap (λ x. x.vals ++ more.0) tuple,
      );
    }

-- ---- all columns are bound

-- the item is being bound, and has a tuple with a value for each column
pub record IsWhole (n : ℕ) (items : List ℕ) (o : Option (ℕ × ℕ)) (slots : List (Option Tuple)) (item size : ℕ) : Type 0 where
  pub count : ℕ
  pub is : o ≡ Some (item, count)
  pub enough : count ≡ size
  pub tuple : Tuple
  pub there : slot_at slots item ≡ Some tuple
  pub long : length tuple.vals ≡ size
  pub apart : is_among items item ≡ false
  pub within : item < n

pub is_whole_tells : (n : ℕ) (width : ℕ → ℕ) (p : SetSoFar) (slots : List (Option Tuple)) (item rel : ℕ) → Stands n p.items p.bound slots → is_whole n (at_width width) p p.bound item rel ≡ true
    → IsWhole n p.items p.bound slots item (width rel)
is_whole_tells n width p slots item rel s h = by p.bound s.bound h
  where
    by : (o : Option (ℕ × ℕ)) → BoundStands n p.items slots o → is_whole n (at_width width) p o item rel ≡ true → IsWhole n p.items o slots item (width rel)
    by None s h = absurd (false≢true (and_parts (is_new n p item) false h).1)
    by (Some b) (t, is, long, apart, within) h =
        let k = and_parts (nat_eq item b.0) (at_width width rel b.1) h in
        let same : item ≡ b.0 = eqb-true item b.0 k.0 in
        let size : width rel ≡ b.1 = eqb-true (width rel) b.1 (and_parts (nat_lt 0 b.1) (nat_eq (width rel) b.1) k.1).1 in
        record {
          count = b.1;
          is = ap (λ i. Some (i, b.1)) (sym same);
          enough = sym size;
          tuple = t;
          there = ap (slot_at slots) same ∙ is;
          long = long ∙ sym size;
          apart = ap (is_among p.items) same ∙ apart;
          within = subst (λ i. i < n) (sym same) within;
        }

pub whole_stands : (n : ℕ) (items : List ℕ) (o : Option (ℕ × ℕ)) (slots : List (Option Tuple)) (item rel size : ℕ) (w : IsWhole n items o slots item size) → Stands n items o slots
    → Stands n (item ∷ items) None (slice_set slots item (Some (tuple_of rel w.tuple.vals)))
whole_stands n items o slots item rel size w s =
    let u = tuple_of rel w.tuple.vals in
    record {
      long = length_set slots item (Some u) ∙ s.long;
      empty = λ i a b. let k = or_parts (nat_eq i item) (is_among items i) a in slot_other slots item i u k.0 ∙ s.empty i k.1 (ap (λ x. is_bound x i) w.is ∙ k.0);
      bound = tt;
    }

pub whole_below : (n : ℕ) (items : List ℕ) (o : Option (ℕ × ℕ)) (slots zs : List (Option Tuple)) (item rel size : ℕ) (w : IsWhole n items o slots item size) → Stands n items o slots
    → Above (item ∷ items) None (slice_set slots item (Some (tuple_of rel w.tuple.vals))) zs → Above items o slots zs × (slot_at zs item ≡ Some (tuple_of rel w.tuple.vals))
whole_below n items o slots zs item rel size w s a =
    let u = tuple_of rel w.tuple.vals in
    let itself : is_among (item ∷ items) item ≡ true = ap (λ b. b || is_among items item) ((Decides-eqb item item).1 refl) in
    let up : slot_at zs item ≡ Some u = a.chosen item itself ∙ slot_set slots item u (subst (λ k. item < k) (sym s.long) w.within) in (
      record {
        chosen = λ i k. a.chosen i (listed_later items item i k) ∙ slot_other slots item i u (not_among items i item w.apart k);
        bound = subst (BoundAbove slots zs) (sym w.is) (w.tuple, u, [], w.there, up, sym (append_none w.tuple.vals));
      },
      up,
    )

pub whole_above : (n : ℕ) (items : List ℕ) (o : Option (ℕ × ℕ)) (slots zs : List (Option Tuple)) (item rel size : ℕ) (w : IsWhole n items o slots item size) (u : Tuple) → Stands n items o slots → Above items o slots zs
    → slot_at zs item ≡ Some u → u.rel ≡ rel → length u.vals ≡ size → (u ≡ tuple_of rel w.tuple.vals) × Above (item ∷ items) None (slice_set slots item (Some (tuple_of rel w.tuple.vals))) zs
whole_above n items o slots zs item rel size w u s a e r l =
    let v = tuple_of rel w.tuple.vals in
    let (t, z, rest, is, up, vals) = subst (BoundAbove slots zs) w.is a.bound in
    let one : Some t ≡ Some w.tuple = sym is ∙ w.there in
    let same : t ≡ w.tuple = cc in
    let two : Some z ≡ Some u = sym up ∙ e in
    let equal : z ≡ u = cc in
    let values : u.vals ≡ w.tuple.vals ++ rest = ap (λ x. x.vals) (sym equal) ∙ vals ∙ ap (λ x. x.vals ++ rest) same in
    let none = no_rest w.tuple.vals rest (ap length (sym values) ∙ l ∙ sym w.long) in
    let all : u.vals ≡ w.tuple.vals = values ∙ ap (λ ys. w.tuple.vals ++ ys) none ∙ append_none w.tuple.vals in
    let tuple : u ≡ v = ap (λ k. tuple_of k u.vals) r ∙ ap (tuple_of rel) all in
    (tuple, record { chosen = at (e ∙ ap Some tuple); bound = tt })
  where
    at : slot_at zs item ≡ Some (tuple_of rel w.tuple.vals) → (i : ℕ) → is_among (item ∷ items) i ≡ true → slot_at zs i ≡ slot_at (slice_set slots item (Some (tuple_of rel w.tuple.vals))) i
    at h i k = elim (cases_Bool (nat_eq i item)) [
      | inl m ↦
          let same : i ≡ item = eqb-true i item m in
          let within : item < length slots = subst (λ k. item < k) (sym s.long) w.within in
          ap (slot_at zs) same ∙ h ∙ sym (slot_set slots item (tuple_of rel w.tuple.vals) within) ∙ ap (slot_at (slice_set slots item (Some (tuple_of rel w.tuple.vals)))) (sym same)
      | inr m ↦ a.chosen i (ap (λ b. b || is_among items i) (sym m) ∙ k) ∙ sym (slot_other slots item i (tuple_of rel w.tuple.vals) m)
    ]
