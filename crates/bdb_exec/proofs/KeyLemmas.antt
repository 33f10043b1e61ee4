-- A choice that the tests right behind it refuse gives no rows, and they let through only what begins as they ask.
use Rattle.std.proofs.Common.{◌≡◌, ◌∙◌, ℕ, zero, suc, ◌+◌, ◌*◌, ◌≤◌, ◌<◌, Bool, true, false, not, ◌&&◌, cond, nat_eq, nat_lt, List, [], ◌∷◌, ◌++◌, Option, Some, None, is_some, length, map, filter, take, drop, slice_set, refl, ap, sym, arith}
use Rattle.std.specs.List.{flat_map, sum_by, slice_get}
use Rattle.std.specs.Option.{option_and_then, unwrap_or}
use Rattle.std.specs.Ordering.{is_eq, ordering_reverse}
use Rattle.std.specs.declared.cmp.Ordering.{Ordering}
use Rattle.std.specs.declared.cmp.Ordering.TheVariants.{Less, Equal, Greater}
use Rattle.std.proofs.lemmas.Bool.{and_parts, cond-true, cond-false, eqb-true, true≢false, not-true}
use Rattle.std.proofs.lemmas.Bool.Decides.{nat_tests}
use Rattle.std.proofs.lemmas.List.Sums.{sum_by-cons}
use Rattle.bdb_base.specs.Conditions.{compare_so}
use Rattle.bdb_base.specs.Queries.{option_list}
use Rattle.bdb_base.specs.OrderLemmas.{value_exact}
use Rattle.bdb_base.specs.Order.{value_cmp}
use Rattle.bdb_base.specs.Safety.{is_column, is_equality, same_column, first_there, column}
use Rattle.bdb_base.specs.SameLemmas.{same_values-Decides}
use Rattle.bdb_base.specs.declared.kinds.Cmp.TheVariants.{Eq}
use Rattle.bdb_base.specs.declared.kinds.Cond.{Cond}
use Rattle.bdb_base.specs.declared.kinds.Operand.{Operand}
use Rattle.bdb_base.specs.declared.kinds.Operand.TheVariants.{Col, Lit}
use Rattle.bdb_base.specs.declared.kinds.Ref.{Ref}
use Rattle.bdb_base.specs.declared.kinds.Sign.{Sign}
use Rattle.bdb_base.specs.declared.kinds.Value.{Value}
use Rattle.bdb_base.specs.declared.tuple.Tuple.{Tuple}
use Rattle.bdb_base.proofs.ListLemmas.{length-filter_le, drop_there}
use Rattle.bdb_base.proofs.OptionLemmas.{none_is_some}
use Rattle.bdb_base.proofs.ConditionLemmas.{equality_is, equal_value}
use Rattle.bdb_queries.specs.Slots.{slot_at, known, known_operand, must_hold}
use Rattle.bdb_plan.specs.Running.{Reached, with_slot, with_choice, choices, decided, after, reached_if, rows_from, reads_from, own_reads}
use Rattle.bdb_plan.specs.Sight.{Sight}
use Rattle.bdb_plan.specs.declared.step.Step.{Step}
use Rattle.bdb_plan.specs.declared.step.Step.TheVariants as step
use Rattle.bdb_exec.specs.Keys.{tests_hold, passes, begins_so, names_another, asks_for_key, asks_on_left, asks_on_right, value_of_test, value_behind, values_behind, of_key, rows_of_key, key_asked, narrowed, choices_before, after_before}
use Rattle.bdb_tables.specs.Prefixes.{led_by}
use Rattle.bdb_plan.proofs.StandLemmas.{slot_other, slot_set}
use Rattle.bdb_exec.specs.LookUps.{looks_from, own_looks, deny_looks, pool_looks}
use Rattle.bdb_exec.proofs.DenyLemmas.{filter_narrow}

-- ---- slots with one more tuple

other_known : (slots : List (Option Tuple)) (item : ℕ) (t : Tuple) (o : Operand) → names_another item o ≡ true → known_operand (slice_set slots item (Some t)) o ≡ known_operand slots o
other_known slots item t (Col r) e = ap (option_and_then (λ u. slice_get u.vals r.col)) (slot_other slots item r.item t (not-true (nat_eq r.item item) e))
other_known slots item t (Lit v) e = refl

-- an equality says the same either way round
other_way : (v : Value) (o : Option Value) → compare_so Eq (Some v) o ≡ compare_so Eq o (Some v)
other_way v None = refl
other_way v (Some x) = ap is_eq (value_exact.total.antisymm v x) ∙ reversed (value_cmp x v)
  where
    reversed : (o : Ordering) → is_eq (ordering_reverse o) ≡ is_eq o
    reversed Less = refl
    reversed Equal = refl
    reversed Greater = refl

module _ (slots : List (Option Tuple)) (item : ℕ) (t : Tuple) (lt : item < length slots) where
  set : List (Option Tuple)
  set = slice_set slots item (Some t)

  module _ (col : ℕ) where
    -- the column of the item is that value of the tuple
    column_known : (r : Ref) → same_column (column item col) r ≡ true → known set r ≡ slice_get t.vals col
    unfolding set
    column_known r e =
        let p = and_parts (nat_eq item r.item) (nat_eq col r.col) e in
        ap (λ i. option_and_then (λ u. slice_get u.vals r.col) (slot_at set i)) (sym (eqb-true item r.item p.0))
        ∙ ap (option_and_then (λ u. slice_get u.vals r.col)) (slot_set slots item t lt)
        ∙ ap (slice_get t.vals) (sym (eqb-true col r.col p.1))

    -- a test that asks for a value holds exactly where the tuple has it
    left_holds : (c : Cond) (v : Value) → asks_on_left item col c ≡ true → known_operand slots c.right ≡ Some v → must_hold set c ≡ compare_so Eq (slice_get t.vals col) (Some v)
    unfolding set
    left_holds c v asks k =
        let p = and_parts (is_equality c.cmp) (same_column (column item col) c.left && names_another item c.right) asks in
        let q = and_parts (same_column (column item col) c.left) (names_another item c.right) p.1 in
        ap (λ cmp. compare_so cmp (known set c.left) (known_operand set c.right)) (equality_is c.cmp p.0)
        ∙ ap (λ o. compare_so Eq (known set c.left) o) (other_known slots item t c.right q.1 ∙ k)
        ∙ ap (λ o. compare_so Eq o (Some v)) (column_known c.left q.0)

    right_known : (o : Operand) → is_column (column item col) o ≡ true → known_operand set o ≡ slice_get t.vals col
    right_known (Col r) e = column_known r e
    right_known (Lit v) e = absurd (true≢false (sym e))

    right_holds : (c : Cond) (v : Value) → asks_on_right item col c ≡ true → known slots c.left ≡ Some v → must_hold set c ≡ compare_so Eq (slice_get t.vals col) (Some v)
    unfolding set
    right_holds c v asks k =
        let p = and_parts (is_equality c.cmp) (is_column (column item col) c.right && not (nat_eq c.left.item item)) asks in
        let q = and_parts (is_column (column item col) c.right) (not (nat_eq c.left.item item)) p.1 in
        ap (λ cmp. compare_so cmp (known set c.left) (known_operand set c.right)) (equality_is c.cmp p.0)
        ∙ ap (λ o. compare_so Eq o (known_operand set c.right)) (ap (option_and_then (λ u. slice_get u.vals c.left.col)) (slot_other slots item c.left.item t (not-true (nat_eq c.left.item item) q.1)) ∙ k)
        ∙ ap (compare_so Eq (Some v)) (right_known c.right q.0)
        ∙ other_way v (slice_get t.vals col)

    test_holds : (c : Cond) (v : Value) → value_of_test slots item col c ≡ Some v → must_hold set c ≡ compare_so Eq (slice_get t.vals col) (Some v)
    test_holds c v e = by (asks_on_left item col c) refl (asks_on_right item col c) refl
      where
        on_right : asks_on_left item col c ≡ false → cond (asks_on_right item col c) (known slots c.left) None ≡ Some v
        on_right p = sym (cond-false (asks_on_left item col c) (known_operand slots c.right) (cond (asks_on_right item col c) (known slots c.left) None) p) ∙ e

        by : (a : Bool) → asks_on_left item col c ≡ a → (b : Bool) → asks_on_right item col c ≡ b → must_hold set c ≡ compare_so Eq (slice_get t.vals col) (Some v)
        by true p b q = left_holds c v p (sym (cond-true (asks_on_left item col c) (known_operand slots c.right) (cond (asks_on_right item col c) (known slots c.left) None) p) ∙ e)
        by false p true q = right_holds c v q (sym (cond-true (asks_on_right item col c) (known slots c.left) None q) ∙ on_right p)
        by false p false q = absurd (none_is_some v (sym (cond-false (asks_on_right item col c) (known slots c.left) None q) ∙ on_right p))

    -- a tuple that the tests let through has the value that they ask for
    value_there : (xs : List Step) (v : Value) → value_behind slots item xs col ≡ Some v → tests_hold set xs ≡ true → slice_get t.vals col ≡ Some v
    value_there [] v k h = absurd (none_is_some v k)
    value_there (step.Test c ∷ xs) v k h = by (value_of_test slots item col c) refl (λ e r. value_there xs v e r)
      where
        both : (must_hold set c ≡ true) × (tests_hold set xs ≡ true)
        both = and_parts (must_hold set c) (tests_hold set xs) h

        by : (o : Option Value) → value_of_test slots item col c ≡ o → (value_behind slots item xs col ≡ Some v → tests_hold set xs ≡ true → slice_get t.vals col ≡ Some v) → slice_get t.vals col ≡ Some v
        by None e rest = rest (sym (ap (λ o. first_there o (value_behind slots item xs col)) e) ∙ k) both.1
        by (Some w) e rest =
            let same : Some w ≡ Some v = sym (ap (λ o. first_there o (value_behind slots item xs col)) e) ∙ k in
            equal_value (slice_get t.vals col) w (sym (test_holds c w e) ∙ both.0) ∙ same
    value_there (step.User a ∷ xs) v k h = absurd (none_is_some v k)
    value_there (step.Start a ∷ xs) v k h = absurd (none_is_some v k)
    value_there (step.Edge a b ∷ xs) v k h = absurd (none_is_some v k)
    value_there (step.Differ a b d ∷ xs) v k h = absurd (none_is_some v k)
    value_there (step.Pos a b ∷ xs) v k h = absurd (none_is_some v k)
    value_there (step.Bind a b d ∷ xs) v k h = absurd (none_is_some v k)
    value_there (step.Neg a b ∷ xs) v k h = absurd (none_is_some v k)

  -- a tuple that the tests right behind let through has the value that they ask for
  pub asked_there : (xs : List Step) → passes slots item xs t ≡ true → (col : ℕ) (v : Value) → value_behind slots item xs col ≡ Some v → slice_get t.vals col ≡ Some v
  unfolding set
  asked_there xs h col v e = value_there col xs v e h

  -- from each column on it has the values that they ask for
  values_there : (xs : List Step) → tests_hold set xs ≡ true → (most col : ℕ) → take (length (values_behind slots item xs most col)) (drop col t.vals) ≡ values_behind slots item xs most col
  values_there xs h zero col = refl
  values_there xs h (suc most) col = by (value_behind slots item xs col) refl (values_there xs h most (suc col))
    where
      by : (o : Option Value) → value_behind slots item xs col ≡ o → take (length (values_behind slots item xs most (suc col))) (drop (suc col) t.vals) ≡ values_behind slots item xs most (suc col)
          → take (length (led_by o (values_behind slots item xs most (suc col)))) (drop col t.vals) ≡ led_by o (values_behind slots item xs most (suc col))
      by None e rest = refl
      by (Some v) e rest =
          ap (take (suc (length (values_behind slots item xs most (suc col))))) (drop_there t.vals col v (value_there col xs v e h)) ∙ ap (λ (vs : List Value). v ∷ vs) rest

  -- a tuple that the tests let through begins as they ask
  pub key_there : (xs : List Step) (n : ℕ) → passes slots item xs t ≡ true → begins_so (key_asked n slots item xs) t ≡ true
  unfolding set
  key_there xs n h =
      let vs = values_behind slots item xs n 0 in
      ap (λ (ks : List Value). begins_so ks t) (cond-true (nat_lt item (length slots)) vs [] (above item (length slots) lt))
      ∙ (same_values-Decides (take (length vs) t.vals) vs).1 (values_there xs h n 0)
    where
      above : (m n : ℕ) → m < n → nat_lt m n ≡ true
      above m n lt = grind (arith, nat_tests)

-- among the tuples that begin as is asked for are all that the tests let through
pub key_passes : (slots : List (Option Tuple)) (item : ℕ) (xs : List Step) (n : ℕ) (pool : List Tuple)
    → filter (passes slots item xs) (of_key (key_asked n slots item xs) pool) ≡ filter (passes slots item xs) pool
key_passes slots item xs n pool = sym (filter_narrow (passes slots item xs) (begins_so (key_asked n slots item xs)) pool (λ t p. by t p (nat_lt item (length slots)) refl))
  where
    below : nat_lt item (length slots) ≡ true → item < length slots
    below e = grind (arith, nat_tests)

    by : (t : Tuple) → passes slots item xs t ≡ true → (b : Bool) → nat_lt item (length slots) ≡ b → begins_so (key_asked n slots item xs) t ≡ true
    by t p true e = key_there slots item t (below e) xs n p
    by t p false e = ap (λ (ks : List Value). begins_so ks t) (cond-false (nat_lt item (length slots)) (values_behind slots item xs n 0) [] e)

-- where nothing is asked for of the first column, nothing is asked for of the key
pub none_asked : (slots : List (Option Tuple)) (item : ℕ) (xs : List Step) (n : ℕ) → asks_for_key slots item xs ≡ false → key_asked n slots item xs ≡ []
none_asked slots item xs n e = by (nat_lt item (length slots)) refl
  where
    none : (o : Option Value) (vs : List Value) → is_some o ≡ false → led_by o vs ≡ []
    none None vs k = refl
    none (Some v) vs k = absurd (true≢false k)

    values : (n : ℕ) → is_some (value_behind slots item xs 0) ≡ false → values_behind slots item xs n 0 ≡ []
    values zero k = refl
    values (suc n) k = none (value_behind slots item xs 0) (values_behind slots item xs n 1) k

    by : (b : Bool) → nat_lt item (length slots) ≡ b → cond b (values_behind slots item xs n 0) [] ≡ []
    by true k = values n (sym (ap (λ b. b && is_some (value_behind slots item xs 0)) k) ∙ e)
    by false k = refl

-- Where something is asked for of the first column, as many values as there are are asked for of a key that has a column.
pub asked_values : (slots : List (Option Tuple)) (item : ℕ) (xs : List Step) (n : ℕ) → asks_for_key slots item xs ≡ true → key_asked n slots item xs ≡ values_behind slots item xs n 0
asked_values slots item xs n e =
    cond-true (nat_lt item (length slots)) (values_behind slots item xs n 0) [] (and_parts (nat_lt item (length slots)) (is_some (value_behind slots item xs 0)) e).0

-- and they are read of one row at least
pub asked_looks : (slots : List (Option Tuple)) (item : ℕ) (xs : List Step) (n : ℕ) (rows : List (Tuple × Sign)) → asks_for_key slots item xs ≡ true → 0 < n
    → 2 * length (rows_of_key (values_behind slots item xs n 0) rows) + 2 ≡ pool_looks (key_asked n slots item xs) rows
asked_looks slots item xs zero rows e some = absurd (omega (arith, some))
asked_looks slots item xs (suc n) rows e some =
    by (value_behind slots item xs 0) (values_behind slots item xs n 1) (and_parts (nat_lt item (length slots)) (is_some (value_behind slots item xs 0)) e).1
    ∙ ap (λ (vs : List Value). pool_looks vs rows) (sym (asked_values slots item xs (suc n) e))
  where
    by : (o : Option Value) (vs : List Value) → is_some o ≡ true → 2 * length (rows_of_key (led_by o vs) rows) + 2 ≡ pool_looks (led_by o vs) rows
    by None vs k = absurd (true≢false (sym k))
    by (Some v) vs k = refl

module _ (sight : Sight) (taken : List Ref) where
  -- where a test refuses what is chosen, no rows come of the steps
  untested : (xs : List Step) (z : Reached) → tests_hold z.slots xs ≡ false → rows_from sight taken xs z ≡ []
  untested [] z e = absurd (true≢false e)
  untested (step.Test c ∷ xs) z e = by (must_hold z.slots c) refl (λ h. untested xs z h)
    where
      by : (b : Bool) → must_hold z.slots c ≡ b → (tests_hold z.slots xs ≡ false → rows_from sight taken xs z ≡ []) → flat_map (rows_from sight taken xs) (option_list (reached_if b z)) ≡ []
      by true m rest = ap (λ (x : List (List Value)). x ++ []) (rest (sym (ap (λ b. b && tests_hold z.slots xs) m) ∙ e))
      by false m rest = refl
  untested (step.User a ∷ xs) z e = absurd (true≢false e)
  untested (step.Start a ∷ xs) z e = absurd (true≢false e)
  untested (step.Edge a b ∷ xs) z e = absurd (true≢false e)
  untested (step.Differ a b d ∷ xs) z e = absurd (true≢false e)
  untested (step.Pos a b ∷ xs) z e = absurd (true≢false e)
  untested (step.Bind a b d ∷ xs) z e = absurd (true≢false e)
  untested (step.Neg a b ∷ xs) z e = absurd (true≢false e)

  -- ---- pools

  narrowed_rows : (F : Tuple → List (List Value)) (p : Tuple → Bool) (pool : List Tuple) → ((t : Tuple) → p t ≡ false → F t ≡ []) → flat_map F (filter p pool) ≡ flat_map F pool
  narrowed_rows F p [] h = refl
  narrowed_rows F p (t ∷ pool) h = by (narrowed_rows F p pool h) (p t) refl
    where
      by : flat_map F (filter p pool) ≡ flat_map F pool → (b : Bool) → p t ≡ b → flat_map F (cond b (t ∷ filter p pool) (filter p pool)) ≡ F t ++ flat_map F pool
      by rest true e = ap (λ (x : List (List Value)). F t ++ x) rest
      by rest false e = rest ∙ sym (ap (λ (x : List (List Value)). x ++ flat_map F pool) (h t e))

  tests_narrow : (xs : List Step) (s : Reached) (item : ℕ) (pool : List Tuple) → flat_map (λ t. rows_from sight taken xs (with_slot s item t)) (filter (passes s.slots item xs) pool)
      ≡ flat_map (λ t. rows_from sight taken xs (with_slot s item t)) pool
  tests_narrow xs s item pool = narrowed_rows (λ t. rows_from sight taken xs (with_slot s item t)) (passes s.slots item xs) pool (λ t e. untested xs (with_slot s item t) e)

  chosen_rows : (xs : List Step) (s : Reached) (item : ℕ) (pool : List Tuple) → flat_map (rows_from sight taken xs) (map (with_slot s item) pool) ≡ flat_map (λ t. rows_from sight taken xs (with_slot s item t)) pool
  chosen_rows xs s item [] = refl
  chosen_rows xs s item (t ∷ pool) = ap (λ (x : List (List Value)). rows_from sight taken xs (with_slot s item t) ++ x) (chosen_rows xs s item pool)

-- what is chosen, and for which item
abbrev pub Choices : Type 0
Choices = Option (ℕ × List Tuple)

abbrev pub some_choices : ℕ → List Tuple → Choices
some_choices item pool = Some (item, pool)

choice_same : {a b : ℕ} {x y : List Tuple} → some_choices a x ≡ some_choices b y → (a ≡ b) × (x ≡ y)
choice_same e = (ap (λ o. (unwrap_or o nothing).0) e, ap (λ o. (unwrap_or o nothing).1) e)
  where
    nothing : ℕ × List Tuple
    nothing = (0, [])

none_chosen : {a : ℕ} {x : List Tuple} → ◌≡◌ {A = Choices} None (some_choices a x) → ⊥
none_chosen e = cc

-- where a step chooses, its rows are those of the choices that the tests behind it don't refuse
pub choice_before : (sight : Sight) (taken : List Ref) (s : Reached) (x : Step) (xs : List Step) (item : ℕ) (pool : List Tuple) → some_choices item pool ≡ choices_before sight s x xs
    → flat_map (rows_from sight taken xs) (after sight s x) ≡ flat_map (λ t. rows_from sight taken xs (with_slot s item t)) pool
choice_before sight taken s x xs item pool e = by (choices sight s x) e
  where
    by : (o : Choices) → some_choices item pool ≡ narrowed s xs o → flat_map (rows_from sight taken xs) (with_choice s o (decided sight s x)) ≡ flat_map (λ t. rows_from sight taken xs (with_slot s item t)) pool
    by None e = absurd (none_chosen (sym e))
    by (Some c) e =
        let h = choice_same e in
        chosen_rows sight taken xs s c.0 c.1
        ∙ sym (tests_narrow sight taken xs s c.0 c.1)
        ∙ ap (λ i. flat_map (λ t. rows_from sight taken xs (with_slot s i t)) (filter (passes s.slots c.0 xs) c.1)) (sym h.0)
        ∙ ap (flat_map (λ t. rows_from sight taken xs (with_slot s item t))) (sym h.1)

-- ---- reads

chosen_looks : (sight : Sight) (xs : List Step) (s : Reached) (item : ℕ) (pool : List Tuple) → sum_by (looks_from sight xs) (map (with_slot s item) pool) ≡ sum_by (λ t. looks_from sight xs (with_slot s item t)) pool
chosen_looks sight xs s item [] = refl
chosen_looks sight xs s item (t ∷ pool) =
    sum_by-cons (looks_from sight xs) (with_slot s item t) (map (with_slot s item) pool)
    ∙ ap (λ n. looks_from sight xs (with_slot s item t) + n) (chosen_looks sight xs s item pool)
    ∙ sym (sum_by-cons (λ t. looks_from sight xs (with_slot s item t)) t pool)

pub looks_before : (sight : Sight) (s : Reached) (x : Step) (xs : List Step) (item : ℕ) (pool : List Tuple) → some_choices item pool ≡ choices_before sight s x xs
    → sum_by (looks_from sight xs) (after_before sight s x xs) ≡ sum_by (λ t. looks_from sight xs (with_slot s item t)) pool
looks_before sight s x xs item pool e = sym (ap (λ o. sum_by (looks_from sight xs) (with_choice s o (decided sight s x))) e) ∙ chosen_looks sight xs s item pool

module _ (F G : Reached → ℕ) (h : (z : Reached) → F z ≤ G z) where
  sum_fewer : (zs : List Reached) → sum_by F zs ≤ sum_by G zs
  sum_fewer [] = omega arith
  sum_fewer (z ∷ zs) =
      let a = sum_by-cons F z zs in
      let b = sum_by-cons G z zs in
      let one = h z in
      let rest = sum_fewer zs in
      omega (arith, a, b, one, rest)

  chosen_fewer : (f : Tuple → Reached) (p : Tuple → Bool) (ts : List Tuple) → sum_by F (map f (filter p ts)) ≤ sum_by G (map f ts)
  chosen_fewer f p [] = omega arith
  chosen_fewer f p (t ∷ ts) = by (chosen_fewer f p ts) (p t)
    where
      one : F (f t) ≤ G (f t)
      one = h (f t)

      whole : sum_by G (f t ∷ map f ts) ≡ G (f t) + sum_by G (map f ts)
      whole = sum_by-cons G (f t) (map f ts)

      kept : sum_by F (f t ∷ map f (filter p ts)) ≡ F (f t) + sum_by F (map f (filter p ts))
      kept = sum_by-cons F (f t) (map f (filter p ts))

      by : sum_by F (map f (filter p ts)) ≤ sum_by G (map f ts) → (b : Bool) → sum_by F (map f (cond b (t ∷ filter p ts) (filter p ts))) ≤ sum_by G (f t ∷ map f ts)
      by rest true = omega (arith, one, whole, kept, rest)
      by rest false = omega (arith, whole, rest)

  after_fewer : (sight : Sight) (s : Reached) (x : Step) (xs : List Step) → sum_by F (after_before sight s x xs) ≤ sum_by G (after sight s x)
  after_fewer sight s x xs = by (choices sight s x)
    where
      by : (o : Choices) → sum_by F (with_choice s (narrowed s xs o) (decided sight s x)) ≤ sum_by G (with_choice s o (decided sight s x))
      by None = sum_fewer (option_list (decided sight s x))
      by (Some c) = chosen_fewer (with_slot s c.0) (passes s.slots c.0 xs) c.1

-- the rows of a key are not more than all
key_fewer : (vs : List Value) (rows : List (Tuple × Sign)) → length (rows_of_key vs rows) ≤ length rows
key_fewer vs rows = length-filter_le (λ x. begins_so vs x.0) rows

own_fewer : (sight : Sight) (s : Reached) (x : Step) (xs : List Step) → own_looks sight s x xs ≤ own_reads sight s x
own_fewer sight s (step.User a) xs = omega arith
own_fewer sight s (step.Pos a rel) xs = by (key_asked (sight.keys rel) s.slots a xs)
  where
    by : (vs : List Value) → pool_looks vs (sight.rows s.world rel) + 0 ≤ 2 * length (sight.rows s.world rel) + 2 + 0
    by [] = omega arith
    by (v ∷ vs) = let fewer = key_fewer (v ∷ vs) (sight.rows s.world rel) in omega (arith, fewer)
own_fewer sight s (step.Neg a rel) xs = by (slot_at s.slots a)
  where
    by : (o : Option Tuple) → 0 + deny_looks (sight.keys rel) (sight.rows s.world rel) o ≤ 0 + (length (sight.rows s.world rel) + 3)
    by None = omega arith
    by (Some t) = let fewer = key_fewer (take (sight.keys rel) t.vals) (sight.rows s.world rel) in omega (arith, fewer)
own_fewer sight s (step.Start a) xs = omega arith
own_fewer sight s (step.Edge a b) xs = omega arith
own_fewer sight s (step.Differ a b d) xs = omega arith
own_fewer sight s (step.Bind a b d) xs = omega arith
own_fewer sight s (step.Test c) xs = omega arith

-- an execution reads not more often than each step by itself
pub fewer_looks : (sight : Sight) (xs : List Step) (s : Reached) → looks_from sight xs s ≤ reads_from sight xs s
fewer_looks sight [] s = omega arith
fewer_looks sight (x ∷ xs) s =
    let own = own_fewer sight s x xs in
    let rest = after_fewer (looks_from sight xs) (reads_from sight xs) (λ z. fewer_looks sight xs z) sight s x xs in
    omega (arith, own, rest)
