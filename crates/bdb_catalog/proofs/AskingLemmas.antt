-- What tests ask for of the first columns of a key, and the keys of the rows that have it.
use Rattle.std.proofs.Common.{◌≡◌, ◌∙◌, ℕ, suc, zero, ◌+◌, ◌-◌, ◌<◌, ◌≤◌, Bool, true, false, ◌&&◌, nat_eq, List, [], ◌∷◌, ◌++◌, append_assoc, length, take, drop, Option, Some, None, refl, ap, sym, subst, arith}
use Rattle.std.specs.List.{list_all, slice_get}
use Rattle.std.proofs.lemmas.Bool.{and_parts, and_from, cond-true, cond-false, eqb-true, eq-eqb, false≢true}
use Rattle.std.proofs.lemmas.List.{take-take, take-append-drop, length-take-le}
use Rattle.bdb_base.specs.Clash.{key_of}
use Rattle.bdb_base.specs.Conditions.{meets, meets_one, value_at, operand_at, compare_so}
use Rattle.bdb_base.specs.Safety.{is_equality, first_there}
use Rattle.bdb_base.specs.Same.{same_values}
use Rattle.bdb_base.specs.SameLemmas.{same_values-Decides}
use Rattle.bdb_base.specs.Segments.{is_prefix}
use Rattle.bdb_base.specs.declared.kinds.Cmp.TheVariants.{Eq}
use Rattle.bdb_base.specs.declared.kinds.Cond.{Cond}
use Rattle.bdb_base.specs.declared.kinds.Operand.{Operand}
use Rattle.bdb_base.specs.declared.kinds.Operand.TheVariants.{Col, Lit}
use Rattle.bdb_base.specs.declared.kinds.Value.{Value}
use Rattle.bdb_base.specs.declared.tuple.Tuple.{Tuple}
use Rattle.bdb_base.proofs.ListLemmas.{drop_there}
use Rattle.bdb_base.proofs.ConditionLemmas.{equality_is, equal_value}
use Rattle.bdb_key.specs.Bytes.{num_bytes, values_bytes, vals_bytes}
use Rattle.bdb_key.specs.Grammar.{IsNum, ArePlain, AreKeyVals}
use Rattle.bdb_key.specs.Rows.{IsTupleRow}
use Rattle.bdb_key.proofs.Readings.{num_form}
use Rattle.bdb_key.proofs.Compared.{take_plain, values_append}
use Rattle.bdb_tables.specs.InUse.{val_bytes}
use Rattle.bdb_tables.specs.Rows.{AreKeyLengths}
use Rattle.bdb_tables.specs.Prefixes.{led_by, key_prefix}
use Rattle.bdb_tables.proofs.PrefixLemmas.{values_part, all_written}
use Rattle.bdb_base.specs.Bases.{is_written}
use Rattle.bdb_tables.proofs.ListLemmas.{prefix_append, prefix_rest}
use Rattle.bdb_val.specs.Reads.{IsSpan}
use Rattle.bdb_val.specs.Settling.{row_key}
use Rattle.bdb_val.proofs.ReadLemmas.{key_of_fits}
use Rattle.bdb_catalog.specs.Taking.{asks_for, is_asked, literal_of, starts_with, value_asked, value_of_test, values_asked, values_from}

-- ---- what a tuple has that meets tests

none_some : (v : Value) → None ≡ Some v → ⊥
none_some v e = cc

literal_is : (u : Tuple) (o : Operand) (v : Value) → literal_of o ≡ Some v → operand_at u o ≡ Some v
literal_is u (Col r) v e = absurd (none_some v e)
literal_is u (Lit x) v e = e

-- a tuple that meets a test has the value that the test asks for of a column
test_tells : (c : Cond) (col : ℕ) (u : Tuple) (v : Value) → value_of_test c col ≡ Some v → meets_one u c ≡ true → slice_get u.vals col ≡ Some v
test_tells c col u v k m = by (asks_for c col) refl
  where
    by : (b : Bool) → asks_for c col ≡ b → slice_get u.vals col ≡ Some v
    by true a =
        let p = and_parts (is_equality c.cmp) (nat_eq c.left.item 0 && nat_eq c.left.col col) a in
        let q = and_parts (nat_eq c.left.item 0) (nat_eq c.left.col col) p.1 in
        let right : operand_at u c.right ≡ Some v = literal_is u c.right v (sym (cond-true (asks_for c col) (literal_of c.right) None a) ∙ k) in
        let left : value_at u c.left ≡ slice_get u.vals col =
        cond-true (nat_eq c.left.item 0) (slice_get u.vals c.left.col) None q.0 ∙ ap (λ n. slice_get u.vals n) (eqb-true c.left.col col q.1) in
        equal_value (slice_get u.vals col) v
        (sym (ap (λ cmp. compare_so cmp (value_at u c.left) (operand_at u c.right)) (equality_is c.cmp p.0)
        ∙ ap (λ o. compare_so Eq o (operand_at u c.right)) left ∙ ap (λ o. compare_so Eq (slice_get u.vals col) o) right) ∙ m)
    by false a = absurd (none_some v (sym (cond-false (asks_for c col) (literal_of c.right) None a) ∙ k))

-- a tuple that meets all tests has the value that they ask for of a column
asked_met : (conds : List Cond) (col : ℕ) (u : Tuple) (v : Value) → value_asked conds col ≡ Some v → meets conds u ≡ true → slice_get u.vals col ≡ Some v
asked_met [] col u v k m = absurd (none_some v k)
asked_met (c ∷ cs) col u v k m = by (value_of_test c col) refl (λ e. asked_met cs col u v e parts.1)
  where
    parts : (meets_one u c ≡ true) × (meets cs u ≡ true)
    parts = and_parts (meets_one u c) (meets cs u) m

    by : (o : Option Value) → value_of_test c col ≡ o → (value_asked cs col ≡ Some v → slice_get u.vals col ≡ Some v) → slice_get u.vals col ≡ Some v
    by None e rest = rest (sym (ap (λ o. first_there o (value_asked cs col)) e) ∙ k)
    by (Some x) e rest = test_tells c col u v (e ∙ (sym (ap (λ o. first_there o (value_asked cs col)) e) ∙ k)) parts.0

-- from each column on it has the values that they ask for
values_met : (conds : List Cond) (u : Tuple) → meets conds u ≡ true → (most col : ℕ) → take (length (values_from conds most col)) (drop col u.vals) ≡ values_from conds most col
values_met conds u m zero col = refl
values_met conds u m (suc most) col = by (value_asked conds col) refl (values_met conds u m most (suc col))
  where
    by : (o : Option Value) → value_asked conds col ≡ o → take (length (values_from conds most (suc col))) (drop (suc col) u.vals) ≡ values_from conds most (suc col)
        → take (length (led_by o (values_from conds most (suc col)))) (drop col u.vals) ≡ led_by o (values_from conds most (suc col))
    by None e rest = refl
    by (Some v) e rest =
        ap (take (suc (length (values_from conds most (suc col))))) (drop_there u.vals col v (asked_met conds col u v e m)) ∙ ap (λ (vs : List Value). v ∷ vs) rest

-- no more values are asked for than there are columns
few_from : (conds : List Cond) (n col : ℕ) → length (values_from conds n col) ≤ n
few_from conds zero col = omega arith
few_from conds (suc n) col = by (value_asked conds col) (few_from conds n (suc col))
  where
    by : (o : Option Value) → length (values_from conds n (suc col)) ≤ n → length (led_by o (values_from conds n (suc col))) ≤ suc n
    by None rest = omega arith
    by (Some v) rest = omega (arith, rest)

-- ---- tuples that are asked for

has_started : (n : ℕ) (vs key : List Value) → length key ≡ n → take (length vs) key ≡ vs → starts_with n vs key ≡ true
has_started n vs key many e =
    and_from (nat_eq (length key) n) (same_values (take (length vs) key) vs) (eq-eqb (length key) n many) ((same_values-Decides (take (length vs) key) vs).1 e)

started : (n : ℕ) (vs key : List Value) → starts_with n vs key ≡ true → (length key ≡ n) × (take (length vs) key ≡ vs)
started n vs key e =
    let p = and_parts (nat_eq (length key) n) (same_values (take (length vs) key) vs) e in
    (eqb-true (length key) n p.0, (same_values-Decides (take (length vs) key) vs).0 p.1)

-- a tuple of a relation that meets all tests is asked for, where it has at least as many values as its key
pub meets_asked : (keys : ℕ → ℕ) (conds : List Cond) (rel : ℕ) (u : Tuple) → keys u.rel ≤ length u.vals → nat_eq u.rel rel ≡ true → meets conds u ≡ true
    → is_asked keys rel (values_asked conds (keys rel)) u ≡ true
meets_asked keys conds rel u whole r m =
    let vs = values_asked conds (keys rel) in
    let is : u.rel ≡ rel = eqb-true u.rel rel r in
    let long : keys rel ≤ length u.vals = subst (λ (k : ℕ). keys k ≤ length u.vals) is whole in
    and_from (nat_eq u.rel rel) (starts_with (keys rel) vs (key_of keys u)) r
    (ap (λ (k : ℕ). starts_with (keys rel) vs (take (keys k) u.vals)) is
    ∙ has_started (keys rel) vs (take (keys rel) u.vals) (length-take-le (keys rel) u.vals long)
    (take-take (length vs) (keys rel) u.vals (few_from conds (keys rel) 0) ∙ values_met conds u m (keys rel) 0))

pub asked_rel : (keys : ℕ → ℕ) (rel : ℕ) (vs : List Value) (u : Tuple) → is_asked keys rel vs u ≡ true → nat_eq u.rel rel ≡ true
asked_rel keys rel vs u e = (and_parts (nat_eq u.rel rel) (starts_with (keys rel) vs (key_of keys u)) e).0

-- ---- values that no tuple has

-- no tuple meets tests that ask for a value that no tuple has
pub none_meets : (conds : List Cond) (n : ℕ) (u : Tuple) → IsTupleRow u → list_all is_written (values_asked conds n) ≡ false → meets conds u ≡ true → ⊥
none_meets conds n u g out m =
    let vs = values_asked conds n in
    false≢true (sym out ∙ all_written vs (subst ArePlain (values_met conds u m n 0) (take_plain (length vs) u.vals g.plain)))

-- ---- keys

-- a key that has so many values and starts with some begins with their number and these
module _ (wid rel n : ℕ) (vs : List Value) where
  begins_with : (rest : List Value) (tid : ℕ) → length (vs ++ rest) ≡ n → is_prefix (key_prefix n wid rel vs) (val_bytes (wid, rel, vs ++ rest, tid)) ≡ true
  begins_with rest tid many =
      let m = length (vs ++ rest) in
      ap (λ (k : ℕ). is_prefix (key_prefix k wid rel vs) (val_bytes (wid, rel, vs ++ rest, tid))) (sym many)
      ∙ ap (λ (tail : List ℕ). is_prefix (key_prefix m wid rel vs) (num_bytes wid ++ num_bytes rel ++ num_bytes m ++ tail))
      (ap (λ (r : List ℕ). r ++ num_bytes tid) (values_append vs rest) ∙ append_assoc (values_bytes vs) (values_bytes rest) (num_bytes tid))
      ∙ prefix_append (key_prefix m wid rel vs) (values_bytes rest ++ num_bytes tid)

  front_begins : (key : List Value) (tid : ℕ) → starts_with n vs key ≡ true → is_prefix (key_prefix n wid rel vs) (val_bytes (wid, rel, key, tid)) ≡ true
  front_begins key tid e =
      let p = started n vs key e in
      let split : key ≡ vs ++ drop (length vs) key = sym (take-append-drop (length vs) key) ∙ ap (λ (xs : List Value). xs ++ drop (length vs) key) p.1 in
      ap (λ (xs : List Value). is_prefix (key_prefix n wid rel vs) (val_bytes (wid, rel, xs, tid))) split ∙ begins_with (drop (length vs) key) tid (sym (ap length split) ∙ p.0)

  -- and the other way round
  front_starts : (key : List Value) (tid : ℕ) (rest : List ℕ) → length vs ≤ n → IsNum n → ArePlain vs → AreKeyVals key → vals_bytes key ++ num_bytes tid ≡ num_bytes n ++ (values_bytes vs ++ rest)
      → starts_with n vs key ≡ true
  front_starts key tid rest few num plain k e =
      let one = num_form (length key) n (values_bytes key ++ num_bytes tid) (values_bytes vs ++ rest) k.short num e in
      has_started n vs key one.0 (values_part vs key (num_bytes tid) rest plain k.plain (subst (λ m. length vs ≤ m) (sym one.0) few) one.1)

-- the keys of a world's rows whose tuples are asked for are those that begin so
pub asked_span : (keys : ℕ → ℕ) → AreKeyLengths keys → (wid rel : ℕ) (vs : List Value) → IsNum wid → IsNum rel → length vs ≤ keys rel → ArePlain vs
    → IsSpan keys wid (is_asked keys rel vs) (key_prefix (keys rel) wid rel vs)
asked_span keys lengths wid rel vs w r few p = record {
  world = λ k f e.
      let s = prefix_rest (key_prefix (keys rel) wid rel vs) (val_bytes k) e in
      (num_form k.0 wid (num_bytes k.1 ++ vals_bytes k.2 ++ num_bytes k.3) (num_bytes rel ++ num_bytes (keys rel) ++ (values_bytes vs ++ s.0)) f.world w s.1).0;
  begins = λ tid u e.
      let k = and_parts (nat_eq u.rel rel) (starts_with (keys rel) vs (key_of keys u)) e in
      ap (λ (x : ℕ). is_prefix (key_prefix (keys rel) wid rel vs) (val_bytes (wid, x, key_of keys u, tid))) (eqb-true u.rel rel k.0)
      ∙ front_begins wid rel (keys rel) vs (key_of keys u) tid k.1;
  inside = λ tid u g e.
      let s = prefix_rest (key_prefix (keys rel) wid rel vs) (val_bytes (row_key keys wid tid u)) e in
      let one = num_form wid wid (num_bytes u.rel ++ vals_bytes (key_of keys u) ++ num_bytes tid) (num_bytes rel ++ num_bytes (keys rel) ++ (values_bytes vs ++ s.0)) w w s.1 in
      let two = num_form u.rel rel (vals_bytes (key_of keys u) ++ num_bytes tid) (num_bytes (keys rel) ++ (values_bytes vs ++ s.0)) g.rel r one.1 in
      and_from (nat_eq u.rel rel) (starts_with (keys rel) vs (key_of keys u)) (eq-eqb u.rel rel two.0)
      (front_starts wid rel (keys rel) vs (key_of keys u) tid s.0 few (lengths rel r) p (key_of_fits keys lengths u g) two.1);
}

-- ---- values that are put one behind the other

module _ (conds : List Cond) where
  -- no more values are asked for than the key has columns
  pub few_asked : (n : ℕ) → length (values_asked conds n) ≤ n
  few_asked n = few_from conds n 0

  -- at first all columns are left
  pub all_columns : (n : ℕ) → values_from conds (n - 0) 0 ≡ values_asked conds n
  all_columns n = ap (λ k. values_from conds k 0) (all n)
    where
      all : (n : ℕ) → n - 0 ≡ n
      all n = omega arith

  -- where no column is left, nothing is asked for
  pub none_left : (n col : ℕ) → n ≤ col → values_from conds (n - col) col ≡ []
  none_left n col le = ap (λ k. values_from conds k col) (nothing n col le)
    where
      nothing : (n col : ℕ) → n ≤ col → n - col ≡ 0
      nothing n col le = omega (arith, le)

  -- what is asked for from a column on
  pub from_column : (n col : ℕ) (o : Option Value) → col < n → o ≡ value_asked conds col → values_from conds (n - col) col ≡ led_by o (values_from conds (n - (col + 1)) (col + 1))
  from_column n col o lt e =
      ap (λ k. values_from conds k col) (one_more n col lt)
      ∙ ap (λ p. led_by p (values_from conds (n - (col + 1)) (suc col))) (sym e)
      ∙ ap (λ k. led_by o (values_from conds (n - (col + 1)) k)) (next col)
    where
      one_more : (n col : ℕ) → col < n → n - col ≡ suc (n - (col + 1))
      one_more n col lt = omega (arith, lt)

      next : (col : ℕ) → suc col ≡ col + 1
      next col = omega arith
