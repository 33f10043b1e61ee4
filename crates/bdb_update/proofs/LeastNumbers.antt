-- The least number that no tuple has.
use Rattle.std.proofs.Common.{◌≡◌, ◌∙◌, ℕ, ◌+◌, ◌<◌, Bool, true, false, not, ◌||◌, nat_eq, cond, List, [], ◌∷◌, length, map, refl, ap, sym, subst, inl, inr, arith, Option, Some, None, is_some}
use Rattle.std.specs.List.{list_any}
use Rattle.std.specs.Option.{option_map}
use Rattle.std.specs.Ordering.{is_le}
use Rattle.std.specs.FinMap as tables
use Rattle.std.proofs.lemmas.Bool.{and_from, cases_lt, eqb-true, false≢true, false_from_ne_true, not_from_false, or_cases, or_left, or_right}
use Rattle.bdb_base.specs.Bases.{distinct_count}
use Rattle.bdb_base.specs.Same.{same_tuple}
use Rattle.bdb_base.specs.SameLemmas.{same_tuple-Decides}
use Rattle.bdb_base.specs.declared.kinds.Stmt.{Stmt}
use Rattle.bdb_base.specs.declared.tuple.Tuple.{Tuple}
use Rattle.bdb_base.proofs.ClashLemmas.{same_tuple_turned}
use Rattle.bdb_base.proofs.OptionLemmas.{some_of, one_there}
use Rattle.bdb_base.proofs.Numbers.{number_le}
use Rattle.bdb_base.specs.Causes.{is_listed}
use Rattle.bdb_keep.specs.Tables.{Tables}
use Rattle.bdb_key.specs.Bytes.{num_bytes}
use Rattle.bdb_key.specs.Grammar.{IsNum}
use Rattle.bdb_names.proofs.CountLemmas.{AllBelow, none_missing}
use Rattle.bdb_tables.specs.Codec.{HasAt, HasFirst, place}
use Rattle.bdb_tables.specs.Gaps.{IsFirstGap}
use Rattle.bdb_tables.specs.InUse.{tuple_codec, tuple_ix_codec}
use Rattle.bdb_tables.specs.InUseLaws.{number_rows_are_one}
use Rattle.bdb_tables.specs.Names.{are_once}
use Rattle.bdb_tables.specs.Rows.{Tuples, HoldsTuples}
use Rattle.bdb_tables.specs.Stored.{SameBut}
use Rattle.bdb_tables.proofs.SameLemmas.{tuples_still}
use Rattle.bdb_update.specs.Numbering.{HoldsSomeTuples, IsLeastNumber, TakesLeast}

some_number : Option ℕ → ℕ
some_number None = 0
some_number (Some n) = n

abbrev tuples_of : List Stmt → List Tuple
tuples_of xs = map (λ x. x.tuple) xs

-- ---- the numbers of tuples, each once

module _ (told : List Stmt) (ts : Tuples) (t : Tables) (h : HoldsTuples told ts t) where
  number : Tuple → ℕ
  number u = some_number (ts.number u)

  numbers : List Stmt → List ℕ
  numbers [] = []
  numbers (x ∷ xs) = cond (list_any (same_tuple x.tuple) (tuples_of xs)) (numbers xs) (number x.tuple ∷ numbers xs)

  many : (xs : List Stmt) → length (numbers xs) ≡ distinct_count same_tuple (tuples_of xs)
  unfolding numbers
  many [] = refl
  many (x ∷ xs) = by (list_any (same_tuple x.tuple) (tuples_of xs)) (many xs)
    where
      by : (b : Bool) → length (numbers xs) ≡ distinct_count same_tuple (tuples_of xs) → length (cond b (numbers xs) (number x.tuple ∷ numbers xs)) ≡ cond b 0 1 + distinct_count same_tuple (tuples_of xs)
      by true e = omega arith
      by false e = omega arith

  -- each tuple of some statements has a number
  abbrev AreTold : List Stmt → Type 0
  AreTold xs = (u : Tuple) → list_any (same_tuple u) (tuples_of xs) ≡ true → is_some (ts.number u) ≡ true

  rest_told : (x : Stmt) (xs : List Stmt) → AreTold (x ∷ xs) → AreTold xs
  rest_told x xs a u e = a u (or_right (same_tuple u x.tuple) (list_any (same_tuple u) (tuples_of xs)) e)

  all_told : AreTold told
  all_told u e = h.stated u ∙ sym (turned told) ∙ e
    where
      turned : (xs : List Stmt) → list_any (same_tuple u) (tuples_of xs) ≡ list_any (λ x. same_tuple x.tuple u) xs
      turned [] = refl
      turned (x ∷ xs) = ap (λ b. b || list_any (same_tuple u) (tuples_of xs)) (same_tuple_turned u x.tuple) ∙ ap (λ b. same_tuple x.tuple u || b) (turned xs)

  named : (x : Stmt) (xs : List Stmt) → AreTold (x ∷ xs) → ts.tuple (number x.tuple) ≡ Some x.tuple
  unfolding number some_number
  named x xs a =
      let n = some_of (ts.number x.tuple) (a x.tuple (or_left (same_tuple x.tuple x.tuple) (list_any (same_tuple x.tuple) (tuples_of xs)) ((same_tuple-Decides x.tuple x.tuple).1 refl))) in
      ap (λ o. ts.tuple (some_number o)) n.1 ∙ h.numbered x.tuple n.0 n.1

  -- a number that is listed stands for the tuple of a statement
  pub record IsListed (k : ℕ) (xs : List Stmt) : Type 0 where
    pub tuple : Tuple
    pub named : ts.tuple k ≡ Some tuple
    pub stated : list_any (same_tuple tuple) (tuples_of xs) ≡ true

  listed_is : (k : ℕ) (xs : List Stmt) → AreTold xs → is_listed k (numbers xs) ≡ true → IsListed k xs
  unfolding numbers
  listed_is k [] a e = absurd (false≢true e)
  listed_is k (x ∷ xs) a e = by (list_any (same_tuple x.tuple) (tuples_of xs)) e (listed_is k xs (rest_told x xs a))
    where
      later : IsListed k xs → IsListed k (x ∷ xs)
      later l = record { tuple = l.tuple; named = l.named; stated = or_right (same_tuple l.tuple x.tuple) (list_any (same_tuple l.tuple) (tuples_of xs)) l.stated }

      by : (b : Bool) → is_listed k (cond b (numbers xs) (number x.tuple ∷ numbers xs)) ≡ true → (is_listed k (numbers xs) ≡ true → IsListed k xs) → IsListed k (x ∷ xs)
      by true e r = later (r e)
      by false e r = elim (or_cases (nat_eq k (number x.tuple)) (is_listed k (numbers xs)) e) [
        | inr f ↦ later (r f)
        | inl f ↦ record {
          tuple = x.tuple;
          named = ap ts.tuple (eqb-true k (number x.tuple) f) ∙ named x xs a;
          stated = or_left (same_tuple x.tuple x.tuple) (list_any (same_tuple x.tuple) (tuples_of xs)) ((same_tuple-Decides x.tuple x.tuple).1 refl);
        }
      ]

  once : (xs : List Stmt) → AreTold xs → are_once (numbers xs) ≡ true
  unfolding numbers
  once [] a = refl
  once (x ∷ xs) a = by (list_any (same_tuple x.tuple) (tuples_of xs)) refl (once xs (rest_told x xs a))
    where
      by : (b : Bool) → list_any (same_tuple x.tuple) (tuples_of xs) ≡ b → are_once (numbers xs) ≡ true → are_once (cond b (numbers xs) (number x.tuple ∷ numbers xs)) ≡ true
      by true e r = r
      by false e r = and_from (not (is_listed (number x.tuple) (numbers xs))) (are_once (numbers xs))
          (not_from_false (is_listed (number x.tuple) (numbers xs)) (false_from_ne_true (is_listed (number x.tuple) (numbers xs)) (λ f.
          let l = listed_is (number x.tuple) xs (rest_told x xs a) f in
          let same : l.tuple ≡ x.tuple = one_there l.tuple x.tuple (ts.tuple (number x.tuple)) l.named (named x xs a) in
          false≢true (sym e ∙ ap (λ u. list_any (same_tuple u) (tuples_of xs)) (sym same) ∙ l.stated)))) r

  has_row : (n : ℕ) (u : Tuple) → ts.tuple n ≡ Some u → is_some (tables.get t (place tuple_codec n)) ≡ true
  has_row n u e = ap is_some (h.tuples.rows n (h.sized n u e) ∙ ap (option_map tuple_codec.row_bytes) e)

  -- where no number is as large as the count of tuples, all below are in use
  below_in_use : (c : ℕ) → c ≡ distinct_count same_tuple (tuples_of told) → HasFirst tuple_codec t (λ key. is_le (tuple_codec.key_cmp c key)) None → (n : ℕ) → n < c → is_some (tables.get t (place tuple_codec n)) ≡ true
  below_in_use c counted none n lt =
      let size = many told in
      let below : AllBelow (length (numbers told)) (numbers told) = λ k e. elim (cases_lt k c) [
        | inl l ↦ omega arith
        | inr ge ↦
            let l = listed_is k told all_told e in
            absurd (false≢true (ap is_some (sym (none k (h.sized k l.tuple l.named) (number_le c k ge))) ∙ has_row k l.tuple l.named))
      ] in
      let l = listed_is n told all_told (none_missing (numbers told) (once told all_told) below n (omega arith)) in
      has_row n l.tuple l.named

pub count_is_least : (t : Tables) (c : ℕ) → IsNum c → HoldsSomeTuples t c → HasFirst tuple_codec t (λ key. is_le (tuple_codec.key_cmp c key)) None → IsLeastNumber t c
count_is_least t c fits some none = record { free = none c fits (number_le c c (omega arith)); least = below_in_use some.told some.numbers t some.held c some.counted none }

-- the first number that is no key of the table of tuples
pub gap_is_least : (t u : Tables) (tid : ℕ) → u ≡ t → IsFirstGap u tuple_codec.number 0 tid → IsLeastNumber t tid
gap_is_least t u tid same gap = record {
  free = ap (λ (v : Tables). tables.get v (place tuple_codec tid)) (sym same) ∙ gap.free;
  least = λ n lt. ap (λ (v : Tables). is_some (tables.get v (place tuple_codec n))) (sym same) ∙ gap.least n (omega arith) lt;
}

-- ---- the number that a tuple gets

some_none : {X : Type 0} (v : X) (o : Option X) → o ≡ Some v → o ≡ None → ⊥
some_none v o a b = cc

-- a tuple that has a number gets none
pub takes_none : (t u : Tables) (x : Tuple) (tid : ℕ) → HasAt tuple_ix_codec t x (Some tid) → TakesLeast t u x
takes_none t u x tid has none = absurd (some_none (num_bytes tid) (tables.get t (place tuple_ix_codec x)) has.found none)

pub takes_nothing : (t u : Tables) (x : Tuple) → u ≡ t → TakesLeast t u x
takes_nothing t u x e none tid has = absurd (some_none (num_bytes tid) (tables.get u (place tuple_ix_codec x)) has.found (ap (λ (v : Tables). tables.get v (place tuple_ix_codec x)) e ∙ none))

pub takes_number : (t u : Tables) (x : Tuple) (tid : ℕ) → IsLeastNumber t tid → HasAt tuple_ix_codec u x (Some tid) → TakesLeast t u x
takes_number t u x tid least there none n has =
    let bytes : num_bytes tid ≡ num_bytes n = one_there (num_bytes tid) (num_bytes n) (tables.get u (place tuple_ix_codec x)) there.found has.found in
    let one : tid ≡ n = number_rows_are_one tid n there.in_grammar has.in_grammar bytes in
    subst (IsLeastNumber t) one least

-- where other tables change before and after
pub takes_between : (before after : ℕ → Bool) (t u v w : Tables) (x : Tuple) → before 4 ≡ false → before 5 ≡ false → after 5 ≡ false → SameBut before t u → SameBut after v w → TakesLeast u v x → TakesLeast t w x
takes_between before after t u v w x b4 b5 a5 first last takes none tid has =
    let k = tuple_ix_codec.key_bytes x in
    let least = takes (first 5 k b5 ∙ none) tid (record { in_grammar = has.in_grammar; found = sym (last 5 k a5) ∙ has.found }) in
    record {
      free = sym (first 4 (num_bytes tid) b4) ∙ least.free;
      least = λ n lt. ap is_some (sym (first 4 (num_bytes n) b4)) ∙ least.least n lt;
    }

-- tables hold as many tuples where neither of their tables has changed
pub some_still : (test : ℕ → Bool) (t u : Tables) (n : ℕ) → test 4 ≡ false → test 5 ≡ false → SameBut test t u → HoldsSomeTuples t n → HoldsSomeTuples u n
some_still test t u n a b same s = record { told = s.told; numbers = s.numbers; held = tuples_still test t u same s.told s.numbers a b s.held; counted = s.counted }
