-- The two tables of tuples.
use Rattle.std.proofs.Common.{◌≡◌, ◌∙◌, ℕ, Bool, true, false, cond, List, [], ◌∷◌, Option, Some, None, map, refl, ap, sym, subst}
use Rattle.std.specs.Prelude.{MatchOption}
use Rattle.std.specs.Bool.{MatchBool}
use Rattle.std.specs.List.{AllByRecursion}
use Rattle.std.specs.Option.{option_map}
use Rattle.std.specs.Ordering.{is_eq}
use Rattle.std.specs.FinMap as tables
use Rattle.std.specs.FinMap.{find}
use Rattle.std.proofs.lemmas.Bool.{cond-true, cond-false}
use Rattle.bdb_base.specs.declared.kinds.Value.{Value}
use Rattle.bdb_base.specs.declared.kinds.Value.TheVariants.{Int, Text}
use Rattle.bdb_base.specs.declared.tuple.Tuple.{Tuple}
use Rattle.bdb_base.proofs.AllLemmas.{all_weaker, all_both}
use Rattle.bdb_base.proofs.Numbers.{same_number}
use Rattle.bdb_base.proofs.BaseLemmas.{tied_tuple_is}
use Rattle.bdb_keep.specs.Tables.{Tables, bytes_cmp}
use Rattle.bdb_key.specs.Grammar.{HasPlainText, IsPlainValue}
use Rattle.bdb_key.specs.Rows.{IsTupleRow, MayBeTuple}
use Rattle.bdb_tables.specs.Codec.{Codec, HasOneRow, KeepsOrder, place}
use Rattle.bdb_tables.specs.InUse.{tuple_codec, tuple_ix_codec}
use Rattle.bdb_tables.specs.InUseLaws.{numbers_in_order, number_rows_are_one, tuples_in_order, tuple_rows_are_one}
use Rattle.bdb_tables.specs.Spans.{AreUnder, IsUnder, entry_bytes}
use Rattle.bdb_tables.specs.Rows.{Tuples}
use Rattle.bdb_tables.specs.Writes.{Gives}
use Rattle.bdb_entries.specs.Tuples.{AreTuples, HasTuples, HaveNoTuples, IsTurned, MayBeTurned}
use Rattle.bdb_entries.proofs.ListedLemmas.{entries_found, under_gives}
use Rattle.bdb_entries.proofs.ReadLemmas.{past}

-- ---- any table, told by its rows

module _ {Key Row : Type 0} (c : Codec Key Row) where
  -- the row of a key among rows
  abbrev pub item_in : List (Key × Row) → Key → Option Row
  item_in [] k = None
  item_in (e ∷ es) k = cond (is_eq (c.key_cmp k e.0)) (Some e.1) (item_in es k)

  item_found : KeepsOrder c → (es : List (Key × Row)) → AllByRecursion (IsUnder c []) es → (k : Key) → c.IsKey k
      → option_map c.row_bytes (item_in es k) ≡ find bytes_cmp (c.key_bytes k) (map (entry_bytes c) es)
  item_found order [] a k fits = refl
  item_found order (e ∷ es) a k fits =
      by (is_eq (c.key_cmp k e.0)) (item_in es k) (item_found order es a.1 k fits)
      ∙ ap (λ o. cond (is_eq o) (Some (c.row_bytes e.1)) (find bytes_cmp (c.key_bytes k) (map (entry_bytes c) es))) (sym (order k e.0 fits a.0.key))
    where
      by : (b : Bool) (o : Option Row) → option_map c.row_bytes o ≡ find bytes_cmp (c.key_bytes k) (map (entry_bytes c) es)
          → option_map c.row_bytes (cond b (Some e.1) o) ≡ cond b (Some (c.row_bytes e.1)) (find bytes_cmp (c.key_bytes k) (map (entry_bytes c) es))
      by true o h = refl
      by false o h = h

  item_fits : (es : List (Key × Row)) → AllByRecursion (IsUnder c []) es → (k : Key) → MatchOption (item_in es k) (Unit {0}) c.IsRow
  item_fits [] a k = tt
  item_fits (e ∷ es) a k = by (is_eq (c.key_cmp k e.0)) (item_in es k) (item_fits es a.1 k)
    where
      by : (b : Bool) (o : Option Row) → MatchOption o (Unit {0}) c.IsRow → MatchOption (cond b (Some e.1) o) (Unit {0}) c.IsRow
      by true o h = a.0.row
      by false o h = h

  pub items_give : KeepsOrder c → (t : Tables) (es : List (Key × Row)) → AreUnder c t [] es → Gives c t (item_in es)
  items_give order t es h = under_gives c t (item_in es) es h (record {
    each = h.each;
    sorted = h.sorted;
    same = λ k fits. item_found order es h.each k fits;
    written = λ k fits. item_fits es h.each k;
  })

  -- what holds of each row holds of what is found
  pub item_all : ((a b : Key) → is_eq (c.key_cmp a b) ≡ true → a ≡ b) → (P : Key × Row → Type 0) (es : List (Key × Row)) → AllByRecursion P es
      → (k : Key) (r : Row) → item_in es k ≡ Some r → P (k, r)
  item_all exact P [] a k r e = absurd cc
  item_all exact P (x ∷ es) a k r e = by (is_eq (c.key_cmp k x.0)) refl (λ f. item_all exact P es a.1 k r f)
    where
      by : (b : Bool) → is_eq (c.key_cmp k x.0) ≡ b → (item_in es k ≡ Some r → P (k, r)) → P (k, r)
      by true s later =
          let row : Some x.1 ≡ Some r = sym (cond-true (is_eq (c.key_cmp k x.0)) (Some x.1) (item_in es k) s) ∙ e in
          let same : x.1 ≡ r = cc in
          subst (λ (y : Row). P (k, y)) same (subst (λ (j : Key). P (j, x.1)) (sym (exact k x.0 s)) a.0)
      by false s later = later (sym (cond-false (is_eq (c.key_cmp k x.0)) (Some x.1) (item_in es k) s) ∙ e)

  -- what a table gives at a key where it has this row
  pub given_is : HasOneRow c → (t : Tables) (f : Key → Option Row) → Gives c t f → (k : Key) → c.IsKey k → (r : Row) → c.IsRow r → tables.get t (place c k) ≡ Some (c.row_bytes r) → f k ≡ Some r
  given_is one t f h k fits r row e = by (f k) (sym (h.rows k fits) ∙ e) (h.written k fits)
    where
      by : (o : Option Row) → option_map c.row_bytes o ≡ Some (c.row_bytes r) → MatchOption o (Unit {0}) c.IsRow → o ≡ Some r
      by None d w = absurd cc
      by (Some x) d w = let same : c.row_bytes x ≡ c.row_bytes r = cc in ap Some (one x r w row same)

-- ---- tuples

text_of : (v : Value) → IsPlainValue v → HasPlainText v
text_of (Int n) h = tt
text_of (Text b) h = h

tuple_may_be : (u : Tuple) → IsTupleRow u → MayBeTuple u
tuple_may_be u h = record { some = h.some; texts = all_weaker IsPlainValue HasPlainText u.vals text_of h.plain }

pub rows_may_be : (t : Tables) (es : List (ℕ × Tuple)) → AreUnder tuple_codec t [] es → AllByRecursion (MayBeTurned tuple_ix_codec) es
rows_may_be t es h = all_weaker (IsUnder tuple_codec []) (MayBeTurned tuple_ix_codec) es (λ e u. record { key = tuple_may_be e.1 u.row; row = tt }) h.each

pub turned_may_be : (t : Tables) (ds : List (Tuple × ℕ)) → AreUnder tuple_ix_codec t [] ds → AllByRecursion (MayBeTurned tuple_codec) ds
turned_may_be t ds h = all_weaker (IsUnder tuple_ix_codec []) (MayBeTurned tuple_codec) ds (λ e u. record { key = tt; row = tuple_may_be e.0 u.key }) h.each

-- where each table's rows are in the other one, they are the tuples and their numbers
pub are_tuples : (t : Tables) (es : List (ℕ × Tuple)) (ds : List (Tuple × ℕ)) → AreUnder tuple_codec t [] es → AreUnder tuple_ix_codec t [] ds
    → AllByRecursion (IsTurned tuple_ix_codec t) es → AllByRecursion (IsTurned tuple_codec t) ds → AreTuples t es
are_tuples t es ds h k turned back = record {
  under = h;
  tuples = ts;
  has = record {
    tuples = give;
    numbers = number;
    named = λ tid u e.
        let under = item_all tuple_codec same_number (IsUnder tuple_codec []) es h.each tid u e in
        given_is tuple_ix_codec number_rows_are_one t ts.number number u under.row tid under.key (item_all tuple_codec same_number (IsTurned tuple_ix_codec t) es turned tid u e);
    numbered = λ u tid e.
        let under = item_all tuple_ix_codec tied_tuple_is (IsUnder tuple_ix_codec []) ds k.each u tid e in
        given_is tuple_codec tuple_rows_are_one t ts.tuple give tid under.row u under.key (item_all tuple_ix_codec tied_tuple_is (IsTurned tuple_codec t) ds back u tid e);
    sized = λ tid u e. (item_all tuple_codec same_number (IsUnder tuple_codec []) es h.each tid u e).key;
  };
}
  where
    ts : Tuples
    ts = record { tuple = item_in tuple_codec es; number = item_in tuple_ix_codec ds }

    give : Gives tuple_codec t (item_in tuple_codec es)
    give = items_give tuple_codec numbers_in_order t es h

    number : Gives tuple_ix_codec t (item_in tuple_ix_codec ds)
    number = items_give tuple_ix_codec tuples_in_order t ds k

-- where tables have tuples, each table's rows are in the other one
pub tuples_turned : (t : Tables) (es : List (ℕ × Tuple)) → AreUnder tuple_codec t [] es → (ts : Tuples) → HasTuples t ts → AllByRecursion (IsTurned tuple_ix_codec t) es
tuples_turned t es h ts has =
    all_both (IsUnder tuple_codec []) (λ e. tables.get t (place tuple_codec e.0) ≡ Some (tuple_codec.row_bytes e.1)) (IsTurned tuple_ix_codec t) es
    (λ e u found. has.numbers.rows e.1 u.row ∙ ap (option_map tuple_ix_codec.row_bytes) (has.named e.0 e.1 (given_is tuple_codec tuple_rows_are_one t ts.tuple has.tuples e.0 u.key e.1 u.row found)))
    h.each (entries_found tuple_codec t es h)

pub numbers_turned : (t : Tables) (ds : List (Tuple × ℕ)) → AreUnder tuple_ix_codec t [] ds → (ts : Tuples) → HasTuples t ts → AllByRecursion (IsTurned tuple_codec t) ds
numbers_turned t ds h ts has =
    all_both (IsUnder tuple_ix_codec []) (λ e. tables.get t (place tuple_ix_codec e.0) ≡ Some (tuple_ix_codec.row_bytes e.1)) (IsTurned tuple_codec t) ds
    (λ e u found. has.tuples.rows e.1 u.row ∙ ap (option_map tuple_codec.row_bytes) (has.numbered e.0 e.1 (given_is tuple_ix_codec number_rows_are_one t ts.number has.numbers e.0 u.key e.1 u.row found)))
    h.each (entries_found tuple_ix_codec t ds h)

-- ---- the two tests

pub holding : (P Q : Type 0) (b : Bool) → b ≡ true → MatchBool b P Q → P
holding P Q b e h = subst (λ v. MatchBool v P Q) e h

-- whether rows, turned round, are all in a table
abbrev Tells : {Key Row : Type 0} → Codec Key Row → Tables → List (Row × Key) → Bool → Type 0
Tells c t rows b = MatchBool b (AllByRecursion (IsTurned c t) rows) (AllByRecursion (IsTurned c t) rows → ⊥)

pub not_numbered : (t u : Tables) (es rows : List (ℕ × Tuple)) (b : Bool) → u ≡ t → rows ≡ es → b ≡ false → Tells tuple_ix_codec u rows b → AreUnder tuple_codec t [] es → HaveNoTuples t
not_numbered t u es rows b same is bad h under = λ ts has.
    past (AllByRecursion (IsTurned tuple_ix_codec u) rows) (AllByRecursion (IsTurned tuple_ix_codec u) rows → ⊥) b bad h
    (subst (λ v. AllByRecursion (IsTurned tuple_ix_codec v) rows) (sym same) (subst (AllByRecursion (IsTurned tuple_ix_codec t)) (sym is) (tuples_turned t es under ts has)))

pub not_tupled : (t s u : Tables) (ds rows : List (Tuple × ℕ)) (b : Bool) → s ≡ t → u ≡ t → rows ≡ ds → b ≡ false → Tells tuple_codec u rows b → AreUnder tuple_ix_codec s [] ds → HaveNoTuples t
not_tupled t s u ds rows b first same is bad h under = λ ts has.
    past (AllByRecursion (IsTurned tuple_codec u) rows) (AllByRecursion (IsTurned tuple_codec u) rows → ⊥) b bad h
    (subst (λ v. AllByRecursion (IsTurned tuple_codec v) rows) (sym same)
    (subst (AllByRecursion (IsTurned tuple_codec t)) (sym is) (numbers_turned t ds (subst (λ v. AreUnder tuple_ix_codec v [] ds) first under) ts has)))

pub both_turned : (t s u v : Tables) (es rows : List (ℕ × Tuple)) (ds turned : List (Tuple × ℕ)) (a b : Bool) → s ≡ t → u ≡ t → v ≡ t → rows ≡ es → turned ≡ ds → a ≡ true → b ≡ true
    → Tells tuple_ix_codec u rows a → Tells tuple_codec v turned b → AreUnder tuple_codec t [] es → AreUnder tuple_ix_codec s [] ds → AreTuples t es
both_turned t s u v es rows ds turned a b first second third is are ea eb h k under below =
    are_tuples t es ds under (subst (λ w. AreUnder tuple_ix_codec w [] ds) first below)
    (subst (λ w. AllByRecursion (IsTurned tuple_ix_codec w) es) second (subst (AllByRecursion (IsTurned tuple_ix_codec u)) is
    (holding (AllByRecursion (IsTurned tuple_ix_codec u) rows) (AllByRecursion (IsTurned tuple_ix_codec u) rows → ⊥) a ea h)))
    (subst (λ w. AllByRecursion (IsTurned tuple_codec w) ds) third (subst (AllByRecursion (IsTurned tuple_codec v)) are
    (holding (AllByRecursion (IsTurned tuple_codec v) turned) (AllByRecursion (IsTurned tuple_codec v) turned → ⊥) b eb k)))
