-- The explicit rows of a group, among all of its rows.
use Rattle.std.proofs.Common.{◌≡◌, ◌∙◌, ℕ, ◌+◌, ◌<◌, Bool, true, false, cond, List, [], ◌∷◌, ◌++◌, filter, length, take, get_or, refl, ap, sym, subst, inl, inr, Some}
use Rattle.std.specs.Bool.{MatchBool}
use Rattle.std.specs.FinMap as tables
use Rattle.std.specs.List.{AllByRecursion}
use Rattle.std.proofs.lemmas.Bool.{cases_Bool, cond-true, cond-false, false≢true}
use Rattle.std.proofs.lemmas.List.{take_more, append-nil}
use Rattle.bdb_base.specs.declared.tuple.Tuple.{Tuple}
use Rattle.bdb_base.proofs.OptionLemmas.{some_of, same_some}
use Rattle.bdb_base.proofs.ListLemmas.{filter_push}
use Rattle.bdb_keep.specs.Tables.{Tables}
use Rattle.bdb_key.specs.Bytes.{num_bytes}
use Rattle.bdb_tables.specs.Codec.{IsEntryOf, place}
use Rattle.bdb_tables.specs.Grammar.{InGrammar}
use Rattle.bdb_tables.specs.InUse.{ValKey, tuple_codec}
use Rattle.bdb_tables.specs.InUseLaws.{tuple_rows_are_one}
use Rattle.bdb_tables.specs.Marks.{Mark}
use Rattle.bdb_val.specs.Reads.{AreReadUnder, AreTold, HaveTuples, IsTold}
use Rattle.bdb_val.specs.declared.stored.StoredRow.{StoredRow}
use Rattle.bdb_val.proofs.ToldLemmas.{Stands, entries_stand}
use Rattle.bdb_update.specs.Groups.{AreExplicitRows, AreExplicitUnder, HasTupleRow, IsPicked, is_explicit_entry}

-- ---- one row more

told_push : (t : Tables) (es : List (ValKey × Mark)) (e : ValKey × Mark) (xs : List StoredRow) (x : StoredRow) → AreTold t es xs → IsTold t e x → AreTold t (es ++ e ∷ []) (xs ++ x ∷ [])
told_push t [] e [] x a h = (h, tt)
told_push t [] e (y ∷ ys) x a h = absurd a
told_push t (d ∷ ds) e [] x a h = absurd a
told_push t (d ∷ ds) e (y ∷ ys) x a h = (a.0, told_push t ds e ys x a.1 h)

picked : (t : Tables) (es : List (ValKey × Mark)) (e : ValKey × Mark) (xs ys : List StoredRow) → AreExplicitRows t es xs → IsPicked t e xs ys → AreExplicitRows t (es ++ e ∷ []) ys
picked t es e xs ys a h = elim (cases_Bool e.1.1) [
  | inl c ↦
      let k : (x : StoredRow) × IsTold t e x × (ys ≡ xs ++ x ∷ []) = subst (λ b. MatchBool b ((x : StoredRow) × IsTold t e x × (ys ≡ xs ++ x ∷ [])) (ys ≡ xs)) c h in
      subst (λ ds. AreTold t ds ys) (sym (filter_push is_explicit_entry es e ∙ ap (λ (b : Bool). filter is_explicit_entry es ++ cond b (e ∷ []) []) c))
      (subst (AreTold t (filter is_explicit_entry es ++ e ∷ [])) (sym k.2) (told_push t (filter is_explicit_entry es) e xs k.0 a k.1))
  | inr c ↦
      let k : ys ≡ xs = subst (λ b. MatchBool b ((x : StoredRow) × IsTold t e x × (ys ≡ xs ++ x ∷ [])) (ys ≡ xs)) c h in
      subst (λ ds. AreTold t ds ys) (sym (filter_push is_explicit_entry es e ∙ ap (λ (b : Bool). filter is_explicit_entry es ++ cond b (e ∷ []) []) c ∙ append-nil (filter is_explicit_entry es)))
      (subst (AreTold t (filter is_explicit_entry es)) (sym k) a)
]

pub picked_more : (t : Tables) (es : List (ValKey × Mark)) (i : ℕ) (e : ValKey × Mark) (xs ys : List StoredRow) → i < length es → e ≡ get_or es i e
    → AreExplicitRows t (take i es) xs → IsPicked t e xs ys → AreExplicitRows t (take (i + 1) es) ys
picked_more t es i e xs ys lt is a h =
    subst (λ ds. AreExplicitRows t ds ys) (sym (take_more es i e lt ∙ ap (λ y. take i es ++ y ∷ []) (sym is))) (picked t (take i es) e xs ys a h)

-- ---- all rows of a group

pub have_tuples : (t : Tables) (es : List (ValKey × Mark)) → HaveTuples t → AllByRecursion (Stands t) es → AllByRecursion (HasTupleRow t) es
have_tuples t [] h a = tt
have_tuples t (e ∷ es) h a = (h e.0 a.0.0 a.0.1, have_tuples t es h a.1)

module _ (t : Tables) (grammar : InGrammar t) where
  row_told : (e : ValKey × Mark) → HasTupleRow t e → (x : StoredRow) × IsTold t e x
  row_told e h =
      let r = some_of (tables.get t (place tuple_codec e.0.3)) h in
      let k : IsEntryOf tuple_codec (num_bytes e.0.3) r.0 = grammar 4 (num_bytes e.0.3) r.0 r.1 in (
        record { tid = e.0.3; tuple = k.row; mark = e.1 },
        record { tid = refl; mark = refl; tuple = record { in_grammar = k.row_reads.fits; found = r.1 ∙ ap Some (sym k.row_reads.spelled) } },
      )

  all_told : (es : List (ValKey × Mark)) → AllByRecursion (HasTupleRow t) es → (xs : List StoredRow) × AreTold t es xs
  all_told [] a = ([], tt)
  all_told (e ∷ es) a =
      let x = row_told e a.0 in
      let xs = all_told es a.1 in
      (x.0 ∷ xs.0, (x.1, xs.1))

-- a row with its tuple is told in one way
made : ℕ → Tuple → Mark → StoredRow
made n u m = record { tid = n; tuple = u; mark = m }

one_told : (t : Tables) (e : ValKey × Mark) (x y : StoredRow) → IsTold t e x → IsTold t e y → x ≡ y
unfolding made
one_told t e x y a b =
    let tid : x.tid ≡ y.tid = a.tid ∙ sym b.tid in
    let there : tables.get t (place tuple_codec x.tid) ≡ Some (tuple_codec.row_bytes y.tuple) = ap (λ n. tables.get t (place tuple_codec n)) tid ∙ b.tuple.found in
    let tuple : x.tuple ≡ y.tuple = tuple_rows_are_one x.tuple y.tuple a.tuple.in_grammar b.tuple.in_grammar
    (same_some (tuple_codec.row_bytes x.tuple) (tuple_codec.row_bytes y.tuple) (sym a.tuple.found ∙ there)) in
    ap (λ n. made n x.tuple x.mark) tid ∙ ap (λ u. made y.tid u x.mark) tuple ∙ ap (λ m. made y.tid y.tuple m) (a.mark ∙ sym b.mark)

-- those that are explicit among all
abbrev pub is_explicit_row : StoredRow → Bool
is_explicit_row x = x.mark.1

explicit_is : (t : Tables) (es : List (ValKey × Mark)) (all xs : List StoredRow) → AreTold t es all → AreExplicitRows t es xs → xs ≡ filter is_explicit_row all
explicit_is t [] [] [] a h = refl
explicit_is t [] [] (x ∷ xs) a h = absurd h
explicit_is t [] (y ∷ ys) xs a h = absurd a
explicit_is t (e ∷ es) [] xs a h = absurd a
explicit_is t (e ∷ es) (y ∷ ys) xs a h = elim (cases_Bool e.1.1) [
  | inl c ↦ first (λ zs k. explicit_is t es ys zs a.1 k) xs (subst (λ ds. AreTold t ds xs) (cond-true e.1.1 (e ∷ filter is_explicit_entry es) (filter is_explicit_entry es) c) h)
      ∙ sym (cond-true y.mark.1 (y ∷ filter is_explicit_row ys) (filter is_explicit_row ys) (ap (λ (m : Mark). m.1) a.0.mark ∙ c))
  | inr c ↦ explicit_is t es ys xs a.1 (subst (λ ds. AreTold t ds xs) (cond-false e.1.1 (e ∷ filter is_explicit_entry es) (filter is_explicit_entry es) c) h)
      ∙ sym (cond-false y.mark.1 (y ∷ filter is_explicit_row ys) (filter is_explicit_row ys) (ap (λ (m : Mark). m.1) a.0.mark ∙ c))
]
  where
    first : ((zs : List StoredRow) → AreExplicitRows t es zs → zs ≡ filter is_explicit_row ys) → (zs : List StoredRow) → AreTold t (e ∷ filter is_explicit_entry es) zs → zs ≡ y ∷ filter is_explicit_row ys
    first more [] k = absurd k
    first more (z ∷ zs) k = ap (λ w. w ∷ zs) (one_told t e z y k.0 a.0) ∙ ap (λ l. y ∷ l) (more zs k.1)

-- explicit rows are the explicit ones of all rows of their group
pub record AmongAll (t : Tables) (prefix : List ℕ) (xs : List StoredRow) : Type 0 where
  pub all : List StoredRow
  pub read : AreReadUnder t prefix all
  pub are : xs ≡ filter is_explicit_row all

pub among_all : (t : Tables) (prefix : List ℕ) (xs : List StoredRow) → InGrammar t → HaveTuples t → AreExplicitUnder t prefix xs → AmongAll t prefix xs
among_all t prefix xs g h u =
    let all = all_told t g u.entries (have_tuples t u.entries h (entries_stand t prefix u.entries u.under)) in
    record {
      all = all.0;
      read = record { entries = u.entries; under = u.under; told = all.1 };
      are = explicit_is t u.entries all.0 xs all.1 u.told;
    }

-- ---- what holds of rows

pub unfiltered : {X : Type 0} (P : X → Type 0) (p : X → Bool) (xs : List X) → AllByRecursion P (filter p xs) → AllByRecursion (λ x. p x ≡ true → P x) xs
unfiltered P p [] a = tt
unfiltered P p (x ∷ xs) a = elim (cases_Bool (p x)) [
  | inl e ↦
      let b : P x × AllByRecursion P (filter p xs) = subst (AllByRecursion P) (cond-true (p x) (x ∷ filter p xs) (filter p xs) e) a in
      ((λ _. b.0), unfiltered P p xs b.1)
  | inr e ↦ ((λ f. absurd (false≢true (sym e ∙ f))), unfiltered P p xs (subst (AllByRecursion P) (cond-false (p x) (x ∷ filter p xs) (filter p xs) e) a))
]
