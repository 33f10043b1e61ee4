-- How many rows go where a statement leaves.
use Rattle.std.proofs.Common.{◌≡◌, ◌≢◌, ◌∙◌, ℕ, suc, ◌-◌, ◌^◌, ◌<◌, Bool, true, false, not, ◌||◌, nat_eq, cond, List, [], ◌∷◌, length, filter, Option, Some, None, is_some, refl, sym, ap, subst, arith, inl, inr}
use Rattle.std.specs.List.{AllByRecursion}
use Rattle.std.specs.Option.{option_map}
use Rattle.std.specs.Ordering.{eq_by_cmp, is_eq}
use Rattle.std.specs.FinMap as tables
use Rattle.std.proofs.lemmas.Bool.{cases_Bool, and_parts, false≢true, false_from_ne_true, or_left, or_right, or_cases, cond-true, cond-false, eqb-true, not-true, not-false}
use Rattle.bdb_base.specs.Bases.{are_distinct}
use Rattle.bdb_base.specs.Same.{same_text}
use Rattle.bdb_base.specs.SameLemmas.{same_text-Decides}
use Rattle.bdb_base.proofs.ListLemmas.{filter_kept_one, filter_dropped_one}
use Rattle.bdb_base.proofs.UserLemmas.{distinct_filter}
use Rattle.bdb_keep.specs.Seen.{Seen}
use Rattle.bdb_keep.specs.Tables.{Tables, bytes_cmp}
use Rattle.bdb_keep.proofs.RowsLemmas.{same_place}
use Rattle.bdb_key.proofs.Forms.{tied}
use Rattle.bdb_tables.specs.Codec.{place}
use Rattle.bdb_tables.specs.InUse.{ValKey, val_codec}
use Rattle.bdb_tables.specs.Marks.{Mark}
use Rattle.bdb_tables.specs.Writes.{Gives, with_change}
use Rattle.bdb_tables.proofs.DifferenceLemmas.{is_among}
use Rattle.bdb_tables.proofs.WriteLemmas.{get_after_change}
use Rattle.bdb_val.specs.Counts.{TellsDifferences}
use Rattle.bdb_val.specs.Others.{SamePlacesBut}
use Rattle.bdb_val.specs.WorldCopies.{rows_cleared}
use Rattle.bdb_update.specs.Parting.{HasRowsLess}
use Rattle.bdb_update.specs.Tallies.{HasRowCount, vals_at, nothing_at}
use Rattle.bdb_update.proofs.TallyLemmas.{fewer, told_balance}

-- ---- those of some places that pass a test

passing_among : (p : List ℕ → Bool) (q : List ℕ) (xs : List (List ℕ)) → is_among q xs ≡ true → p q ≡ true → is_among q (filter p xs) ≡ true
passing_among p q [] h e = h
passing_among p q (x ∷ xs) h e = elim (or_cases (same_text q x) (is_among q xs) h) [
  | inl a ↦
      let same : q ≡ x = (same_text-Decides q x).0 a in
      ap (is_among q) (filter_kept_one p x xs (ap p (sym same) ∙ e)) ∙ or_left (same_text q x) (is_among q (filter p xs)) a
  | inr a ↦ elim (cases_Bool (p x)) [
    | inl k ↦ ap (is_among q) (filter_kept_one p x xs k) ∙ or_right (same_text q x) (is_among q (filter p xs)) (passing_among p q xs a e)
    | inr k ↦ ap (is_among q) (filter_dropped_one p x xs k) ∙ passing_among p q xs a e
  ]
]

passing_each : (P Q : List ℕ → Type 0) (p : List ℕ → Bool) → ((x : List ℕ) → P x → p x ≡ true → Q x) → (xs : List (List ℕ)) → AllByRecursion P xs → AllByRecursion Q (filter p xs)
passing_each P Q p h [] a = tt
passing_each P Q p h (x ∷ xs) a = elim (cases_Bool (p x)) [
  | inl e ↦ subst (AllByRecursion Q) (sym (filter_kept_one p x xs e)) (h x a.0 e, passing_each P Q p h xs a.1)
  | inr e ↦ subst (AllByRecursion Q) (sym (filter_dropped_one p x xs e)) (passing_each P Q p h xs a.1)
]

-- tables have no row but at places that had one, and have none there where a test fails
some_rows : (t u : Tables) (n : ℕ) (test : List ℕ → Bool) (c : HasRowCount t n) → ((q : List ℕ) → vals_at t q ≢ None → test q ≡ true → vals_at u q ≢ None)
    → ((q : List ℕ) → test q ≡ false → vals_at u q ≡ None) → ((q : List ℕ) → vals_at t q ≡ None → vals_at u q ≡ None) → HasRowCount u (length (filter test c.places))
some_rows t u n test c stays goes old = record {
  places = filter test c.places;
  are = record {
    once = distinct_filter test c.places c.are.once;
    each = passing_each (λ q. vals_at t q ≢ nothing_at q) (λ q. vals_at u q ≢ nothing_at q) test (λ q a e. stays q a e) c.places c.are.each;
    only = λ q out. elim (cases_Bool (test q)) [
      | inr e ↦ goes q e
      | inl e ↦ old q (c.are.only q (false_from_ne_true (is_among q c.places) (λ a. false≢true (sym out ∙ passing_among test q c.places a e))))
    ];
  };
  many = refl;
}

-- ---- one row goes

none_away : (p : List ℕ) (xs : List (List ℕ)) → is_among p xs ≡ false → filter (λ q. not (same_text p q)) xs ≡ xs
none_away p [] h = refl
none_away p (x ∷ xs) h =
    let a : same_text p x ≡ false = false_from_ne_true (same_text p x) (λ e. false≢true (sym h ∙ or_left (same_text p x) (is_among p xs) e)) in
    let b : is_among p xs ≡ false = false_from_ne_true (is_among p xs) (λ e. false≢true (sym h ∙ or_right (same_text p x) (is_among p xs) e)) in
    filter_kept_one (λ q. not (same_text p q)) x xs (ap not a) ∙ ap (λ zs. x ∷ zs) (none_away p xs b)

one_away : (p : List ℕ) (xs : List (List ℕ)) → are_distinct xs ≡ true → is_among p xs ≡ true → length xs ≡ suc (length (filter (λ q. not (same_text p q)) xs))
one_away p [] d h = absurd (false≢true h)
one_away p (x ∷ xs) d h =
    let k = and_parts (not (is_among x xs)) (are_distinct xs) d in
    elim (cases_Bool (same_text p x)) [
      | inl e ↦
          let same : p ≡ x = (same_text-Decides p x).0 e in
          let none : is_among p xs ≡ false = ap (λ z. is_among z xs) same ∙ not-true (is_among x xs) k.0 in
          ap suc (sym (ap length (filter_dropped_one (λ q. not (same_text p q)) x xs (ap not e) ∙ none_away p xs none)))
      | inr e ↦
          let there : is_among p xs ≡ true = sym (ap (λ b. b || is_among p xs) e) ∙ h in
          ap suc (one_away p xs k.1 there ∙ sym (ap length (filter_kept_one (λ q. not (same_text p q)) x xs (ap not e))))
    ]

-- so many rows, and one that goes
pub record HasOneLess (u : Tables) (n : ℕ) : Type 0 where
  pub left : ℕ
  pub rows : HasRowCount u left
  pub one : n ≡ suc left

at_row : (t : Tables) (k : ValKey) → vals_at t (place val_codec k) ≡ tables.get t (place val_codec k)
at_row t k = refl

abbrev no_bytes : Option (List ℕ)
no_bytes = None

none_either : (b : Bool) → cond b no_bytes no_bytes ≡ no_bytes
none_either true = refl
none_either false = refl

pub one_row_less : (t : Tables) (k : ValKey) (n : ℕ) → HasRowCount t n → is_some (tables.get t (place val_codec k)) ≡ true → HasOneLess (with_change val_codec t (k, None)) n
one_row_less t k n c there =
    let p = place val_codec k in
    let u = with_change val_codec t (k, None) in
    let test : List ℕ → Bool = λ q. not (same_text p q) in
    let among : is_among p c.places ≡ true = by (is_among p c.places) refl in
    record {
      left = length (filter test c.places);
      rows = some_rows t u n test c (λ q a e b. a (sym (stays q e) ∙ b)) goes (λ q e. old q e);
      one = c.many ∙ one_away p c.places c.are.once among;
    }
  where
    by : (b : Bool) → is_among (place val_codec k) c.places ≡ b → is_among (place val_codec k) c.places ≡ true
    by true e = e
    by false e = absurd (false≢true (sym (ap is_some (sym (at_row t k) ∙ c.are.only (place val_codec k) e)) ∙ there))

    after : (q : List ℕ) → tables.get (with_change val_codec t (k, None)) q ≡ cond (eq_by_cmp bytes_cmp q (place val_codec k)) None (tables.get t q)
    after q = get_after_change val_codec t (k, None) q

    vals_alike : (q : List ℕ) → tables.get (with_change val_codec t (k, None)) q ≡ tables.get t q → vals_at (with_change val_codec t (k, None)) q ≡ vals_at t q
    vals_alike [] e = refl
    vals_alike (n ∷ j) e = ap (λ o. cond (nat_eq n 11) o None) e

    stays : (q : List ℕ) → not (same_text (place val_codec k) q) ≡ true → vals_at (with_change val_codec t (k, None)) q ≡ vals_at t q
    stays q e = vals_alike q (after q ∙ cond-false (eq_by_cmp bytes_cmp q (place val_codec k)) None (tables.get t q)
        (false_from_ne_true (eq_by_cmp bytes_cmp q (place val_codec k)) (λ c. false≢true (sym (not-true (same_text (place val_codec k) q) e) ∙ (same_text-Decides (place val_codec k) q).1 (sym (same_place q (place val_codec k) c))))))

    gone_at : (q : List ℕ) → q ≡ place val_codec k → tables.get (with_change val_codec t (k, None)) q ≡ None
    gone_at q e = after q ∙ cond-true (eq_by_cmp bytes_cmp q (place val_codec k)) None (tables.get t q) (ap is_eq (tied q (place val_codec k) e))

    none_there : (q : List ℕ) → tables.get (with_change val_codec t (k, None)) q ≡ None → vals_at (with_change val_codec t (k, None)) q ≡ None
    none_there [] e = refl
    none_there (n ∷ j) e = ap (λ o. cond (nat_eq n 11) o None) e ∙ none_either (nat_eq n 11)

    goes : (q : List ℕ) → not (same_text (place val_codec k) q) ≡ false → vals_at (with_change val_codec t (k, None)) q ≡ None
    goes q e = none_there q (gone_at q (sym ((same_text-Decides (place val_codec k) q).0 (not-false (same_text (place val_codec k) q) e))))

    old : (q : List ℕ) → vals_at t q ≡ None → vals_at (with_change val_codec t (k, None)) q ≡ None
    old q e = elim (cases_Bool (same_text (place val_codec k) q)) [
      | inl a ↦ goes q (ap not a)
      | inr a ↦ stays q (ap not a) ∙ e
    ]

-- ---- a world's rows go

there_too : (t u : Tables) (f : ValKey → Option Mark) (wid : ℕ) → Gives val_codec t f → Gives val_codec u (rows_cleared f wid) → (q : List ℕ) → vals_at t q ≡ None → vals_at u q ≡ None
there_too t u f wid g h [] e = refl
there_too t u f wid g h (n ∷ j) e = elim (cases_Bool (nat_eq n 11)) [
  | inr away ↦ cond-false (nat_eq n 11) (tables.get u (n ∷ j)) None away
  | inl at ↦ cond-true (nat_eq n 11) (tables.get u (n ∷ j)) None at ∙ none (tables.get u (n ∷ j)) refl (eqb-true n 11 at) (sym (cond-true (nat_eq n 11) (tables.get t (n ∷ j)) None at) ∙ e)
]
  where
    kept : (k : ValKey) → is_some (rows_cleared f wid k) ≡ true → is_some (f k) ≡ true
    kept k s = by (nat_eq k.0 wid) s
      where
        by : (b : Bool) → is_some (cond b None (f k)) ≡ true → is_some (f k) ≡ true
        by true s = absurd (false≢true s)
        by false s = s

    stands : (o : Option Mark) (r : List ℕ) → option_map val_codec.row_bytes o ≡ Some r → is_some o ≡ true
    stands None r e = absurd cc
    stands (Some m) r e = refl

    bytes : (o : Option Mark) → is_some o ≡ true → is_some (option_map val_codec.row_bytes o) ≡ true
    bytes None s = absurd (false≢true s)
    bytes (Some m) s = refl

    none : (o : Option (List ℕ)) → tables.get u (n ∷ j) ≡ o → n ≡ 11 → tables.get t (n ∷ j) ≡ None → tables.get u (n ∷ j) ≡ None
    none None a i b = a
    none (Some r) a i b =
        let entry = h.fits j r (ap (λ m. tables.get u (m ∷ j)) (sym i) ∙ a) in
        let spelled : place val_codec entry.key ≡ n ∷ j = ap (λ z. 11 ∷ z) entry.key_reads.spelled ∙ ap (λ m. m ∷ j) (sym i) in
        let s = kept entry.key (stands (rows_cleared f wid entry.key) r (sym (h.rows entry.key entry.key_reads.fits) ∙ ap (tables.get u) spelled ∙ a)) in
        absurd (false≢true (sym (ap is_some b) ∙ ap is_some (ap (tables.get t) (sym spelled) ∙ g.rows entry.key entry.key_reads.fits) ∙ bytes (f entry.key) s))

pub world_rows_less : (old new : Seen) (f : ValKey → Option Mark) (wid n gone : ℕ) → Gives val_codec old.kept f → Gives val_codec new.kept (rows_cleared f wid) → HasRowCount old.kept n → n < 2 ^ 64 - 1
    → SamePlacesBut (λ m. nat_eq m 11) old.kept new.kept → TellsDifferences old new 0 gone → HasRowsLess new.kept n gone
world_rows_less old new f wid n gone g h c l same tells =
    let test : List ℕ → Bool = λ q. is_some (vals_at new.kept q) in
    let left = length (filter test c.places) in
    let rows : HasRowCount new.kept left = some_rows old.kept new.kept n test c (λ q a e b. false≢true (sym (ap is_some b) ∙ e)) (λ q e. none_is (vals_at new.kept q) e)
    (there_too old.kept new.kept f wid g h) in
    let few = fewer test c.places in
    let many = c.many in
    let told = told_balance old new n left 0 gone same c rows l (omega arith) tells in
    let e = told.balance in
    record { left = left; rows = rows; balance = omega arith }
  where
    none_is : (o : Option (List ℕ)) → is_some o ≡ false → o ≡ None
    none_is None e = refl
    none_is (Some x) e = absurd (false≢true (sym e))
