-- What each step of a change writes, and what it leaves.
use Rattle.std.proofs.Common.{◌≡◌, ◌≢◌, ◌∙◌, ℕ, ◌+◌, ◌*◌, ◌≤◌, Bool, true, false, not, ◌&&◌, ◌||◌, nat_eq, nat_le, cond, List, [], ◌∷◌, length, filter, Option, Some, None, refl, sym, ap, subst, arith, inl, inr}
use Rattle.std.specs.FinMap as tables
use Rattle.std.specs.Option.{option_map}
use Rattle.std.specs.Ordering.{eq_by_cmp}
use Rattle.std.proofs.lemmas.Bool.{cases_Bool, and_from, cond-false, cond-true, false≢true, false_from_ne_true, not-true, not_from_false, or_left, or_right}
use Rattle.std.proofs.lemmas.Bool.Decides.{nat_tests}
use Rattle.bdb_base.specs.Bases.{are_distinct}
use Rattle.bdb_base.specs.Causes.{Rises}
use Rattle.bdb_base.specs.Same.{same_text}
use Rattle.bdb_base.specs.SameLemmas.{same_text-Decides}
use Rattle.bdb_base.specs.declared.tuple.Tuple.{Tuple}
use Rattle.bdb_base.proofs.BoolLemmas.{not_twice}
use Rattle.bdb_base.proofs.OptionLemmas.{none_is_some}
use Rattle.bdb_keep.specs.Seen.{Seen}
use Rattle.bdb_keep.specs.Tables.{Tables, bytes_cmp}
use Rattle.bdb_keep.proofs.RowsLemmas.{same_place}
use Rattle.bdb_tables.specs.Codec.{Codec, place}
use Rattle.bdb_tables.specs.Differences.{AreDifferences}
use Rattle.bdb_tables.specs.InUse.{ValKey, tuple_codec, tuple_ix_codec, val_codec}
use Rattle.bdb_tables.specs.Marks.{Mark}
use Rattle.bdb_tables.specs.Writes.{with_change}
use Rattle.bdb_tables.proofs.DifferenceLemmas.{is_among}
use Rattle.bdb_tables.proofs.SameLemmas.{change_same}
use Rattle.bdb_tables.proofs.WriteLemmas.{get_after_change}
use Rattle.bdb_val.specs.Counts.{TellsDifferences}
use Rattle.bdb_val.specs.Others.{SamePlacesBut}
use Rattle.bdb_worlds.specs.Bounds.{EndsWithin}
use Rattle.bdb_worlds.specs.Bounds as states
use Rattle.bdb_worlds.specs.Growth.{SameOutside}
use Rattle.bdb_update.specs.Keeping.{KeepsTuples}
use Rattle.bdb_update.specs.Bounds.{RowWrites, StateWrites, WritesWithinMore, is_of_states, part_at}
use Rattle.bdb_update.specs.Joining.{is_of_tuples}
use Rattle.bdb_update.specs.Numbering.{number_put, number_taken}
use Rattle.bdb_update.specs.Tallies.{vals_at}
use Rattle.bdb_update.proofs.BetweenLemmas.{Look, differences_like, passing, rows_whole, whole_differences}
use Rattle.bdb_update.proofs.BoundLemmas.{states_over_rows}
use Rattle.bdb_update.proofs.CallLemmas.{IsQuiet}
use Rattle.bdb_update.proofs.TallyLemmas.{Places, all_filter, all_of, among_passing, fewer, filter_distinct, rows_alone, same_row, same_row_from, same_row_is}

-- ---- a table's changes alone

nowhere : (n : ℕ) (k : List ℕ) → [] ≡ n ∷ k → ⊥
nowhere n k e = cc

-- a change of a row leaves the places of all other tables
pub change_alone : {Key Row : Type 0} (c : Codec Key Row) (test : ℕ → Bool) (t : Tables) (x : Key × Option Row) → test c.number ≡ true → SamePlacesBut test t (with_change c t x)
change_alone c test t x here [] out =
    get_after_change c t x [] ∙ cond-false (eq_by_cmp bytes_cmp [] (place c x.0)) (option_map c.row_bytes x.1) (tables.get t [])
    (false_from_ne_true (eq_by_cmp bytes_cmp [] (place c x.0)) (λ e. nowhere c.number (c.key_bytes x.0) (same_place [] (place c x.0) e)))
change_alone c test t x here (n ∷ k) out = change_same c test t x here n k out

pub alone_then : (test : ℕ → Bool) (t u v : Tables) → SamePlacesBut test t u → SamePlacesBut test u v → SamePlacesBut test t v
alone_then test t u v a b q out = b q out ∙ a q out

pub number_alone : (t u : Tables) (tid : ℕ) (tuple : Tuple) → u ≡ number_put t tid tuple → SamePlacesBut is_of_tuples t u
number_alone t u tid tuple e =
    let m = with_change tuple_codec t (tid, Some tuple) in
    subst (λ (v : Tables). SamePlacesBut is_of_tuples t v) (sym e)
    (alone_then is_of_tuples t m (with_change tuple_ix_codec m (tuple, Some tid)) (change_alone tuple_codec is_of_tuples t (tid, Some tuple) refl) (change_alone tuple_ix_codec is_of_tuples m (tuple, Some tid) refl))

pub number_gone_alone : (t u : Tables) (tid : ℕ) (tuple : Tuple) → u ≡ number_taken t tid tuple → SamePlacesBut is_of_tuples t u
number_gone_alone t u tid tuple e =
    let m = with_change tuple_codec t (tid, None) in
    subst (λ (v : Tables). SamePlacesBut is_of_tuples t v) (sym e)
    (alone_then is_of_tuples t m (with_change tuple_ix_codec m (tuple, None)) (change_alone tuple_codec is_of_tuples t (tid, None) refl) (change_alone tuple_ix_codec is_of_tuples m (tuple, None) refl))

-- a number that was free takes no other's place
pub number_keeps : (t u : Tables) (tid : ℕ) (tuple : Tuple) → tables.get t (place tuple_codec tid) ≡ None → u ≡ number_put t tid tuple → KeepsTuples t u
number_keeps t u tid tuple free e k r found =
    let m = with_change tuple_codec t (tid, Some tuple) in
    let first : tables.get m (4 ∷ k) ≡ tables.get t (4 ∷ k) = get_after_change tuple_codec t (tid, Some tuple) (4 ∷ k)
    ∙ cond-false (eq_by_cmp bytes_cmp (4 ∷ k) (place tuple_codec tid)) (Some (tuple_codec.row_bytes tuple)) (tables.get t (4 ∷ k))
    (false_from_ne_true (eq_by_cmp bytes_cmp (4 ∷ k) (place tuple_codec tid)) (λ s. none_is_some r (sym free ∙ ap (tables.get t) (sym (same_place (4 ∷ k) (place tuple_codec tid) s)) ∙ found))) in
    ap (λ (v : Tables). tables.get v (4 ∷ k)) e ∙ change_alone tuple_ix_codec (λ n. nat_eq n 5) m (tuple, Some tid) refl (4 ∷ k) refl ∙ first ∙ found

-- where a number goes, each row of a tuple that is left stood before
pub number_stood : (t u : Tables) (tid : ℕ) (tuple : Tuple) → u ≡ number_taken t tid tuple → KeepsTuples u t
number_stood t u tid tuple e k r found =
    let m = with_change tuple_codec t (tid, None) in
    let is = eq_by_cmp bytes_cmp (4 ∷ k) (place tuple_codec tid) in
    let after : tables.get m (4 ∷ k) ≡ cond is None (tables.get t (4 ∷ k)) = get_after_change tuple_codec t (tid, None) (4 ∷ k) in
    let there : tables.get m (4 ∷ k) ≡ Some r =
    sym (ap (λ (v : Tables). tables.get v (4 ∷ k)) e ∙ change_alone tuple_ix_codec (λ n. nat_eq n 5) m (tuple, None) refl (4 ∷ k) refl) ∙ found in
    elim (cases_Bool is) [
      | inl same ↦ absurd (none_is_some r (sym (after ∙ cond-true is None (tables.get t (4 ∷ k)) same) ∙ there))
      | inr other ↦ sym (after ∙ cond-false is None (tables.get t (4 ∷ k)) other) ∙ there
    ]

-- a row's table alone has changed where a row of it did, and then its rows
pub row_alone : (t m u : Tables) (x : ValKey × Option Mark) → m ≡ with_change val_codec t x → SamePlacesBut rows_alone m u → SamePlacesBut rows_alone t u
row_alone t m u x e same = alone_then rows_alone t m u (subst (λ (v : Tables). SamePlacesBut rows_alone t v) (sym e) (change_alone val_codec rows_alone t x refl)) same

-- ---- a row is written, and then those that differ

-- look-ups that agree with others but at one place differ from third ones at no more than one place more
module _ (f g h : Look) (e : List ℕ) (like : (q : List ℕ) → same_text q e ≡ false → g q ≡ f q) (ps : Places) (d : AreDifferences f h ps) where
  abbrev away : List ℕ → Bool
  away q = not (same_text q e)

  abbrev differs : List ℕ → Bool
  differs q = not (same_row (g q) (h q))

  abbrev maybe : Places
  maybe = e ∷ filter away ps

  abbrev pub but_one : Places
  but_one = filter differs maybe

  once : are_distinct maybe ≡ true
  once = and_from (not (is_among e (filter away ps))) (are_distinct (filter away ps))
      (not_from_false (is_among e (filter away ps)) (false_from_ne_true (is_among e (filter away ps)) (λ a.
      false≢true (sym (not-true (same_text e e) (passing away e ps a)) ∙ (same_text-Decides e e).1 refl))))
      (filter_distinct away ps d.once)

  only : (q : List ℕ) → is_among q maybe ≡ false → g q ≡ h q
  only q out =
      let other : same_text q e ≡ false = false_from_ne_true (same_text q e) (λ a. false≢true (sym out ∙ or_left (same_text q e) (is_among q (filter away ps)) a)) in
      let none : is_among q ps ≡ false = false_from_ne_true (is_among q ps) (λ a.
      false≢true (sym out ∙ or_right (same_text q e) (is_among q (filter away ps)) (among_passing away q ps a (ap not other)))) in
      like q other ∙ d.only q none

  pub differ_but_one : AreDifferences g h but_one
  differ_but_one = record {
    once = filter_distinct differs maybe once;
    each = all_filter (λ q. g q ≢ h q) differs maybe (all_of (λ q. differs q ≡ true → g q ≢ h q) (λ q a s. false≢true (sym (ap not (same_row_from (g q) (h q) s)) ∙ a)) maybe);
    only = λ q out. elim (cases_Bool (differs q)) [
      | inr a ↦ same_row_is (g q) (h q) (sym (not_twice (same_row (g q) (h q))) ∙ ap not a)
      | inl a ↦ only q (false_from_ne_true (is_among q maybe) (λ b. false≢true (sym out ∙ among_passing differs q maybe b a)))
    ];
  }

  pub few_but_one : length but_one ≤ length ps + 1
  few_but_one = let a = fewer differs maybe in let b = fewer away ps in omega arith

module _ (old mid new : Seen) (x : ValKey × Option Mark) (put taken : ℕ) (made : mid.kept ≡ with_change val_codec old.kept x) (one : Rises 1 old.writes mid.writes) (later : mid.writes ≤ new.writes)
    (alone : SamePlacesBut rows_alone mid.kept new.kept) (tells : TellsDifferences mid new put taken) where
  like_before : (q : List ℕ) → same_text q (place val_codec x.0) ≡ false → vals_at mid.kept q ≡ vals_at old.kept q
  like_before [] out = refl
  like_before (n ∷ k) out =
      ap (λ (o : Option (List ℕ)). cond (nat_eq n 11) o None)
      (ap (λ (t : Tables). tables.get t (n ∷ k)) made ∙ get_after_change val_codec old.kept x (n ∷ k)
      ∙ cond-false (eq_by_cmp bytes_cmp (n ∷ k) (place val_codec x.0)) (option_map val_codec.row_bytes x.1) (tables.get old.kept (n ∷ k))
      (false_from_ne_true (eq_by_cmp bytes_cmp (n ∷ k) (place val_codec x.0)) (λ e.
      false≢true (sym out ∙ (same_text-Decides (n ∷ k) (place val_codec x.0)).1 (same_place (n ∷ k) (place val_codec x.0) e)))))

  -- a row is written, and its group settled
  pub row_then_group : RowWrites 2 old new
  row_then_group ps d small =
      let e = place val_codec x.0 in
      let qs = but_one (vals_at old.kept) (vals_at mid.kept) (vals_at new.kept) e like_before ps d in
      let diff = differ_but_one (vals_at old.kept) (vals_at mid.kept) (vals_at new.kept) e like_before ps d in
      let few = few_but_one (vals_at old.kept) (vals_at mid.kept) (vals_at new.kept) e like_before ps d in
      let w = (tells qs (rows_whole mid.kept new.kept qs alone diff)).writes small in
      let v = one (omega arith) in
      omega arith

-- ---- states are written, and then so many rows of worlds

outside_states : (n : ℕ) → not (is_of_tuples n || nat_eq n 11) ≡ false → (nat_le 6 n && nat_le n 10) ≡ false
outside_states n h = grind (arith, nat_tests)

pub states_then_rows : (d rows : ℕ) (old mid new : Seen) → states.WritesWithin (d + 2) old mid → SameOutside 6 10 old.kept mid.kept → SamePlacesBut rows_alone mid.kept new.kept → Rises rows mid.writes new.writes
    → mid.writes ≤ new.writes → StateWrites (d + 2) rows old new
states_then_rows d rows old mid new within outside alone rises later ps diff small =
    let of_states : AreDifferences (part_at is_of_states old.kept) (part_at is_of_states mid.kept) ps =
    differences_like (part_at is_of_states old.kept) (part_at is_of_states new.kept) (part_at is_of_states old.kept) (part_at is_of_states mid.kept) ps (λ q. refl)
    (λ q. sym (states_over_rows mid.kept new.kept alone q)) diff in
    let whole = whole_differences is_of_states old.kept mid.kept ps other of_states in
    let w = within ps whole (omega arith) in
    let r = rises small in
    omega arith
  where
    other : (q : List ℕ) → is_of_states q ≡ false → tables.get mid.kept q ≡ tables.get old.kept q
    other [] e = absurd (false≢true (sym e))
    other (n ∷ k) e = outside n k (outside_states n e)

-- ---- where tables were only read

pub still_within : (times more : ℕ) (old mid new : Seen) → mid.kept ≡ old.kept → mid.writes ≡ old.writes → WritesWithinMore times more mid new → WritesWithinMore times more old new
still_within times more old mid new kept writes h ps d =
    subst (λ n. EndsWithin (times * length ps + more) n new.writes) writes (h ps (subst (λ (t : Tables). AreDifferences (tables.get t) (tables.get new.kept) ps) (sym kept) d))

pub quiet_within : (times more : ℕ) (old mid new : Seen) → IsQuiet old mid → WritesWithinMore times more mid new → WritesWithinMore times more old new
quiet_within times more old mid new q h = still_within times more old mid new q.kept q.writes h

pub none_within : (times more : ℕ) (old new : Seen) → new.writes ≡ old.writes → WritesWithinMore times more old new
none_within times more old new e ps d small = omega (arith, e)
