-- The changes that settle a world are at different places, and each alters its row.
use Rattle.std.proofs.Common.{◌≡◌, ◌≢◌, ◌∙◌, ℕ, Bool, true, false, not, nat_eq, List, [], ◌∷◌, length, Option, Some, None, MatchOption, inl, inr, map, refl, ap, sym, subst}
use Rattle.std.specs.List.{list_any, AllByRecursion}
use Rattle.std.specs.Option.{option_map}
use Rattle.std.specs.FinMap as tables
use Rattle.std.proofs.lemmas.Bool.{false≢true, cases_Bool, and_from, or_from, or_parts, not_from_false, false_from_ne_true, cond-true, cond-false, eq-eqb}
use Rattle.bdb_base.specs.Bases.{are_distinct}
use Rattle.bdb_base.specs.Causes.{Rises}
use Rattle.bdb_base.specs.Same.{same_text}
use Rattle.bdb_base.specs.SameLemmas.{same_text-Decides}
use Rattle.bdb_base.specs.declared.kinds.Value.{Value}
use Rattle.bdb_base.specs.declared.tuple.Tuple.{Tuple}
use Rattle.bdb_base.proofs.OptionLemmas.{none_is_some, same_some}
use Rattle.bdb_base.proofs.ListLemmas.{length_map}
use Rattle.bdb_keep.specs.Seen.{Seen}
use Rattle.bdb_keep.specs.Tables.{Tables}
use Rattle.bdb_key.specs.Grammar.{IsNum, AreKeyVals}
use Rattle.bdb_key.specs.Rows.{mark_bytes}
use Rattle.bdb_tables.specs.Codec.{HasAt, place}
use Rattle.bdb_tables.specs.Differences.{AreDifferences, AreReal}
use Rattle.bdb_tables.specs.InUse.{ValKey, val_bytes, link_codec, val_codec}
use Rattle.bdb_tables.specs.InUseLaws.{vals_are_one, mark_rows_are_one}
use Rattle.bdb_tables.specs.Marks.{Mark}
use Rattle.bdb_tables.specs.GroupMarks.{group_bytes}
use Rattle.bdb_tables.proofs.DifferenceLemmas.{changes_differ, differences_are_counted}
use Rattle.bdb_val.specs.Reads.{HasRows, AreReadUnder, is_of_group}
use Rattle.bdb_val.specs.Settling.{RowChange, mark_in, settling, numbers_are_apart, are_changes_apart, row_key, keyed}
use Rattle.bdb_val.specs.Steps.{AreBeginnings, IsSettling, IsStep, WritesDifferences, rows_made}
use Rattle.bdb_val.specs.declared.stored.SettledWorld.{SettledWorld}
use Rattle.bdb_val.proofs.ApartLemmas.{settling_is_apart}
use Rattle.bdb_val.proofs.ReadLemmas.{key_fits, read_apart, group_span}
use Rattle.bdb_val.proofs.SettlingLemmas.{settling_is_real}
use Rattle.bdb_val.proofs.StepLemmas.{IsOf, made_of, own_mark}

one_mark : (a b : Option Mark) → option_map mark_bytes a ≡ option_map mark_bytes b → a ≡ b
one_mark None None e = refl
one_mark None (Some n) e = absurd (none_is_some (mark_bytes n) e)
one_mark (Some m) None e = absurd (none_is_some (mark_bytes m) (sym e))
one_mark (Some m) (Some n) e = ap Some (mark_rows_are_one m n tt tt (same_some (mark_bytes m) (mark_bytes n) e))

pub tail_same : (n : ℕ) (j k : List ℕ) → n ∷ j ≡ n ∷ k → j ≡ k
tail_same n j k e = cc

module _ (keys : ℕ → ℕ) (tuple : ℕ → Option Tuple) (f : ValKey → Option Mark) (t : Tables) (h : HasRows keys tuple f t) (test : Tuple → Bool) (prefix : ℕ → List ℕ) (spans : AreBeginnings keys test prefix) (wid : ℕ) (w : IsNum wid) where
  -- changes of different numbers are at different places
  places_apart : (cs : List RowChange) → AllByRecursion (IsOf tuple test) cs → are_changes_apart cs ≡ true → are_distinct (map (λ x. place val_codec x.0) (map (keyed keys wid) cs)) ≡ true
  places_apart [] a e = refl
  places_apart (c ∷ cs) a e = elim (cases_Bool (list_any (λ y. nat_eq y.0 c.0) cs)) [
    | inl k ↦ absurd (false≢true (sym (cond-true (list_any (λ y. nat_eq y.0 c.0) cs) false (are_changes_apart cs) k) ∙ e))
    | inr k ↦ and_from (not (list_any (same_text here) (map (λ x. place val_codec x.0) (map (keyed keys wid) cs)))) (are_distinct (map (λ x. place val_codec x.0) (map (keyed keys wid) cs)))
        (not_from_false (list_any (same_text here) (map (λ x. place val_codec x.0) (map (keyed keys wid) cs))) (none cs a.1 k))
        (places_apart cs a.1 (sym (cond-false (list_any (λ y. nat_eq y.0 c.0) cs) false (are_changes_apart cs) k) ∙ e))
  ]
    where
      here : List ℕ
      here = place val_codec (row_key keys wid c.0 c.1)

      none : (ds : List RowChange) → AllByRecursion (IsOf tuple test) ds → list_any (λ y. nat_eq y.0 c.0) ds ≡ false → list_any (same_text here) (map (λ x. place val_codec x.0) (map (keyed keys wid) ds)) ≡ false
      none [] b q = refl
      none (d ∷ ds) b q =
          let p = or_parts (nat_eq d.0 c.0) (list_any (λ y. nat_eq y.0 c.0) ds) q in
          or_from (same_text here (place val_codec (row_key keys wid d.0 d.1))) (list_any (same_text here) (map (λ x. place val_codec x.0) (map (keyed keys wid) ds)))
          (false_from_ne_true (same_text here (place val_codec (row_key keys wid d.0 d.1))) (λ z.
          let same = tail_same 11 (val_bytes (row_key keys wid c.0 c.1)) (val_bytes (row_key keys wid d.0 d.1)) ((same_text-Decides here (place val_codec (row_key keys wid d.0 d.1))).0 z) in
          let one : row_key keys wid c.0 c.1 ≡ row_key keys wid d.0 d.1 =
          vals_are_one (row_key keys wid c.0 c.1) (row_key keys wid d.0 d.1) (key_fits keys tuple f t h wid c.0 c.1 w a.0.0) (key_fits keys tuple f t h wid d.0 d.1 w b.0.0) same in
          false≢true (sym p.0 ∙ eq-eqb d.0 c.0 (sym (ap (λ (y : ValKey). y.3) one)))))
          (none ds b.1 p.1)

  module _ (u : Tables) (link : Option ℕ) (l : MatchOption link (Unit {0}) IsNum) (s : IsSettling keys t u wid link prefix) where
    abbrev made : List RowChange
    made = settling keys s.own s.own s.from

    of : AllByRecursion (IsOf tuple test) made
    of = made_of keys tuple f t h test prefix spans u wid link w l s

    own_apart : numbers_are_apart s.own ≡ true
    own_apart = read_apart keys tuple f t h wid test (prefix wid) s.own (spans wid w) s.own_read

    from_apart : numbers_are_apart s.from ≡ true
    from_apart = go link l s.from_read
      where
        go : (o : Option ℕ) → MatchOption o (Unit {0}) IsNum → MatchOption o (s.from ≡ []) (λ m. AreReadUnder t (prefix m) s.from) → numbers_are_apart s.from ≡ true
        go None a b = ap numbers_are_apart b
        go (Some m) a b = read_apart keys tuple f t h m test (prefix m) s.from (spans m a) b

    altered : (cs : List RowChange) → AllByRecursion (IsOf tuple test) cs → AllByRecursion (λ x. mark_in s.own x.0 ≢ x.2) cs
        → AllByRecursion (λ x. tables.get t (place val_codec x.0) ≢ option_map val_codec.row_bytes x.1) (map (keyed keys wid) cs)
    altered [] a b = tt
    altered (c ∷ cs) a b = (
      (λ e. b.0 (own_mark keys tuple f t h test prefix spans u wid link w l s c.0 c.1 a.0.0 a.0.1
          ∙ one_mark (f (row_key keys wid c.0 c.1)) c.2 (sym (h.rows.rows (row_key keys wid c.0 c.1) (key_fits keys tuple f t h wid c.0 c.1 w a.0.0)) ∙ e))),
      altered cs a.1 b.1,
    )

    pub settling_real : AreReal val_codec t (rows_made keys wid s.own s.from)
    settling_real = record {
      apart = places_apart made of (settling_is_apart keys s.own s.own s.from own_apart own_apart from_apart);
      each = altered made of (settling_is_real keys s.own s.own s.from);
    }

    -- the places of the changes are those where the tables differ
    pub settling_differs : AreDifferences (tables.get t) (tables.get u) (map (λ x. place val_codec x.0) (rows_made keys wid s.own s.from))
    settling_differs = subst (λ v. AreDifferences (tables.get t) (tables.get v) (map (λ x. place val_codec x.0) (rows_made keys wid s.own s.from))) (sym s.written)
        (changes_differ val_codec t (rows_made keys wid s.own s.from) settling_real)

-- a step makes as many writes as there are places where the tables differ
pub step_writes : (keys : ℕ → ℕ) (old new : Seen) (wid rel : ℕ) (v : List Value) (s : SettledWorld) → IsNum wid → IsNum rel → AreKeyVals v → IsStep keys old new wid (λ w. group_bytes w rel v) s → WritesDifferences keys old new
step_writes keys old new wid rel v s w r p step tuple f h ps d =
    let spans = λ (m : ℕ) (n : IsNum m). group_span keys h.lengths m rel v n r p in
    let made = rows_made keys wid step.settling.own step.settling.from in
    let places = map (λ x. place val_codec x.0) made in
    let differ = settling_differs keys tuple f old.kept h (is_of_group keys rel v) (λ m. group_bytes m rel v) spans wid w new.kept step.link (fits step.link step.linked) step.settling in
    let same : length ps ≡ length made = differences_are_counted (tables.get old.kept) (tables.get new.kept) ps places d differ ∙ length_map (λ x. place val_codec x.0) made in
    subst (λ n. Rises n old.writes new.writes) (sym same) step.writes
  where
    fits : (o : Option ℕ) → HasAt link_codec old.kept wid o → MatchOption o (Unit {0}) IsNum
    fits None a = tt
    fits (Some m) a = a.in_grammar
