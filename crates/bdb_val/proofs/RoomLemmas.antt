-- What a walk keeps stays that of its group.
use Rattle.std.proofs.Common.{◌≡◌, ◌∙◌, ℕ, zero, suc, true, nat_eq, List, [], ◌∷◌, get_or, Option, Some, None, cond, inl, inr, map, refl, ap, sym, subst}
use Rattle.std.specs.List.{AllByRecursion}
use Rattle.std.specs.Option.{option_map}
use Rattle.std.specs.Ordering.{eq_by_cmp}
use Rattle.std.specs.FinMap as tables
use Rattle.std.proofs.lemmas.Bool.{false≢true, cases_Bool, false_from_ne_true, cond-true, cond-false, eqb-true, eq-eqb}
use Rattle.bdb_base.specs.declared.kinds.Value.{Value}
use Rattle.bdb_base.specs.Segments.{is_prefix}
use Rattle.bdb_keep.specs.Tables.{Tables, bytes_cmp}
use Rattle.bdb_keep.proofs.RowsLemmas.{same_place}
use Rattle.bdb_key.specs.Bytes.{num_bytes}
use Rattle.bdb_key.specs.Grammar.{IsNum}
use Rattle.bdb_key.specs.Rows.{mark_bytes}
use Rattle.bdb_tables.specs.Codec.{place}
use Rattle.bdb_tables.specs.GroupMarks.{group_bytes, in_group}
use Rattle.bdb_tables.specs.InUse.{ValKey, val_bytes, val_codec}
use Rattle.bdb_tables.specs.Marks.{Mark}
use Rattle.bdb_tables.specs.Spans.{AreUnder}
use Rattle.bdb_tables.specs.Writes.{IsChange, with_change, with_changes}
use Rattle.bdb_tables.proofs.WriteLemmas.{get_after_change}
use Rattle.bdb_tables.proofs.ListLemmas.{prefix_append}
use Rattle.bdb_val.specs.Rooms.{AreHanded, AreRoomRows, AreSingle, HaveNone, IsNoted, IsRoomFor, unless_from}
use Rattle.bdb_val.proofs.ReadLemmas.{world_of_group}
use Rattle.bdb_val.proofs.RealLemmas.{tail_same}

-- ---- the rows that are handed down

module _ (rel : ℕ) (v : List Value) (wid m : ℕ) (n : IsNum m) (other : wid ≡ m → ⊥) where
  -- a change of another world's row
  change_apart : (t : Tables) (x : ℕ × Option Mark) → IsChange val_codec (in_group wid rel v x) → (q : List ℕ) → is_prefix (group_bytes m rel v) q ≡ true
      → tables.get (with_change val_codec t (in_group wid rel v x)) (11 ∷ q) ≡ tables.get t (11 ∷ q)
  change_apart t x c q begins =
      let key : ValKey = (wid, rel, v, x.0) in
      get_after_change val_codec t (in_group wid rel v x) (11 ∷ q)
      ∙ ap (λ b. cond b (option_map val_codec.row_bytes x.1) (tables.get t (11 ∷ q)))
      (false_from_ne_true (eq_by_cmp bytes_cmp (11 ∷ q) (place val_codec key)) (λ e.
      let same : q ≡ val_bytes key = tail_same 11 q (val_bytes key) (same_place (11 ∷ q) (place val_codec key) e) in
      other (world_of_group m rel v n key c.key (ap (is_prefix (group_bytes m rel v)) (sym same) ∙ begins))))

  changes_apart : (cs : List (ℕ × Option Mark)) (t : Tables) → AllByRecursion (IsChange val_codec) (map (in_group wid rel v) cs) → (q : List ℕ) → is_prefix (group_bytes m rel v) q ≡ true
      → tables.get (with_changes val_codec t (map (in_group wid rel v) cs)) (11 ∷ q) ≡ tables.get t (11 ∷ q)
  changes_apart [] t c q begins = refl
  changes_apart (x ∷ xs) t c q begins = changes_apart xs (with_change val_codec t (in_group wid rel v x)) c.1 q begins ∙ change_apart t x c.0 q begins

-- rows of another world stay
rows_stay : (t u : Tables) (wid rel m : ℕ) (v : List Value) (rows : List (ℕ × Mark)) (cs : List (ℕ × Option Mark)) → AllByRecursion (IsChange val_codec) (map (in_group wid rel v) cs)
    → u ≡ with_changes val_codec t (map (in_group wid rel v) cs) → (wid ≡ m → ⊥) → AreRoomRows t rel v rows m → AreRoomRows u rel v rows m
rows_stay t u wid rel m v rows cs c w other h = record {
  world = h.world;
  under = record {
    each = h.under.each;
    sorted = h.under.sorted;
    found = λ q begins. ap (λ (x : Tables). tables.get x (11 ∷ q)) w ∙ changes_apart rel v wid m h.world other cs t c q begins ∙ h.under.found q begins;
  };
}

-- rows that are kept stay those of their world, unless that world's change
pub handed_stay : (t u : Tables) (wid rel : ℕ) (v : List Value) (from : Option ℕ) (rows : List (ℕ × Mark)) (cs : List (ℕ × Option Mark))
    → AllByRecursion (IsChange val_codec) (map (in_group wid rel v) cs) → u ≡ with_changes val_codec t (map (in_group wid rel v) cs) → AreHanded t rel v from rows → AreHanded u rel v (unless_from wid from) rows
handed_stay t u wid rel v None rows cs c w h = tt
handed_stay t u wid rel v (Some m) rows cs c w h = elim (cases_Bool (nat_eq m wid)) [
  | inl e ↦ subst (λ o. AreHanded u rel v o rows) (sym (cond-true (nat_eq m wid) None (Some m) e)) tt
  | inr e ↦ subst (λ o. AreHanded u rel v o rows) (sym (cond-false (nat_eq m wid) None (Some m) e)) (rows_stay t u wid rel m v rows cs c w (λ k. false≢true (sym e ∙ eq-eqb m wid (sym k))) h)
]

-- ---- worlds with one row

-- a row that a world gets which has none is its only one
only_row : (t u : Tables) (wid rel : ℕ) (v : List Value) (row : ℕ × Mark) → IsNum wid → AreUnder val_codec t (group_bytes wid rel v) [] → IsChange val_codec (in_group wid rel v (row.0, Some row.1))
    → u ≡ with_change val_codec t (in_group wid rel v (row.0, Some row.1)) → AreRoomRows u rel v (row ∷ []) wid
only_row t u wid rel v row n none fits w =
    let key : ValKey = (wid, rel, v, row.0) in
    record {
      world = n;
      under = record {
        each = (record { key = fits.key; row = tt; begins = prefix_append (group_bytes wid rel v) (num_bytes row.0) }, tt);
        sorted = refl;
        found = λ q begins. ap (λ (x : Tables). tables.get x (11 ∷ q)) w ∙ get_after_change val_codec t (in_group wid rel v (row.0, Some row.1)) (11 ∷ q)
            ∙ ap (cond (eq_by_cmp bytes_cmp q (val_bytes key)) (Some (mark_bytes row.1))) (none.found q begins);
      };
    }

-- the only rows that are kept are those of their worlds, also after a world's change
pub singles_after : (t u : Tables) (wid rel : ℕ) (v : List Value) (own : List (ℕ × Mark)) (cs : List (ℕ × Option Mark)) (old new : List (Option (ℕ × Mark))) → IsNum wid
    → AreUnder val_codec t (group_bytes wid rel v) (map (in_group wid rel v) own) → AllByRecursion (IsChange val_codec) (map (in_group wid rel v) cs) → u ≡ with_changes val_codec t (map (in_group wid rel v) cs)
    → IsNoted wid own cs old new → AreSingle t rel v old → AreSingle u rel v new
singles_after t u wid rel v own cs old new n under c w noted h m row e = elim (cases_Bool (nat_eq wid m)) [
  | inl same ↦
      let is : wid ≡ m = eqb-true wid m same in
      let given = noted.given row (ap (λ (k : ℕ). get_or new k None) is ∙ e) in
      subst (AreRoomRows u rel v (row ∷ [])) is (only_row t u wid rel v row n
      (subst (λ (xs : List (ℕ × Mark)). AreUnder val_codec t (group_bytes wid rel v) (map (in_group wid rel v) xs)) given.0 under)
      (subst (λ (xs : List (ℕ × Option Mark)). AllByRecursion (IsChange val_codec) (map (in_group wid rel v) xs)) given.1 c).0
      (w ∙ ap (λ (xs : List (ℕ × Option Mark)). with_changes val_codec t (map (in_group wid rel v) xs)) given.1))
  | inr apart ↦
      let other : wid ≡ m → ⊥ = λ k. false≢true (sym apart ∙ eq-eqb wid m k) in
      rows_stay t u wid rel m v (row ∷ []) cs c w other (h m row (sym (noted.others m other) ∙ e))
]

none_some : (row : ℕ × Mark) → None ≡ Some row → ⊥
none_some row e = cc

none_stands : (singles : List (Option (ℕ × Mark))) → HaveNone singles → (i : ℕ) (row : ℕ × Mark) → get_or singles i None ≡ Some row → ⊥
none_stands [] h i row e = none_some row e
none_stands (s ∷ singles) h zero row e = none_some row (sym h.0 ∙ e)
none_stands (s ∷ singles) h (suc i) row e = none_stands singles h.1 i row e

none_single : (t : Tables) (rel : ℕ) (v : List Value) (singles : List (Option (ℕ × Mark))) → HaveNone singles → AreSingle t rel v singles
none_single t rel v singles h wid row e = absurd (none_stands singles h wid row e)

-- ---- room

-- room with nothing in it
pub bare_room : (t : Tables) (rel : ℕ) (v : List Value) (prefix : List ℕ) (from : Option ℕ) (rows : List (ℕ × Mark)) (singles : List (Option (ℕ × Mark))) → prefix ≡ [] → from ≡ None → HaveNone singles
    → IsRoomFor t rel v prefix from rows singles
bare_room t rel v prefix from rows singles b e n = record { begins = inl b; handed = subst (λ o. AreHanded t rel v o rows) (sym e) tt; singles_are = none_single t rel v singles n }

-- a read leaves room as it is
pub same_room : (t u : Tables) (rel : ℕ) (v : List Value) (prefix : List ℕ) (from : Option ℕ) (rows : List (ℕ × Mark)) (singles : List (Option (ℕ × Mark))) → u ≡ t → IsRoomFor t rel v prefix from rows singles
    → IsRoomFor u rel v prefix from rows singles
same_room t u rel v prefix from rows singles e h = subst (λ (x : Tables). IsRoomFor x rel v prefix from rows singles) (sym e) h
