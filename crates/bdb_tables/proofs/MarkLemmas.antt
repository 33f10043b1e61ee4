-- Rows of table 11 by the numbers of their tuples, and the rows of a group as a table of their own.
use Rattle.std.proofs.Common.{◌≡◌, ℕ, ◌+◌, ◌-◌, ◌≤◌, true, List, [], ◌∷◌, ◌++◌, Option, Some, None, map, length, drop, refl, sym, ap, subst, ◌∙◌, arith, length-append}
use Rattle.std.specs.List.{AllByRecursion}
use Rattle.std.proofs.Math.Seq.{drop-append_seam}
use Rattle.std.specs.Option.{option_map}
use Rattle.bdb_base.specs.declared.kinds.Value.{Value}
use Rattle.bdb_base.specs.Segments.{is_prefix}
use Rattle.bdb_base.proofs.OptionLemmas.{none_is_some, same_some}
use Rattle.bdb_keep.specs.Tables.{Tables}
use Rattle.bdb_key.proofs.Alone.{one_num}
use Rattle.bdb_key.proofs.Readings.{num_form}
use Rattle.bdb_key.specs.Bytes.{num_bytes, vals_bytes}
use Rattle.bdb_key.specs.Grammar.{IsNum, AreKeyVals}
use Rattle.bdb_key.specs.Reading.{Reads}
use Rattle.bdb_key.specs.Rows.{IsAnyMark, mark_bytes}
use Rattle.bdb_tables.specs.Codec.{IsEntryOf, IsRowOf, HasAt}
use Rattle.bdb_tables.specs.Grammar.{IsEntry}
use Rattle.bdb_tables.specs.GroupMarks.{group_bytes, IsGroup, in_group, numbered, AreMarks, AreNumbered, HasMark, HaveMarks, AreChanges, AreNumberBytes, IsNumbered, marks_codec}
use Rattle.bdb_tables.specs.InUse.{ValKey, IsValKey, val_bytes, val_codec}
use Rattle.bdb_tables.specs.Marks.{Mark}
use Rattle.bdb_tables.specs.Spans.{IsUnder, AreUnder}
use Rattle.bdb_tables.specs.Writes.{IsChange, with_change, with_changes}
use Rattle.bdb_tables.specs.InUseLaws.{mark_rows_are_one}
use Rattle.bdb_tables.proofs.PartLemmas.{vals_form}
use Rattle.bdb_tables.proofs.ListLemmas.{prefix_rest}

-- ---- one group, whose keys begin with its own bytes

module _ (w r : ℕ) (v : List Value) (wn : IsNum w) (rn : IsNum r) (vp : AreKeyVals v) where
  key_of : (n : ℕ) → IsNum n → IsValKey (w, r, v, n)
  key_of n f = record { world = wn; rel = rn; key = vp; tuple = f }

  -- a key that begins with the group's bytes is the group's
  key_is : (k : ValKey) → IsValKey k → is_prefix (group_bytes w r v) (val_bytes k) ≡ true → (w, r, v, k.3) ≡ k
  key_is k f begins =
      let rest = prefix_rest (group_bytes w r v) (val_bytes k) begins in
      let one = num_form k.0 w (num_bytes k.1 ++ vals_bytes k.2 ++ num_bytes k.3) (num_bytes r ++ vals_bytes v ++ rest.0) f.world wn rest.1 in
      let two = num_form k.1 r (vals_bytes k.2 ++ num_bytes k.3) (vals_bytes v ++ rest.0) f.rel rn one.1 in
      let three = vals_form k.2 v (num_bytes k.3) rest.0 f.key vp two.1 in
      ap (λ (x : ℕ). (x, r, v, k.3)) (sym one.0) ∙ ap (λ (x : ℕ). (k.0, x, v, k.3)) (sym two.0) ∙ ap (λ (x : List Value). (k.0, k.1, x, k.3)) (sym three.0)

  all_in_group : (es : List (ValKey × Mark)) → AllByRecursion (IsUnder val_codec (group_bytes w r v)) es → es ≡ map (in_group w r v) (map numbered es)
  all_in_group [] h = refl
  all_in_group (e ∷ es) h =
      ap (λ (k : ValKey). (k, e.1) ∷ es) (sym (key_is e.0 h.0.key h.0.begins)) ∙ ap (λ (l : List (ValKey × Mark)). ((w, r, v, e.0.3), e.1) ∷ l) (all_in_group es h.1)

  numbered_in_group : (t : Tables) (xs : List (ℕ × Mark)) → AreNumbered t (group_bytes w r v) xs → AreUnder val_codec t (group_bytes w r v) (map (in_group w r v) xs)
  numbered_in_group t xs h =
      subst (AreUnder val_codec t (group_bytes w r v)) (all_in_group h.entries h.under.each ∙ ap (map (in_group w r v)) (sym h.are)) h.under

  entry_back : (k row : List ℕ) → IsEntryOf (marks_codec (group_bytes w r v)) k row → IsEntryOf val_codec k row
  entry_back k row e = record {
    key = (w, r, v, e.key);
    row = e.row;
    key_reads = record { fits = key_of e.key e.key_reads.fits; spelled = e.key_reads.spelled };
    row_reads = e.row_reads;
  }

  changes_lifted : (t : Tables) (xs : List (ℕ × Option Mark)) → with_changes (marks_codec (group_bytes w r v)) t xs ≡ with_changes val_codec t (map (in_group w r v) xs)
  changes_lifted t [] = refl
  changes_lifted t (x ∷ xs) = changes_lifted (with_change val_codec t (in_group w r v x)) xs

  fits_lifted : (xs : List (ℕ × Option Mark)) → AllByRecursion (IsChange (marks_codec (group_bytes w r v))) xs → AllByRecursion (IsChange val_codec) (map (in_group w r v) xs)
  fits_lifted [] h = tt
  fits_lifted (x ∷ xs) h = (record { key = key_of x.0 h.0.key; row = h.0.row }, fits_lifted xs h.1)

  at_lifted : (t : Tables) (tid : ℕ) (found : Option Mark) → HasAt (marks_codec (group_bytes w r v)) t tid found → HasAt val_codec t (w, r, v, tid) found
  at_lifted t tid None h = h
  at_lifted t tid (Some m) h = record { in_grammar = h.in_grammar; found = h.found }

-- ---- the group whose keys begin so

pub are_marks : (t : Tables) (p : List ℕ) (xs : List (ℕ × Mark)) → AreNumbered t p xs → AreMarks t p xs
are_marks t p xs h w r v g =
    subst (λ q. AreUnder val_codec t q (map (in_group w r v) xs)) (sym g.bytes)
    (numbered_in_group w r v g.world g.rel g.key t xs (subst (λ q. AreNumbered t q xs) g.bytes h))

pub has_mark : (t : Tables) (p : List ℕ) (tid : ℕ) (found : Option Mark) → HasAt (marks_codec p) t tid found → HasMark t p tid found
has_mark t p tid found h w r v g = at_lifted w r v g.world g.rel g.key t tid found (subst (λ q. HasAt (marks_codec q) t tid found) g.bytes h)

pub have_marks : (t u : Tables) (p : List ℕ) (xs : List (ℕ × Option Mark)) → u ≡ with_changes (marks_codec p) t xs → HaveMarks t u p xs
have_marks t u p xs e w r v g = e ∙ ap (λ q. with_changes (marks_codec q) t xs) g.bytes ∙ changes_lifted w r v g.world g.rel g.key t xs

pub are_changes : (p : List ℕ) (xs : List (ℕ × Option Mark)) → AllByRecursion (IsChange (marks_codec p)) xs → AreChanges p xs
are_changes p xs h w r v g = fits_lifted w r v g.world g.rel g.key xs (subst (λ q. AllByRecursion (IsChange (marks_codec q)) xs) g.bytes h)

pub entry_in_table : (p : List ℕ) → IsGroup p → (k row : List ℕ) → IsEntryOf (marks_codec p) k row → IsEntry 11 k row
entry_in_table p g k row e =
    entry_back g.world g.rel g.key g.begins.world g.begins.rel g.begins.key k row (subst (λ q. IsEntryOf (marks_codec q) k row) g.begins.bytes e)

-- ---- rows by the numbers of their tuples

pub is_mark_row : (key row : List ℕ) → IsEntryOf val_codec key row → IsRowOf val_codec row
is_mark_row key row e = (e.row, e.row_reads)

pub long_enough : (k : ValKey) → 4 ≤ length (val_bytes k)
long_enough k =
    let whole : length (val_bytes k) ≡ length (num_bytes k.0 ++ num_bytes k.1 ++ vals_bytes k.2) + 4 = length-append (num_bytes k.0 ++ num_bytes k.1 ++ vals_bytes k.2) (num_bytes k.3) in
    omega (arith, whole)

pub has_four : (key row : List ℕ) → IsEntryOf val_codec key row → 4 ≤ length key
has_four key row e = subst (λ b. 4 ≤ length b) e.key_reads.spelled (long_enough e.key)

pub number_at_end : (k : ValKey) → drop (length (val_bytes k) - 4) (val_bytes k) ≡ num_bytes k.3
number_at_end k =
    let front : List ℕ = num_bytes k.0 ++ num_bytes k.1 ++ vals_bytes k.2 in
    let whole : length (front ++ num_bytes k.3) ≡ length front + 4 = length-append front (num_bytes k.3) in
    let less : length (front ++ num_bytes k.3) - 4 ≡ length front = omega (arith, whole) in
    ap (λ n. drop n (front ++ num_bytes k.3)) less ∙ drop-append_seam front (num_bytes k.3)

last_is : (key row : List ℕ) (e : IsEntryOf val_codec key row) → drop (length key - 4) key ≡ num_bytes e.key.3
last_is key row e = subst (λ b. drop (length b - 4) b ≡ num_bytes e.key.3) e.key_reads.spelled (number_at_end e.key)

-- the last four bytes of a key are the number of a tuple
pub ends_with_number : (key row last : List ℕ) → IsEntryOf val_codec key row → last ≡ drop (length key - 4) key → AreNumberBytes last
ends_with_number key row last e is = (e.key.3, record { fits = e.key_reads.fits.tuple; spelled = sym (is ∙ last_is key row e) })

pub is_numbered : (key row last : List ℕ) (n : ℕ) (m : Mark) → IsEntryOf val_codec key row → last ≡ drop (length key - 4) key → Reads IsNum num_bytes last n → Reads IsAnyMark mark_bytes row m
    → IsNumbered key row (n, m)
is_numbered key row last n m e is number mark = record {
  entry = (e.key, m);
  key_reads = e.key_reads;
  row_reads = mark;
  is = ap (λ (x : ℕ). (x, m)) (one_num n e.key.3 number.fits e.key_reads.fits.tuple (number.spelled ∙ is ∙ last_is key row e));
}

pub mark_is : (o : Option Mark) (m : Mark) → option_map mark_bytes o ≡ Some (mark_bytes m) → o ≡ Some m
mark_is None m e = absurd (none_is_some (mark_bytes m) e)
mark_is (Some k) m e = ap Some (mark_rows_are_one k m tt tt (same_some (mark_bytes k) (mark_bytes m) e))
