-- The rows that are read one after the other, and the statements that they make.
use Rattle.std.proofs.Common.{◌≡◌, ◌∙◌, ℕ, Bool, true, false, List, [], ◌∷◌, ◌++◌, Option, Some, None, map, refl, ap, sym, subst, inl, inr}
use Rattle.std.specs.List.{list_all, flat_map, AllByRecursion}
use Rattle.std.specs.Ordering.{eq_by_cmp}
use Rattle.std.specs.FinMap.{find}
use Rattle.std.proofs.lemmas.Bool.{cases_Bool, and_parts, and_from, cond-true, cond-false, false≢true}
use Rattle.std.proofs.lemmas.List.Folds.{list_all-append}
use Rattle.bdb_base.specs.declared.kinds.Stmt.{Stmt}
use Rattle.bdb_base.proofs.OptionLemmas.{none_is_some, same_some}
use Rattle.bdb_keep.specs.Tables.{Tables, bytes_cmp}
use Rattle.bdb_keep.proofs.RowsLemmas.{same_place}
use Rattle.bdb_key.specs.Rows.{mark_bytes}
use Rattle.bdb_tables.specs.Codec.{place}
use Rattle.bdb_tables.specs.InUse.{val_bytes, val_codec}
use Rattle.bdb_tables.specs.InUseLaws.{vals_are_one, mark_rows_are_one}
use Rattle.bdb_tables.specs.Raw.{IsForeignFrom}
use Rattle.bdb_tables.specs.Spans.{IsUnder, IsNextUnder, HasNextUnder, entry_bytes}
use Rattle.bdb_tables.proofs.SpanLemmas.{Covers, rows_more, rows_end, covers_none}
use Rattle.bdb_entries.proofs.ReadLemmas.{foreign_misfits, under_fits}
use Rattle.bdb_decode.specs.Explicit.{AreMisplaced, ArePlaced, AreSaid, Paths, TupleRows, ValRow, is_placed, said}

module _ (keys : ℕ → ℕ) (worlds : Paths) (tuples : TupleRows) where
  -- these rows are those below some bytes, each has its place, and the explicit ones make these statements
  pub record SaidBelow (t : Tables) (low : List ℕ) (stmts : List Stmt) : Type 0 where
    pub rows : List ValRow
    pub covers : Covers val_codec t [] low rows
    pub placed : list_all (is_placed keys worlds tuples) rows ≡ true
    pub said : stmts ≡ flat_map (said worlds tuples) rows

  flat_map_more : (f : ValRow → List Stmt) (es : List ValRow) (e : ValRow) → flat_map f (es ++ e ∷ []) ≡ flat_map f es ++ f e
  flat_map_more f [] e = append_none (f e)
    where
      append_none : (xs : List Stmt) → xs ++ [] ≡ xs
      append_none [] = refl
      append_none (x ∷ xs) = ap (λ ys. x ∷ ys) (append_none xs)
  flat_map_more f (x ∷ es) e = ap (λ ys. f x ++ ys) (flat_map_more f es e) ∙ regroup (f x) (flat_map f es) (f e)
    where
      regroup : (xs ys zs : List Stmt) → xs ++ (ys ++ zs) ≡ (xs ++ ys) ++ zs
      regroup [] ys zs = refl
      regroup (w ∷ xs) ys zs = ap (λ vs. w ∷ vs) (regroup xs ys zs)

  pub said_none : (t : Tables) (low : List ℕ) (stmts : List Stmt) → low ≡ [] → stmts ≡ [] → SaidBelow t low stmts
  said_none t low stmts e s = subst (λ l. SaidBelow t l stmts) (sym e) (record { rows = []; covers = covers_none val_codec t [] [] refl; placed = refl; said = s })

  pub said_more : (t u : Tables) (low behind : List ℕ) (found : Option ValRow) (e : ValRow) (stmts next : List Stmt) (ok : Bool) → u ≡ t → found ≡ Some e → ok ≡ true
      → ok ≡ is_placed keys worlds tuples e → (ok ≡ true → next ≡ stmts ++ said worlds tuples e)
      → SaidBelow t low stmts → HasNextUnder val_codec u [] low behind found → SaidBelow t behind next
  said_more t u low behind found e stmts next ok same is own place more h under = record {
    rows = h.rows ++ e ∷ [];
    covers = rows_more val_codec t u [] low behind h.rows found e same is h.covers under;
    placed = list_all-append (is_placed keys worlds tuples) h.rows (e ∷ [])
        ∙ and_from (list_all (is_placed keys worlds tuples) h.rows) (list_all (is_placed keys worlds tuples) (e ∷ [])) h.placed
        (and_from (is_placed keys worlds tuples e) true (sym place ∙ own) refl);
    said = more own ∙ ap (λ xs. xs ++ said worlds tuples e) h.said ∙ sym (flat_map_more (said worlds tuples) h.rows e);
  }

  pub said_all : (t u : Tables) (low behind : List ℕ) (found : Option ValRow) (stmts : List Stmt) → u ≡ t → found ≡ None
      → SaidBelow t low stmts → HasNextUnder val_codec u [] low behind found → AreSaid keys t worlds tuples stmts
  said_all t u low behind found stmts same is h under = record {
    rows = h.rows;
    are = record { under = rows_end val_codec t u [] low behind h.rows found same is h.covers under; placed = h.placed };
    said = h.said;
  }

  -- a row that is found among rows is one of them
  pub found_passes : (p : ValRow → Bool) (es : List ValRow) → AllByRecursion (IsUnder val_codec []) es → list_all p es ≡ true → (e : ValRow) → IsUnder val_codec [] e
      → find bytes_cmp (val_bytes e.0) (map (entry_bytes val_codec) es) ≡ Some (mark_bytes e.1) → p e ≡ true
  found_passes p [] a h e f found = absurd (none_is_some (mark_bytes e.1) found)
  found_passes p (x ∷ es) a h e f found =
      let k = and_parts (p x) (list_all p es) h in
      elim (cases_Bool (eq_by_cmp bytes_cmp (val_bytes e.0) (val_bytes x.0))) [
        | inl same ↦
            let key : e.0 ≡ x.0 = vals_are_one e.0 x.0 f.key a.0.key (same_place (val_bytes e.0) (val_bytes x.0) same) in
            let row : x.1 ≡ e.1 = mark_rows_are_one x.1 e.1 a.0.row f.row (same_some (mark_bytes x.1) (mark_bytes e.1)
            (sym (cond-true (eq_by_cmp bytes_cmp (val_bytes e.0) (val_bytes x.0)) (Some (mark_bytes x.1)) (find bytes_cmp (val_bytes e.0) (map (entry_bytes val_codec) es)) same) ∙ found)) in
            ap (λ q. p (q, e.1)) key ∙ ap (λ r. p (x.0, r)) (sym row) ∙ k.0
        | inr other ↦ found_passes p es a.1 k.1 e f
            (sym (cond-false (eq_by_cmp bytes_cmp (val_bytes e.0) (val_bytes x.0)) (Some (mark_bytes x.1)) (find bytes_cmp (val_bytes e.0) (map (entry_bytes val_codec) es)) other) ∙ found)
      ]

  pub row_misplaced : (t u : Tables) (low behind : List ℕ) (found : Option ValRow) (e : ValRow) (ok : Bool) → u ≡ t → found ≡ Some e → ok ≡ false → ok ≡ is_placed keys worlds tuples e
      → HasNextUnder val_codec u [] low behind found → AreMisplaced keys t worlds tuples
  row_misplaced t u low behind found e ok same is out place under =
      let n : IsNextUnder val_codec t [] low behind e = subst (λ v. IsNextUnder val_codec v [] low behind e) same (subst (HasNextUnder val_codec u [] low behind) is under) in
      inr (record { row = e; fits = n.under.key; there = n.least.found; stray = sym place ∙ out })

  pub foreign_misplaced : (t u : Tables) (low : List ℕ) → u ≡ t → IsForeignFrom val_codec u low → AreMisplaced keys t worlds tuples
  foreign_misplaced t u low same f = inl (foreign_misfits val_codec t low (subst (λ v. IsForeignFrom val_codec v low) same f))

  pub misplaced_have_no_places : (t : Tables) (rows : List ValRow) → AreMisplaced keys t worlds tuples → ArePlaced keys t worlds tuples rows → ⊥
  misplaced_have_no_places t rows (inl m) h = m (under_fits val_codec t rows h.under)
  misplaced_have_no_places t rows (inr s) h =
      false≢true (sym s.stray ∙ found_passes (is_placed keys worlds tuples) rows h.under.each h.placed s.row (record { key = s.fits; row = tt; begins = refl })
      (sym (h.under.found (val_bytes s.row.0) refl) ∙ s.there))
