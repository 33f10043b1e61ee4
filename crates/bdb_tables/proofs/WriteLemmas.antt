-- What tables have after changes of rows.
use Rattle.std.proofs.Common.{◌≡◌, ℕ, List, [], ◌∷◌, Bool, true, false, cond, Option, Some, None, refl, sym, ap, subst, ◌∙◌}
use Rattle.std.specs.Prelude.{MatchOption}
use Rattle.std.specs.Ordering.{is_eq, eq_by_cmp, ordering_then}
use Rattle.std.specs.Option.{option_map}
use Rattle.std.specs.List.{AllByRecursion}
use Rattle.std.specs.FinMap as tables
use Rattle.std.proofs.lemmas.Bool.{false_from_ne_true}
use Rattle.bdb_base.proofs.Numbers.{equal}
use Rattle.bdb_keep.specs.Tables.{Tables, bytes_cmp, set_at}
use Rattle.bdb_keep.proofs.Gets.{get_after_insert, get_after_remove}
use Rattle.bdb_keep.proofs.RowsLemmas.{same_place}
use Rattle.bdb_tables.specs.Codec.{Codec, IsEntryOf, TableFits, KeepsOrder, HasOneRow, place}
use Rattle.bdb_tables.specs.Grammar.{IsEntry, InGrammar}
use Rattle.bdb_tables.specs.Writes.{with_change, with_changes, IsChange, Gives, with_row_at, with_rows_at}
use Rattle.bdb_tables.proofs.Held.{put_keeps_each, remove_keeps_each, head_same, held}

-- ---- one place

pub get_after_set : (t : Tables) (p : List ℕ) (row : Option (List ℕ)) (q : List ℕ) → tables.get (set_at t p row) q ≡ cond (eq_by_cmp bytes_cmp q p) row (tables.get t q)
get_after_set t p None q = get_after_remove t p q
get_after_set t p (Some row) q = get_after_insert t p row q

-- a fact of the row at each place, after one was set
pub set_keeps_each : (P : ℕ → List ℕ → List ℕ → Type 0) (t : Tables) (m : ℕ) (j : List ℕ) (row : Option (List ℕ)) → MatchOption row (Unit {0}) (P m j)
    → ((n : ℕ) (k r : List ℕ) → tables.get t (n ∷ k) ≡ Some r → P n k r) → (n : ℕ) (k r : List ℕ) → tables.get (set_at t (m ∷ j) row) (n ∷ k) ≡ Some r → P n k r
set_keeps_each P t m j None here h = remove_keeps_each P t (m ∷ j) h
set_keeps_each P t m j (Some row) here h = put_keeps_each P t m j row here h

module _ {Key Row : Type 0} where
  pub get_after_change : (c : Codec Key Row) (t : Tables) (x : Key × Option Row) (q : List ℕ)
      → tables.get (with_change c t x) q ≡ cond (eq_by_cmp bytes_cmp q (place c x.0)) (option_map c.row_bytes x.1) (tables.get t q)
  get_after_change c t x q = get_after_set t (place c x.0) (option_map c.row_bytes x.1) q

  -- ---- the grammar

  entry_of : (c : Codec Key Row) (key : Key) (row : Row) → c.IsKey key → c.IsRow row → IsEntryOf c (c.key_bytes key) (c.row_bytes row)
  entry_of c key row fk fr = record { key = key; row = row; key_reads = record { fits = fk; spelled = refl }; row_reads = record { fits = fr; spelled = refl } }

  entry_here : (c : Codec Key Row) (P : List ℕ → List ℕ → Type 0) → ((k r : List ℕ) → IsEntryOf c k r → P k r) → (key : Key) (row : Option Row)
      → c.IsKey key → MatchOption row (Unit {0}) c.IsRow → MatchOption (option_map c.row_bytes row) (Unit {0}) (P (c.key_bytes key))
  entry_here c P back key None fk fr = tt
  entry_here c P back key (Some row) fk fr = back (c.key_bytes key) (c.row_bytes row) (entry_of c key row fk fr)

  pub change_in_grammar : (c : Codec Key Row) → ((k r : List ℕ) → IsEntryOf c k r → IsEntry c.number k r) → (t : Tables) (x : Key × Option Row)
      → IsChange c x → InGrammar t → InGrammar (with_change c t x)
  change_in_grammar c back t x is h =
      set_keeps_each IsEntry t c.number (c.key_bytes x.0) (option_map c.row_bytes x.1) (entry_here c (IsEntry c.number) back x.0 x.1 is.key is.row) h

  -- tables that are others after a change
  pub written_grammar : (c : Codec Key Row) → ((k r : List ℕ) → IsEntryOf c k r → IsEntry c.number k r) → (t u : Tables) (x : Key × Option Row)
      → IsChange c x → u ≡ with_change c t x → InGrammar t → InGrammar u
  written_grammar c back t u x is e h = subst InGrammar (sym e) (change_in_grammar c back t x is h)

  pub change_fits : (c : Codec Key Row) (t : Tables) (x : Key × Option Row) → IsChange c x → TableFits c t → TableFits c (with_change c t x)
  change_fits c t x is h k r found =
      let P : ℕ → List ℕ → List ℕ → Type 0 = λ n k r. n ≡ c.number → IsEntryOf c k r in
      set_keeps_each P t c.number (c.key_bytes x.0) (option_map c.row_bytes x.1)
      (entry_here c (P c.number) (λ k r e same. e) x.0 x.1 is.key is.row) (λ n k r found e. held c t h n k r e found) c.number k r found refl

  -- ---- what the table has

  -- keys are one where their places are
  pub same_key : (c : Codec Key Row) → KeepsOrder c → (a b : Key) → c.IsKey a → c.IsKey b → eq_by_cmp bytes_cmp (place c a) (place c b) ≡ is_eq (c.key_cmp a b)
  same_key c order a b fa fb =
      ap (λ o. is_eq (ordering_then o (bytes_cmp (c.key_bytes a) (c.key_bytes b)))) (equal c.number) ∙ ap is_eq (order a b fa fb)

  picked : (c : Codec Key Row) (b : Bool) (x y : Option Row) → cond b (option_map c.row_bytes x) (option_map c.row_bytes y) ≡ option_map c.row_bytes (cond b x y)
  picked c true x y = refl
  picked c false x y = refl

  picked_fits : (c : Codec Key Row) (b : Bool) (x y : Option Row) → MatchOption x (Unit {0}) c.IsRow → MatchOption y (Unit {0}) c.IsRow → MatchOption (cond b x y) (Unit {0}) c.IsRow
  picked_fits c true x y fx fy = fx
  picked_fits c false x y fx fy = fy

  pub change_gives : (c : Codec Key Row) → KeepsOrder c → (t : Tables) (f : Key → Option Row) (x : Key × Option Row) → IsChange c x → Gives c t f
      → Gives c (with_change c t x) (with_row_at c f x)
  change_gives c order t f x is h = record {
    fits = change_fits c t x is h.fits;
    rows = λ key fits.
        get_after_change c t x (place c key)
        ∙ ap (λ b. cond b (option_map c.row_bytes x.1) (tables.get t (place c key))) (same_key c order key x.0 fits is.key)
        ∙ ap (λ o. cond (is_eq (c.key_cmp key x.0)) (option_map c.row_bytes x.1) o) (h.rows key fits)
        ∙ picked c (is_eq (c.key_cmp key x.0)) x.1 (f key);
    written = λ key fits. picked_fits c (is_eq (c.key_cmp key x.0)) x.1 (f key) is.row (h.written key fits);
  }

  pub changes_give : (c : Codec Key Row) → KeepsOrder c → (t : Tables) (f : Key → Option Row) (xs : List (Key × Option Row)) → AllByRecursion (IsChange c) xs → Gives c t f
      → Gives c (with_changes c t xs) (with_rows_at c f xs)
  changes_give c order t f [] each h = h
  changes_give c order t f (x ∷ xs) each h = changes_give c order (with_change c t x) (with_row_at c f x) xs each.1 (change_gives c order t f x each.0 h)

  -- functions that agree at each key give the same table
  pub gives_same : (c : Codec Key Row) (t : Tables) (f g : Key → Option Row) → ((key : Key) → c.IsKey key → f key ≡ g key) → Gives c t f → Gives c t g
  gives_same c t f g same h = record {
    fits = h.fits;
    rows = λ key fits. h.rows key fits ∙ ap (option_map c.row_bytes) (same key fits);
    written = λ key fits. subst (λ o. MatchOption o (Unit {0}) c.IsRow) (same key fits) (h.written key fits);
  }

  pub one_row_of : (c : Codec Key Row) → HasOneRow c → (x y : Option Row) → MatchOption x (Unit {0}) c.IsRow → MatchOption y (Unit {0}) c.IsRow
      → option_map c.row_bytes x ≡ option_map c.row_bytes y → x ≡ y
  one_row_of c one None None fx fy e = refl
  one_row_of c one None (Some y) fx fy e = absurd cc
  one_row_of c one (Some x) None fx fy e = absurd cc
  one_row_of c one (Some x) (Some y) fx fy e = let e : c.row_bytes x ≡ c.row_bytes y = cc in ap Some (one x y fx fy e)

  -- a table is given by one function alone
  pub gives_one : (c : Codec Key Row) → HasOneRow c → (t : Tables) (f g : Key → Option Row) → Gives c t f → Gives c t g → (key : Key) → c.IsKey key → f key ≡ g key
  gives_one c one t f g h k key fits = one_row_of c one (f key) (g key) (h.written key fits) (k.written key fits) (sym (h.rows key fits) ∙ k.rows key fits)

  -- tables that one function gives have the same rows
  pub same_rows : (c : Codec Key Row) (t u : Tables) (f : Key → Option Row) → Gives c t f → Gives c u f → (k : List ℕ) → tables.get t (c.number ∷ k) ≡ tables.get u (c.number ∷ k)
  same_rows c t u f h i k = by (tables.get t (c.number ∷ k)) (tables.get u (c.number ∷ k)) refl refl
    where
      at : (v : Tables) → Gives c v f → (r : List ℕ) → tables.get v (c.number ∷ k) ≡ Some r → tables.get t (c.number ∷ k) ≡ tables.get u (c.number ∷ k)
      at v g r found =
          let e = g.fits k r found in
          let spelled = ap (λ b. c.number ∷ b) e.key_reads.spelled in
          ap (tables.get t) (sym spelled) ∙ h.rows e.key e.key_reads.fits ∙ sym (i.rows e.key e.key_reads.fits) ∙ ap (tables.get u) spelled

      by : (x y : Option (List ℕ)) → tables.get t (c.number ∷ k) ≡ x → tables.get u (c.number ∷ k) ≡ y → tables.get t (c.number ∷ k) ≡ tables.get u (c.number ∷ k)
      by None None ex ey = ex ∙ sym ey
      by None (Some r) ex ey = at u i r ey
      by (Some r) y ex ey = at t h r ex

-- a change of another table leaves what a table has
module _ {Key Row K R : Type 0} where
  -- places of different tables are two
  pub other_place : (c : Codec Key Row) (d : Codec K R) → (c.number ≡ d.number → ⊥) → (k : List ℕ) (x : K) → eq_by_cmp bytes_cmp (c.number ∷ k) (place d x) ≡ false
  other_place c d other k x = false_from_ne_true (eq_by_cmp bytes_cmp (c.number ∷ k) (place d x)) (λ e. other (head_same _ _ _ _ (same_place (c.number ∷ k) (place d x) e)))

  pub row_elsewhere : (c : Codec Key Row) (d : Codec K R) → (c.number ≡ d.number → ⊥) → (t : Tables) (x : K × Option R) (k : List ℕ) → tables.get (with_change d t x) (c.number ∷ k) ≡ tables.get t (c.number ∷ k)
  row_elsewhere c d other t x k = get_after_change d t x (c.number ∷ k) ∙ ap (λ b. cond b (option_map d.row_bytes x.1) (tables.get t (c.number ∷ k))) (other_place c d other k x.0)

  pub change_elsewhere : (c : Codec Key Row) (d : Codec K R) → (c.number ≡ d.number → ⊥) → (t : Tables) (f : Key → Option Row) (x : K × Option R) → Gives c t f → Gives c (with_change d t x) f
  change_elsewhere c d other t f x h = record {
    fits = λ k r found. h.fits k r (sym (row_elsewhere c d other t x k) ∙ found);
    rows = λ key fits. row_elsewhere c d other t x (c.key_bytes key) ∙ h.rows key fits;
    written = h.written;
  }

  pub changes_elsewhere : (c : Codec Key Row) (d : Codec K R) → (c.number ≡ d.number → ⊥) → (t : Tables) (f : Key → Option Row) (xs : List (K × Option R)) → Gives c t f → Gives c (with_changes d t xs) f
  changes_elsewhere c d other t f [] h = h
  changes_elsewhere c d other t f (x ∷ xs) h = changes_elsewhere c d other (with_change d t x) f xs (change_elsewhere c d other t f x h)
