-- Rows that are put or taken away at once.
use Rattle.std.proofs.Common.{◌≡◌, ℕ, suc, ◌+◌, ◌<◌, ◌≤◌, List, [], ◌∷◌, length, drop, get_or, sym, ap, ◌∙◌, arith, drop-cons, drop_of_length-le}
use Rattle.std.specs.FinMap as map
use Rattle.bdb_keep.specs.Tables.{Tables, LieInTables}
use Rattle.bdb_keep.specs.Spans.{Listed, with_rows, without_rows}
use Rattle.bdb_keep.proofs.TableLemmas.{put_lies, rest_lie}

module _ (rows : Listed) (i n : ℕ) (key row : List ℕ) (lt : i < length rows) (here : (key, row) ≡ get_or rows i ([], [])) (m : n ≡ i + 1) where
  left : drop i rows ≡ (key, row) ∷ drop n rows
  left =
      let e : suc i ≡ n = omega arith in
      drop-cons rows i ([], []) lt ∙ ap (λ r. r ∷ drop (suc i) rows) (sym here) ∙ ap (λ k. (key, row) ∷ drop k rows) e

  -- one row is put
  pub put-more : (tab : ℕ) (t u v : Tables) → u ≡ map.insert t (tab ∷ key) row → with_rows tab t (drop i rows) ≡ v → with_rows tab u (drop n rows) ≡ v
  put-more tab t u v e h = ap (λ x. with_rows tab x (drop n rows)) e ∙ sym (ap (with_rows tab t) left) ∙ h

  -- one row is taken away
  pub taken-more : (tab : ℕ) (t u v : Tables) → u ≡ map.remove t (tab ∷ key) → without_rows tab t (drop i rows) ≡ v → without_rows tab u (drop n rows) ≡ v
  taken-more tab t u v e h = ap (λ x. without_rows tab x (drop n rows)) e ∙ sym (ap (without_rows tab t) left) ∙ h

-- all rows are put
pub put-all : (rows : Listed) (i tab : ℕ) (t v : Tables) → length rows ≤ i → with_rows tab t (drop i rows) ≡ v → t ≡ v
put-all rows i tab t v le h = sym (ap (with_rows tab t) (drop_of_length-le rows le)) ∙ h

-- all rows are taken away
pub taken-all : (rows : Listed) (i tab : ℕ) (t v : Tables) → length rows ≤ i → without_rows tab t (drop i rows) ≡ v → t ≡ v
taken-all rows i tab t v le h = sym (ap (without_rows tab t) (drop_of_length-le rows le)) ∙ h

-- rows that are put in one of the tables
pub all_lie : (tab : ℕ) (t : Tables) (rows : Listed) → (1 ≤ tab) × (tab ≤ 15) → LieInTables t → LieInTables (with_rows tab t rows)
all_lie tab t [] table lie = lie
all_lie tab t (r ∷ rows) table lie = all_lie tab (map.insert t (tab ∷ r.0) r.1) rows table (put_lies t tab r.0 r.1 table lie)

-- rows that are taken away
pub others_lie : (tab : ℕ) (t : Tables) (rows : Listed) → LieInTables t → LieInTables (without_rows tab t rows)
others_lie tab t [] lie = lie
others_lie tab t (r ∷ rows) lie = others_lie tab (map.remove t (tab ∷ r.0)) rows (rest_lie t (tab ∷ r.0) lie)
