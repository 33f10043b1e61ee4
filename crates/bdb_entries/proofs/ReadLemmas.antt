-- What a table has whose rows are read one after the other.
use Rattle.std.proofs.Common.{◌≡◌, ℕ, Bool, true, false, cond, List, [], ◌∷◌, ◌++◌, Option, Some, None, map, refl, sym, ap, subst, ◌∙◌, inl, inr}
use Rattle.std.specs.Prelude.{MatchOption}
use Rattle.std.specs.Bool.{MatchBool}
use Rattle.std.specs.Ordering.{eq_by_cmp}
use Rattle.std.specs.List.{AllByRecursion}
use Rattle.std.specs.FinMap.{find}
use Rattle.std.proofs.lemmas.Bool.{cases_Bool}
use Rattle.bdb_base.proofs.OptionLemmas.{none_is_some, same_some}
use Rattle.bdb_keep.specs.Tables.{Tables, bytes_cmp, IsLeastFrom, NoneFrom}
use Rattle.bdb_keep.proofs.RowsLemmas.{same_place}
use Rattle.bdb_tables.specs.Codec.{Codec, IsEntryOf, TableFits}
use Rattle.bdb_tables.specs.Raw.{IsForeignFrom}
use Rattle.bdb_tables.specs.Spans.{entry_bytes, IsUnder, AreUnder, HasNextUnder}
use Rattle.bdb_tables.proofs.Held.{at_true}
use Rattle.bdb_tables.proofs.SpanLemmas.{Covers, rows_more, rows_end}
use Rattle.bdb_entries.specs.Reading.{IsBare}

module _ {Key Row : Type 0} where
  -- what is found among entries is one of them
  pub found_entry : (c : Codec Key Row) (es : List (Key × Row)) → AllByRecursion (IsUnder c []) es
      → (k r : List ℕ) → find bytes_cmp k (map (entry_bytes c) es) ≡ Some r → IsEntryOf c k r
  found_entry c [] h k r found = absurd (none_is_some r found)
  found_entry c (e ∷ es) h k r found = elim (cases_Bool (eq_by_cmp bytes_cmp k (c.key_bytes e.0))) [
    | inl same ↦ record {
      key = e.0;
      row = e.1;
      key_reads = record { fits = h.0.key; spelled = sym (same_place k (c.key_bytes e.0) same) };
      row_reads = record {
        fits = h.0.row;
        spelled = same_some (c.row_bytes e.1) r (sym (ap (λ b. cond b (Some (c.row_bytes e.1)) (find bytes_cmp k (map (entry_bytes c) es))) same) ∙ found);
      };
    }
    | inr other ↦ found_entry c es h.1 k r (sym (ap (λ b. cond b (Some (c.row_bytes e.1)) (find bytes_cmp k (map (entry_bytes c) es))) other) ∙ found)
  ]

  -- where all rows are listed, each is one of the table
  pub under_fits : (c : Codec Key Row) (t : Tables) (es : List (Key × Row)) → AreUnder c t [] es → TableFits c t
  under_fits c t es h k r found = found_entry c es h.each k r (sym (h.found k refl) ∙ found)

  pub foreign_misfits : (c : Codec Key Row) (t : Tables) (low : List ℕ) → IsForeignFrom c t low → TableFits c t → ⊥
  foreign_misfits c t low h fits = h.foreign (fits h.key h.row h.least.found)

  -- some rows are those below some bytes
  pub record Passed (c : Codec Key Row) (t : Tables) (low : List ℕ) : Type 0 where
    pub rows : List (Key × Row)
    pub covers : Covers c t [] low rows

  pub passed_more : (c : Codec Key Row) (t u : Tables) (low behind : List ℕ) (found : Option (Key × Row)) (e : Key × Row) → u ≡ t → found ≡ Some e
      → Passed c t low → HasNextUnder c u [] low behind found → Passed c t behind
  passed_more c t u low behind found e same is h next = record { rows = h.rows ++ e ∷ []; covers = rows_more c t u [] low behind h.rows found e same is h.covers next }

  pub passed_all : (c : Codec Key Row) (t u : Tables) (low behind : List ℕ) (found : Option (Key × Row)) → u ≡ t → found ≡ None
      → Passed c t low → HasNextUnder c u [] low behind found → TableFits c t
  passed_all c t u low behind found same is h next = under_fits c t h.rows (rows_end c t u [] low behind h.rows found same is h.covers next)

-- ---- what one of two answers tells

pub some_told : {X : Type 0} (P : Type 0) (Q : X → Type 0) (r : Option X) (x : X) → r ≡ Some x → MatchOption r P Q → Q x
some_told P Q r x e h = subst (λ o. MatchOption o P Q) e h

pub none_told : {X : Type 0} (P : Type 0) (Q : X → Type 0) (r : Option X) → r ≡ None → MatchOption r P Q → P
none_told P Q r e h = subst (λ o. MatchOption o P Q) e h

pub past : (P Q : Type 0) (b : Bool) → b ≡ false → MatchBool b P Q → Q
past P Q b e h = subst (λ v. MatchBool v P Q) e h

-- a table with a least row isn't bare
pub some_row : (t : Tables) (n : ℕ) (low key row : List ℕ) (b : Bool) → b ≡ true → MatchBool b (IsLeastFrom t n low key row) (NoneFrom t n low) → IsBare t n → ⊥
some_row t n low key row b e h bare = none_is_some row (sym (bare key) ∙ (at_true b (IsLeastFrom t n low key row) (NoneFrom t n low) e h).found)
