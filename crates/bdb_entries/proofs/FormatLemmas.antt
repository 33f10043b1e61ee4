-- What the rows of the format's table tell, and whether tables are in the grammar.
use Rattle.std.proofs.Common.{◌≡◌, ◌≤◌, ℕ, Bool, true, false, nat_eq, List, [], ◌∷◌, Option, Some, None, refl, sym, subst, ◌∙◌, arith, inl, inr}
use Rattle.std.specs.Bool.{MatchBool}
use Rattle.std.specs.FinMap as tables
use Rattle.std.proofs.lemmas.Bool.{cases_Bool, eqb-true}
use Rattle.std.proofs.lemmas.Bool.Decides.{nat_tests}
use Rattle.bdb_base.proofs.OptionLemmas.{none_is_some}
use Rattle.bdb_keep.specs.Tables.{LieInTables, Tables}
use Rattle.bdb_tables.specs.Codec.{Codec, IsEntryOf, TableFits}
use Rattle.bdb_tables.specs.Grammar.{IsEntry}
use Rattle.bdb_tables.specs.InUse.{meta_codec, plain_codec}
use Rattle.bdb_tables.specs.Spans.{AreUnder}
use Rattle.bdb_tables.specs.Stored.{is_table}
use Rattle.bdb_tables.specs.Writes.{Gives}
use Rattle.bdb_entries.specs.Format.{IsFormatDamaged, TellsFormat, format_of}
use Rattle.bdb_entries.specs.Reading.{AreEntries, IsBare, Misfits, OthersAreBare}
use Rattle.bdb_entries.proofs.ReadLemmas.{past, under_fits}

-- ---- the format

pub rows_tell : (t : Tables) (es : List (Unit {0} × ℕ)) → AreUnder meta_codec t [] es → TellsFormat t (format_of es)
rows_tell t [] h = λ k. h.found k refl
rows_tell t (e ∷ []) h = record {
  fits = under_fits meta_codec t (e ∷ []) h;
  rows = λ key fits. h.found (meta_codec.key_bytes tt) refl;
  written = λ key fits. h.each.0.row;
}
rows_tell t (e ∷ f ∷ es) h = let no = h.sorted in absurd cc

pub misfit_is_damaged : (t : Tables) → Misfits meta_codec t → IsFormatDamaged t
misfit_is_damaged t m = record {
  some = λ bare. m (λ k r found. absurd (none_is_some r (sym (bare k) ∙ found)));
  none = λ n h. m h.fits;
}

-- ---- the grammar

pub fits_are_entries : {Key Row : Type 0} (c : Codec Key Row) (tab : ℕ) → c.number ≡ tab → ((k r : List ℕ) → IsEntry c.number k r → IsEntryOf c k r)
    → ((k r : List ℕ) → IsEntryOf c k r → IsEntry c.number k r) → (t : Tables) (b : Bool) → MatchBool b (TableFits c t) (Misfits c t)
    → MatchBool b (AreEntries t tab) (AreEntries t tab → ⊥)
fits_are_entries c tab e to back t true h = subst (AreEntries t) e (λ k r found. back k r (h k r found))
fits_are_entries c tab e to back t false h = λ are. h (λ k r found. to k r (subst (AreEntries t) (sym e) are k r found))

no_entry : (n : ℕ) (k r : List ℕ) → 13 ≤ n → IsEntry n k r → ⊥
no_entry n k r h e =
    past _ _ (nat_eq n 12) (grind (arith, nat_tests)) (past _ _ (nat_eq n 11) (grind (arith, nat_tests)) (past _ _ (nat_eq n 10) (grind (arith, nat_tests))
    (past _ _ (nat_eq n 9) (grind (arith, nat_tests)) (past _ _ (nat_eq n 8) (grind (arith, nat_tests)) (past _ _ (nat_eq n 7) (grind (arith, nat_tests))
    (past _ _ (nat_eq n 6) (grind (arith, nat_tests)) (past _ _ (nat_eq n 5) (grind (arith, nat_tests)) (past _ _ (nat_eq n 4) (grind (arith, nat_tests))
    (past _ _ (nat_eq n 3) (grind (arith, nat_tests)) (past _ _ (nat_eq n 2) (grind (arith, nat_tests)) (past _ _ (nat_eq n 1) (grind (arith, nat_tests)) e)))))))))))

bare_if : (t : Tables) (n : ℕ) (k : List ℕ) (o : Option (List ℕ)) → tables.get t (n ∷ k) ≡ o → 13 ≤ n → AreEntries t n → tables.get t (n ∷ k) ≡ None
bare_if t n k None e h are = e
bare_if t n k (Some r) e h are = absurd (no_entry n k r h (are k r e))

pub bare_are_entries : (t : Tables) (n : ℕ) → 13 ≤ n → (b : Bool) → MatchBool b (IsBare t n) (IsBare t n → ⊥) → MatchBool b (AreEntries t n) (AreEntries t n → ⊥)
bare_are_entries t n h true bare = λ k r found. absurd (none_is_some r (sym (bare k) ∙ found))
bare_are_entries t n h false some = λ are. some (λ k. bare_if t n k (tables.get t (n ∷ k)) refl h are)

-- ---- tables with no row

outside_bare : (t : Tables) → LieInTables t → ((n : ℕ) → 12 ≤ n → n ≤ 15 → IsBare t n) → (n : ℕ) (k : List ℕ) → is_table n ≡ false → (o : Option (List ℕ)) → tables.get t (n ∷ k) ≡ o → tables.get t (n ∷ k) ≡ None
outside_bare t lie bare n k out None e = e
outside_bare t lie bare n k out (Some r) e = let in_tables = lie (n ∷ k) r e in bare n (past_twelve n in_tables.0 out) in_tables.1 k
  where
    past_twelve : (n : ℕ) → 1 ≤ n → is_table n ≡ false → 12 ≤ n
    past_twelve n low out = grind (arith, nat_tests)

pub all_bare : (t : Tables) → LieInTables t → ((n : ℕ) → 12 ≤ n → n ≤ 15 → IsBare t n) → OthersAreBare t
all_bare t lie bare = record {
  plain = record {
    fits = λ k r found. absurd (none_is_some r (sym (bare 12 (omega arith) (omega arith) k) ∙ found));
    rows = λ key fits. bare 12 (omega arith) (omega arith) (plain_codec.key_bytes key);
    written = λ key fits. tt;
  };
  outside = λ n k out. outside_bare t lie bare n k out (tables.get t (n ∷ k)) refl;
}

plain_bare : (t : Tables) → Gives plain_codec t (λ _. None) → IsBare t 12
plain_bare t h k = by (tables.get t (12 ∷ k)) refl
  where
    by : (o : Option (List ℕ)) → tables.get t (12 ∷ k) ≡ o → tables.get t (12 ∷ k) ≡ None
    by None e = e
    by (Some r) e =
        let entry = h.fits k r e in
        subst (λ q. tables.get t (12 ∷ q) ≡ None) entry.key_reads.spelled (h.rows entry.key entry.key_reads.fits)

pub bare_too : (t : Tables) (n : ℕ) → 12 ≤ n → OthersAreBare t → IsBare t n
bare_too t n low h = elim (cases_Bool (nat_eq n 12)) [
  | inl e ↦ subst (IsBare t) (sym (eqb-true n 12 e)) (plain_bare t h.plain)
  | inr e ↦ λ k. h.outside n k (out n low e)
]
  where
    out : (n : ℕ) → 12 ≤ n → nat_eq n 12 ≡ false → is_table n ≡ false
    out n low e = grind (arith, nat_tests)
