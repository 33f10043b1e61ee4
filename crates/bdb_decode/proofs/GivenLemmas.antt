-- What a table gives that is in the grammar.
use Rattle.std.proofs.Common.{◌≡◌, ℕ, List, ◌∷◌, Option, Some, None, MatchOption, refl, ap, sym}
use Rattle.std.specs.Option.{option_map}
use Rattle.std.specs.FinMap as tables
use Rattle.bdb_keep.specs.Tables.{Tables}
use Rattle.bdb_tables.specs.Codec.{Codec, TableFits, place}
use Rattle.bdb_tables.specs.Writes.{Gives}

module _ {Key Row : Type 0} (c : Codec Key Row) (t : Tables) (fits : TableFits c t) where
  -- the row of bytes that a table has at a key
  abbrev pub row_by : (k : List ℕ) (o : Option (List ℕ)) → tables.get t (c.number ∷ k) ≡ o → Option Row
  row_by k None e = None
  row_by k (Some r) e = Some (fits k r e).row

  -- the row that a table has at a key
  abbrev pub given : Key → Option Row
  given k = row_by (c.key_bytes k) (tables.get t (place c k)) refl

  row_is : (k : List ℕ) (o : Option (List ℕ)) (e : tables.get t (c.number ∷ k) ≡ o) → o ≡ option_map c.row_bytes (row_by k o e)
  row_is k None e = refl
  row_is k (Some r) e = ap Some (sym (fits k r e).row_reads.spelled)

  row_fits : (k : List ℕ) (o : Option (List ℕ)) (e : tables.get t (c.number ∷ k) ≡ o) → MatchOption (row_by k o e) (Unit {0}) c.IsRow
  row_fits k None e = tt
  row_fits k (Some r) e = (fits k r e).row_reads.fits

  pub given_gives : Gives c t given
  given_gives = record {
    fits = fits;
    rows = λ k _. row_is (c.key_bytes k) (tables.get t (place c k)) refl;
    written = λ k _. row_fits (c.key_bytes k) (tables.get t (place c k)) refl;
  }
