-- The length of a relation's key, by what stands at its number.
use Rattle.std.proofs.Common.{◌≡◌, ◌∙◌, ℕ, Bool, true, false, cond, List, ◌∷◌, Option, Some, None, refl, ap, sym}
use Rattle.std.specs.FinMap as map
use Rattle.std.specs.List.{slice_get}
use Rattle.bdb_base.specs.Bases.{key_at}
use Rattle.bdb_base.specs.declared.kinds.RelDef.{RelDef}
use Rattle.bdb_keep.specs.Tables.{Tables}
use Rattle.bdb_key.specs.Grammar.{IsNum}
use Rattle.bdb_key.specs.Reading.{Reads}
use Rattle.bdb_tables.specs.Codec.{Codec, HasAt, HasOneRow, IsRowOf, place}
use Rattle.bdb_tables.specs.InUse.{rel_codec}
use Rattle.bdb_tables.specs.InUseLaws.{rel_rows_are_one}
use Rattle.bdb_tables.specs.Lengths.{HasKeyAt, IsKeyLength}
use Rattle.bdb_tables.specs.Writes.{Gives}
use Rattle.bdb_tables.proofs.WriteLemmas.{one_row_of}

module _ {Key Row : Type 0} where
  -- what stands at a key is what a function gives there, where it gives the table
  pub stands_as_given : (c : Codec Key Row) → HasOneRow c → (t : Tables) (f : Key → Option Row) → Gives c t f → (key : Key) → c.IsKey key → (o : Option Row) → HasAt c t key o → o ≡ f key
  stands_as_given c one t f g key fits None h = one_row_of c one None (f key) tt (g.written key fits) (sym h ∙ g.rows key fits)
  stands_as_given c one t f g key fits (Some row) h = one_row_of c one (Some row) (f key) h.in_grammar (g.written key fits) (sym h.found ∙ g.rows key fits)

pub length_of_row : (t : Tables) (rel n : ℕ) (o : Option RelDef) → IsNum rel → n ≡ key_at o → HasAt rel_codec t rel o → IsKeyLength t rel n
length_of_row t rel n o num is stands rels g = is ∙ ap key_at (stands_as_given rel_codec rel_rows_are_one t (slice_get rels) g rel num o stands)

-- the length of the key of what stands at a relation's number is that of the relation's key
pub length_of_key_at : (t : Tables) (rel n : ℕ) → IsNum rel → HasKeyAt t rel n → IsKeyLength t rel n
length_of_key_at t rel n num h = length_of_row t rel n h.definition num h.is h.stands

-- what stands at a relation's number has a key of the length that its row's bytes have, and of 1 where there is no row
pub key_of_row : (t : Tables) (rel n : ℕ) (bytes : List ℕ) → map.get t (place rel_codec rel) ≡ Some bytes → IsRowOf rel_codec bytes
    → ((def : RelDef) → Reads rel_codec.IsRow rel_codec.row_bytes bytes def → n ≡ def.key) → HasKeyAt t rel n
key_of_row t rel n bytes found row is = record {
  definition = Some row.0;
  stands = record { in_grammar = row.1.fits; found = found ∙ ap Some (sym row.1.spelled) };
  is = is row.0 row.1;
}

pub key_of_no_row : (t : Tables) (rel : ℕ) → map.get t (place rel_codec rel) ≡ None → HasKeyAt t rel 1
key_of_no_row t rel found = record { definition = None; stands = found; is = refl }

-- the same, where what a keeper finds there is told
pub found_row : (t : Tables) (k bytes : List ℕ) (b : Bool) → map.get t (3 ∷ k) ≡ cond b (Some bytes) None → b ≡ true → map.get t (3 ∷ k) ≡ Some bytes
found_row t k bytes b found is = found ∙ ap (λ x. cond x (Some bytes) None) is

pub found_none : (t : Tables) (k bytes : List ℕ) (b : Bool) → map.get t (3 ∷ k) ≡ cond b (Some bytes) None → b ≡ false → map.get t (3 ∷ k) ≡ None
found_none t k bytes b found is = found ∙ ap (λ x. cond x (Some bytes) None) is
