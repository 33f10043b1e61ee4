-- A relation more in the catalog of a stored base.
use Rattle.std.proofs.Common.{◌≡◌, ◌∙◌, ℕ, true, [], ◌∷◌, sym, subst, Some}
use Rattle.std.specs.List.{list_all}
use Rattle.std.specs.FinMap as tables
use Rattle.std.proofs.lemmas.Bool.{and_parts}
use Rattle.std.proofs.lemmas.List.Folds.{list_all-append}
use Rattle.bdb_base.specs.declared.kinds.RelDef.{RelDef}
use Rattle.bdb_base.specs.Bases.{is_valid_relation}
use Rattle.bdb_keep.specs.Tables.{Tables}
use Rattle.bdb_key.specs.Grammar.{IsNum}
use Rattle.bdb_key.specs.Rows.{IsRelRow}
use Rattle.bdb_tables.specs.Codec.{place}
use Rattle.bdb_tables.specs.InUse.{rel_codec}
use Rattle.bdb_tables.specs.Stored.{Stores}
use Rattle.bdb_tables.proofs.Fitting.{relation_row}
use Rattle.bdb_update.specs.Keeping.{SameNumbers}
use Rattle.bdb_update.proofs.StayLemmas.{same_by_relation}
use Rattle.bdb_update.proofs.StoreLemmas.{put_stores_relation}
use Rattle.bdb_catalog.specs.Creating.{SomeMayAddRelation, AddsRelation, with_one_relation}

-- a relation that may be added
pub relation_may_be : (t : Tables) (rel : ℕ) (def : RelDef) → SomeMayAddRelation t rel def → IsRelRow def
relation_may_be t rel def h =
    let rels = h.base.catalog.rels in
    relation_row def (and_parts (is_valid_relation def) true (and_parts (list_all is_valid_relation rels) (list_all is_valid_relation (def ∷ [])) (sym (list_all-append is_valid_relation rels (def ∷ [])) ∙ h.may.valid.catalog.rels_valid)).1).0

pub relation_added : (t u : Tables) (rel : ℕ) (def : RelDef) → IsNum rel → IsRelRow def → u ≡ tables.insert t (place rel_codec rel) (rel_codec.row_bytes def) → AddsRelation t u rel def
relation_added t u rel def num fits put b h = record {
  stored = subst (λ v. Stores v (with_one_relation b def)) (sym put) (put_stores_relation t b rel def h.base.stored h.base.valid.stmts.belong h.next num fits);
  valid = h.valid;
}

-- worlds and tuples keep their numbers
pub relation_keeps : (t u : Tables) (rel : ℕ) (def : RelDef) → u ≡ tables.insert t (place rel_codec rel) (rel_codec.row_bytes def) → SameNumbers t u
relation_keeps t u rel def put = subst (SameNumbers t) (sym put) (same_by_relation t rel (Some def))
