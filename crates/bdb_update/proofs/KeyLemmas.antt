-- The lengths of keys, and the keys of tuples.
use Rattle.std.proofs.Common.{◌≡◌, ◌∙◌, ℕ, ◌+◌, ◌≤◌, Bool, false, List, [], ◌∷◌, ◌++◌, length, take, Option, Some, None, MatchOption, suc, zero, ap, sym, subst, arith, lit<}
use Rattle.std.specs.List.{slice_get, AllByRecursion}
use Rattle.bdb_base.specs.Bases.{key_at, key_lengths}
use Rattle.bdb_base.specs.Clash.{key_of, same_key}
use Rattle.bdb_base.specs.declared.kinds.RelDef.{RelDef}
use Rattle.bdb_base.specs.declared.kinds.Value.{Value}
use Rattle.bdb_base.specs.declared.tuple.Tuple.{Tuple}
use Rattle.bdb_base.proofs.ClashLemmas.{same_key_by_length}
use Rattle.bdb_base.proofs.ListLemmas.{take_short}
use Rattle.bdb_keep.specs.Tables.{Tables}
use Rattle.bdb_key.specs.Grammar.{IsNum, HasPlainText}
use Rattle.bdb_key.specs.Rows.{IsRelRow}
use Rattle.bdb_tables.specs.Codec.{HasAt}
use Rattle.bdb_tables.specs.InUse.{HaveKeyTexts, rel_codec}
use Rattle.bdb_tables.specs.InUseLaws.{rel_rows_are_one}
use Rattle.bdb_tables.specs.Lengths.{HaveKeyLengths, IsKeyLength}
use Rattle.bdb_tables.specs.Rows.{AreKeyLengths}
use Rattle.bdb_tables.specs.Stored.{SameBut}
use Rattle.bdb_tables.specs.Writes.{Gives}
use Rattle.bdb_tables.proofs.Numbered.{one_more, take_more, take_none}
use Rattle.bdb_tables.proofs.SameLemmas.{gives_still}
use Rattle.bdb_worlds.proofs.ReadLemmas.{found_is}
use Rattle.bdb_update.specs.Keys.{AreRelations}

-- ---- lengths

-- the lengths of the keys of relations that tables have are numbers of four bytes
pub lengths_fit : (t : Tables) (rels : List RelDef) → Gives rel_codec t (slice_get rels) → AreKeyLengths (key_lengths rels)
lengths_fit t rels h rel num = by (slice_get rels rel) (h.written rel num)
  where
    by : (def : Option RelDef) → MatchOption def (Unit {0}) IsRelRow → IsNum (key_at def)
    by None w = lit< tt
    by (Some def) w = w.short

-- the length of a key stays where the table of relations does
pub length_still : (test : ℕ → Bool) (t u : Tables) (rel n : ℕ) → SameBut test t u → test 3 ≡ false → IsKeyLength t rel n → IsKeyLength u rel n
length_still test t u rel n same out h rels g = h rels (gives_still test u t (λ m k q. sym (same m k q)) rel_codec (slice_get rels) out g)

-- these are the first relations, whichever relations tables have
abbrev pub AreFirst : Tables → ℕ → List RelDef → Type 0
AreFirst t n rels = (all : List RelDef) → Gives rel_codec t (slice_get all) → rels ≡ take n all

pub relations_more : (t : Tables) (n : ℕ) (def : RelDef) (rels : List RelDef) → IsNum n → HasAt rel_codec t n (Some def) → AreFirst t n rels → AreFirst t (n + 1) (rels ++ def ∷ [])
relations_more t n def rels num row is all g =
    let at : slice_get all n ≡ Some def = sym (found_is rel_codec rel_rows_are_one t (slice_get all) g n num (Some def) row) in
    ap (λ ys. ys ++ def ∷ []) (is all g) ∙ sym (take_more n all def at) ∙ ap (λ k. take k all) (one_more n)

pub relations_none : (t : Tables) (n : ℕ) (rels : List RelDef) → IsNum n → HasAt rel_codec t n None → AreFirst t n rels → AreRelations t rels
relations_none t n rels num none is all g =
    is all g ∙ take_none n all (sym (found_is rel_codec rel_rows_are_one t (slice_get all) g n num None none))

-- they tell the lengths of all keys
pub relations_tell : (t : Tables) (rels : List RelDef) → AreRelations t rels → HaveKeyLengths t rels
relations_tell t rels is all g = ap key_lengths (is all g)

-- the same of whether two tuples have the same key
pub same_key_of : (keys : ℕ → ℕ) (n : ℕ) (u v : Tuple) → n ≡ keys u.rel → same_key (λ _. n) u v ≡ same_key keys u v
same_key_of keys n u v e = ap (λ (k : ℕ). same_key (λ _. k) u v) e ∙ same_key_by_length keys u v

-- ---- keys

-- the first values of a tuple, as many as its relation's key has, are its key
pub key_by_length : (keys : ℕ → ℕ) (n : ℕ) (u : Tuple) → n ≡ keys u.rel → key_of (λ _. n) u ≡ key_of keys u
key_by_length keys n u e = ap (λ (k : ℕ). take k u.vals) e

take_texts : (n : ℕ) (vs : List Value) → AllByRecursion HasPlainText vs → AllByRecursion HasPlainText (take n vs)
take_texts zero vs h = tt
take_texts (suc n) [] h = tt
take_texts (suc n) (v ∷ vs) h = (h.0, take_texts n vs h.1)

-- a key has not too many values where its length is a number of four bytes
pub key_short : (n : ℕ) (u : Tuple) (key : List Value) → IsNum n → key ≡ key_of (λ _. n) u → IsNum (length key)
key_short n u key num e = subst (λ (vs : List Value). IsNum (length vs)) (sym e) (fewer (take_short n u.vals) num)
  where
    fewer : {k m : ℕ} → k ≤ m → IsNum m → IsNum k
    fewer le lt = omega (arith, le, lt)

-- and it may be written where the texts of its tuple may
pub key_texts : (n : ℕ) (u : Tuple) (key : List Value) → IsNum n → key ≡ key_of (λ _. n) u → AllByRecursion HasPlainText u.vals → HaveKeyTexts key
key_texts n u key num e h = record {
  short = key_short n u key num e;
  texts = subst (AllByRecursion HasPlainText) (sym e) (take_texts n u.vals h);
}

-- these values are a tuple's key, whichever relations tables have
abbrev pub IsKeyIn : Tables → Tuple → List Value → Type 0
IsKeyIn t u key = (rels : List RelDef) → Gives rel_codec t (slice_get rels) → key_of (key_lengths rels) u ≡ key

pub key_in : (t : Tables) (n : ℕ) (u : Tuple) (key : List Value) → key ≡ key_of (λ _. n) u → IsKeyLength t u.rel n → IsKeyIn t u key
key_in t n u key e len rels g = sym (e ∙ key_by_length (key_lengths rels) n u (len rels g))
