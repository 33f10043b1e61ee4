-- How long the keys are that tables show, and what a tuple's key has of its values.
use Rattle.std.proofs.Common.{◌≡◌, ◌∙◌, ℕ, ◌≤◌, ◌<◌, ◌^◌, lit<, Bool, true, false, cond, nat_lt, List, [], ◌∷◌, Option, Some, None, length, take, refl, ap, sym, subst, arith}
use Rattle.std.specs.FinMap as tables
use Rattle.std.specs.List.{list_all}
use Rattle.std.proofs.lemmas.Bool.{cond-true}
use Rattle.std.proofs.lemmas.Bool.Decides.{nat_tests}
use Rattle.bdb_base.specs.Bases.{key_at, is_written}
use Rattle.bdb_base.specs.Clash.{key_of}
use Rattle.bdb_base.specs.declared.kinds.RelDef.{RelDef}
use Rattle.bdb_base.specs.declared.kinds.Value.{Value}
use Rattle.bdb_base.specs.declared.tuple.Tuple.{Tuple}
use Rattle.bdb_base.proofs.ListLemmas.{take_short}
use Rattle.bdb_keep.specs.Tables.{Tables}
use Rattle.bdb_key.specs.Grammar.{IsNum, ArePlain, AreKeyVals}
use Rattle.bdb_key.proofs.Compared.{take_plain}
use Rattle.bdb_tables.specs.Codec.{HasAt, TableFits, place}
use Rattle.bdb_tables.specs.InUse.{HaveKeyTexts, rel_codec}
use Rattle.bdb_tables.specs.Lengths.{HasKeyAt}
use Rattle.bdb_tables.proofs.Held.{rel_fits}
use Rattle.bdb_exec.specs.Readable.{CanBeRun}
use Rattle.bdb_exec.specs.Seen.{length_in, sight_of}
use Rattle.bdb_exec.proofs.LookingLemmas.{written_texts}
use Rattle.bdb_exec.proofs.RelLemmas.{length_of}

-- ---- how long keys are

-- a length is at least 1, and a number of four bytes
abbrev pub IsLength : ℕ → Type 0
IsLength n = (0 < n) × IsNum n

at_row : (t : Tables) (rel : ℕ) (o : Option RelDef) → HasAt rel_codec t rel o → key_at o ≡ length_in (tables.get t (place rel_codec rel))
at_row t rel None none = sym (ap length_in none)
at_row t rel (Some def) some = sym (ap length_in some.found ∙ length_of def some.in_grammar)

-- the length that is read of a relation's row is the one that the tables show
pub length_is : (t : Tables) (rel n : ℕ) → IsNum rel → HasKeyAt t rel n → n ≡ (sight_of t).keys rel
unfolding sight_of
length_is t rel n size h =
    let row = length_in (tables.get t (place rel_codec rel)) in
    h.is ∙ at_row t rel h.definition h.stands ∙ sym (cond-true (nat_lt rel (2 ^ 32)) row 1 (small rel size))
  where
    small : (k : ℕ) → k < 2 ^ 32 → nat_lt k (2 ^ 32) ≡ true
    small k lt = grind (arith, nat_tests)

keys_are : (t : Tables) → TableFits rel_codec t → (rel : ℕ) → IsLength ((sight_of t).keys rel)
unfolding sight_of
keys_are t fits rel = by (nat_lt rel (2 ^ 32))
  where
    least : (n : ℕ) → 1 ≤ n → 0 < n
    least n le = omega (arith, le)

    row : (o : Option (List ℕ)) → tables.get t (place rel_codec rel) ≡ o → IsLength (length_in o)
    row None e = (lit< tt, lit< tt)
    row (Some r) e =
        let entry = fits (rel_codec.key_bytes rel) r e in
        let is : entry.row.key ≡ length_in (Some r) = sym (length_of entry.row entry.row_reads.fits) ∙ ap (λ x. length_in (Some x)) entry.row_reads.spelled in
        subst IsLength is (least entry.row.key entry.row_reads.fits.key.0, entry.row_reads.fits.short)

    by : (b : Bool) → IsLength (cond b (length_in (tables.get t (place rel_codec rel))) 1)
    by true = row (tables.get t (place rel_codec rel)) refl
    by false = (lit< tt, lit< tt)

pub keys_some : (t : Tables) → CanBeRun t → (rel : ℕ) → 0 < (sight_of t).keys rel
keys_some t h rel = (keys_are t (rel_fits t h.grammar) rel).0

pub keys_sized : (t : Tables) → CanBeRun t → (rel : ℕ) → IsNum ((sight_of t).keys rel)
keys_sized t h rel = (keys_are t (rel_fits t h.grammar) rel).1

-- ---- first values

pub take_whole : (vs : List Value) → take (length vs) vs ≡ vs
take_whole [] = refl
take_whole (v ∷ vs) = ap (λ (xs : List Value). v ∷ xs) (take_whole vs)

-- ---- keys of tuples

fewer : (m n : ℕ) → m ≤ n → IsNum n → IsNum m
fewer m n le size = omega (arith, le, size)

-- first plain values, no more than a number of four bytes, may stand in the key of a row
pub key_vals : (n : ℕ) (vs : List Value) → IsNum n → ArePlain vs → AreKeyVals (take n vs)
key_vals n vs size a = record { short = fewer (length (take n vs)) n (take_short n vs) size; plain = take_plain n vs a }

-- a key that is written is one of texts that keys may have
pub key_texts : (n : ℕ) (u : Tuple) (vs : List Value) → IsNum n → vs ≡ key_of (λ _. n) u → list_all is_written vs ≡ true → HaveKeyTexts vs
key_texts n u vs size e w = record {
  short = subst (λ (xs : List Value). IsNum (length xs)) (sym e) (fewer (length (take n u.vals)) n (take_short n u.vals) size);
  texts = written_texts vs w;
}

-- the first values of a tuple, as many as its relation's key has, are its key
pub key_shown : (t : Tables) (rel n : ℕ) (u : Tuple) (vs : List Value) → u.rel ≡ rel → n ≡ (sight_of t).keys rel → vs ≡ key_of (λ _. n) u → vs ≡ key_of (sight_of t).keys u
key_shown t rel n u vs of long e = e ∙ ap (λ (k : ℕ). take k u.vals) (long ∙ ap (λ (r : ℕ). (sight_of t).keys r) (sym of))
