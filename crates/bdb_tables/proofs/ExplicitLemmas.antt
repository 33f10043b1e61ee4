-- Marked rows of table 11 are explicit ones.
use Rattle.std.proofs.Common.{◌≡◌, ◌∙◌, ℕ, ◌<◌, ◌≤◌, Bool, true, false, nat_lt, List, [], ◌∷◌, length, Some, inl, inr, refl, ap, sym, subst, arith}
use Rattle.std.specs.List.{AllByRecursion}
use Rattle.std.specs.FinMap as tables
use Rattle.std.proofs.lemmas.Bool.{cases_lt, lt-ltb, le-ltb}
use Rattle.bdb_base.specs.SameLemmas.{same_text-Decides}
use Rattle.bdb_base.specs.declared.kinds.Sign.{Sign}
use Rattle.bdb_base.specs.declared.kinds.Sign.TheVariants.{Plus, Minus}
use Rattle.bdb_keep.specs.Marked.{IsMarkedAt, IsMarkedCount, four_bytes, is_marked}
use Rattle.bdb_keep.specs.Tables.{Tables}
use Rattle.bdb_keep.specs.declared.keeper.KeyEnd.{KeyEnd}
use Rattle.bdb_keep.specs.declared.keeper.KeyEnd.TheVariants.{First, Last}
use Rattle.bdb_keep.proofs.MarkedLemmas.{none_marked}
use Rattle.bdb_key.proofs.Alone.{one_num}
use Rattle.bdb_key.specs.Bytes.{num_bytes}
use Rattle.bdb_key.specs.Grammar.{IsNum}
use Rattle.bdb_key.specs.Rows.{mark_bytes}
use Rattle.bdb_tables.specs.Codec.{HasRow, IsEntryOf, TableFits}
use Rattle.bdb_tables.specs.Explicit.{HasExplicitRow, TellsExplicit}
use Rattle.bdb_tables.specs.InUse.{ValKey, IsValKey, val_bytes, val_codec}
use Rattle.bdb_tables.specs.Marks.{Mark}
use Rattle.bdb_tables.proofs.MarkLemmas.{number_at_end}

-- the number in the first or the last four bytes of a key: its world's, or its tuple's
abbrev pub number_at : KeyEnd → ValKey → ℕ
number_at First k = k.0
number_at Last k = k.3

number_fits : (end : KeyEnd) (k : ValKey) → IsValKey k → IsNum (number_at end k)
number_fits First k f = f.world
number_fits Last k f = f.tuple

four_are : (end : KeyEnd) (k : ValKey) → four_bytes end (val_bytes k) ≡ num_bytes (number_at end k)
four_are First k = refl
four_are Last k = number_at_end k

-- a row is marked where it is explicit
marked_is : (g : Sign) (explicit : Bool) → is_marked (mark_bytes (g, explicit)) ≡ explicit
marked_is Plus true = refl
marked_is Plus false = refl
marked_is Minus true = refl
marked_is Minus false = refl

-- an explicit row with this number has these bytes as its key
pub record IsExplicitAt (t : Tables) (end : KeyEnd) (word : ℕ) (bytes : List ℕ) : Type 0 where
  pub key : ValKey
  pub sign : Sign
  pub fits : IsValKey key
  pub number : number_at end key ≡ word
  pub spelled : val_bytes key ≡ bytes
  pub row : HasRow val_codec t key (sign, true)

pub marked_is_explicit : (t : Tables) (end : KeyEnd) (word : ℕ) (bytes : List ℕ) → TableFits val_codec t → IsNum word → IsMarkedAt t 11 end word bytes → IsExplicitAt t end word bytes
marked_is_explicit t end word bytes fit num m =
    let e : IsEntryOf val_codec bytes m.row = fit bytes m.row m.found in
    let marked : e.row.1 ≡ true = sym (marked_is e.row.0 e.row.1) ∙ ap is_marked e.row_reads.spelled ∙ m.marked in
    let four : num_bytes (number_at end e.key) ≡ num_bytes word =
    sym (four_are end e.key) ∙ ap (four_bytes end) e.key_reads.spelled ∙ (same_text-Decides (four_bytes end bytes) (num_bytes word)).0 m.number in
    record {
      key = e.key;
      sign = e.row.0;
      fits = e.key_reads.fits;
      number = one_num (number_at end e.key) word (number_fits end e.key e.key_reads.fits) num four;
      spelled = e.key_reads.spelled;
      row = subst (λ (m : Mark). HasRow val_codec t e.key m) (ap (pair e.row.0) marked) (record { in_grammar = e.row_reads.fits; found = ap (λ k. tables.get t (11 ∷ k)) e.key_reads.spelled ∙ m.found ∙ ap Some (sym e.row_reads.spelled) });
    }
  where
    pair : Sign → Bool → Mark
    pair g b = (g, b)

pub explicit_is_marked : (t : Tables) (end : KeyEnd) (k : ValKey) (g : Sign) → tables.get t (11 ∷ val_bytes k) ≡ Some (mark_bytes (g, true)) → IsMarkedAt t 11 end (number_at end k) (val_bytes k)
explicit_is_marked t end k g found = record {
  row = mark_bytes (g, true);
  found = found;
  marked = marked_is g true;
  number = (same_text-Decides (four_bytes end (val_bytes k)) (num_bytes (number_at end k))).1 (four_are end k);
}

-- where some are counted, a row is marked
pub some_marked : (t : Tables) (tab : ℕ) (end : KeyEnd) (word n : ℕ) → IsMarkedCount t tab end word n → 0 < n → (bytes : List ℕ) × IsMarkedAt t tab end word bytes
some_marked t tab end word n c some = first c.keys c.each c.count
  where
    first : (keys : List (List ℕ)) → AllByRecursion (IsMarkedAt t tab end word) keys → length keys ≡ n → (bytes : List ℕ) × IsMarkedAt t tab end word bytes
    first [] each e = absurd (omega (arith, e, some))
    first (x ∷ xs) each e = (x, each.0)

-- and where none is, none is marked
pub none_there : (t : Tables) (tab : ℕ) (end : KeyEnd) (word n : ℕ) → IsMarkedCount t tab end word n → n ≤ 0 → (bytes : List ℕ) → IsMarkedAt t tab end word bytes → ⊥
none_there t tab end word n c none = none_marked t tab end word (subst (IsMarkedCount t tab end word) (omega (arith, none)) c)

-- whether there are marked rows of a world's number tells whether it has an explicit row
pub count_tells : (t : Tables) (wid n : ℕ) → TableFits val_codec t → IsNum wid → IsMarkedCount t 11 First wid n → TellsExplicit t wid (nat_lt 0 n)
count_tells t wid n fit num counted = elim (cases_lt 0 n) [
  | inl some ↦
      let m = some_marked t 11 First wid n counted some in
      let x = marked_is_explicit t First wid m.0 fit num m.1 in
      subst (TellsExplicit t wid) (sym (lt-ltb 0 n some)) (record { key = x.key; sign = x.sign; fits = x.fits; world = x.number; row = x.row })
  | inr none ↦ subst (TellsExplicit t wid) (sym (le-ltb 0 n none)) (λ (x : HasExplicitRow t wid).
      none_there t 11 First wid n counted none (val_bytes x.key) (subst (λ w. IsMarkedAt t 11 First w (val_bytes x.key)) x.world (explicit_is_marked t First x.key x.sign x.row.found)))
]
