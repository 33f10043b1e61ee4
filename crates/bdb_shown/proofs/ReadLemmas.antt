-- Rows that were read with the bytes of their tuples are the rows of a world.
use Rattle.std.proofs.Common.{◌≡◌, ◌∙◌, ℕ, zero, suc, ◌+◌, ◌-◌, ◌*◌, ◌<◌, ◌≤◌, true, List, [], ◌∷◌, Some, Ok, Err, is_some, length, map, drop, get_or, refl, sym, ap, subst, arith}
use Rattle.std.specs.FinMap as tables
use Rattle.std.specs.List.{AllByRecursion, AllZip}
use Rattle.bdb_base.specs.Causes.{RoseBy}
use Rattle.bdb_keep.specs.Calls.{IsRead}
use Rattle.bdb_keep.specs.Seen.{Seen, NeverFall, Steps}
use Rattle.bdb_keep.specs.Spans.{Listed, AreRowsUnder}
use Rattle.bdb_keep.specs.Tables.{Tables}
use Rattle.bdb_key.specs.Bytes.{num_bytes}
use Rattle.bdb_key.specs.Reading.{Reads}
use Rattle.bdb_shown.specs.Rows.{AreRawRows, HasTupleFor, Spell, StandsWithTuple, StandWithTuples}
use Rattle.bdb_tables.specs.Codec.{IsEntryOf, place}
use Rattle.bdb_tables.specs.Grammar.{InGrammar}
use Rattle.bdb_tables.specs.InUse.{ValKey, IsValKey, val_bytes, tuple_codec, val_codec}
use Rattle.bdb_tables.specs.Marks.{Mark}
use Rattle.bdb_tables.specs.Spans.{AreEntriesOf, AreUnder, Spell as EntriesSpell}
use Rattle.bdb_tables.proofs.Loops.{counts_then, goes_then, steps_err, steps_ok}
use Rattle.bdb_tables.proofs.RangeLemmas.{read_fits, spelled_under}
use Rattle.bdb_tables.proofs.MarkLemmas.{number_at_end, long_enough}
use Rattle.bdb_val.specs.Reads.{AreReadUnder, AreTold, HaveTuples}
use Rattle.bdb_val.specs.WorldReads.{held_row}
use Rattle.bdb_val.specs.declared.stored.StoredRow.{StoredRow}
use Rattle.bdb_val.proofs.ToldLemmas.{Stands, entries_stand}

-- ---- one read after another

pub read_then_ok : {T U V E F : Type 0} (old a b : Seen) (x : T) (y : U) (z : V) (fault : E) (other : F) → IsRead {T = T} {E = E} old a (Ok x) fault
    → b.kept ≡ a.kept → b.writes ≡ a.writes → NeverFall a b → Steps {T = U} {E = F} a b (Ok y) other → IsRead {T = V} {E = F} old b (Ok z) other
read_then_ok old a b x y z fault other r kept writes counts steps = record {
  rest = r.rest;
  kept = kept ∙ r.kept;
  writes = writes ∙ r.writes;
  counts = counts_then old a b r.counts counts;
  steps = steps_ok old b z other (goes_then old a b r.steps.ok steps.ok);
}

pub read_then_err : {T U V E F : Type 0} (old a b : Seen) (x : T) (e : F) (fault : E) (other : F) → IsRead {T = T} {E = E} old a (Ok x) fault
    → b.writes ≡ a.writes → NeverFall a b → Steps {T = U} {E = F} a b (Err e) other → IsRead {T = V} {E = F} old b (Err e) other
read_then_err old a b x e fault other r writes counts steps = record {
  rest = r.rest;
  kept = tt;
  writes = writes ∙ r.writes;
  counts = counts_then old a b r.counts counts;
  steps = steps_err old a b e other r.steps.ok steps;
}

pub reads_of_both : (a b c n m : ℕ) → RoseBy (n + 1) a b → c ≤ b + m → m ≡ n → c ≤ a + (2 * m + 1)
reads_of_both a b c n m rose more same = omega (arith, rose, more, same)

-- ---- the entries that rows are

-- the keys and marks that the bytes of rows are
abbrev entries : (rows : Listed) → AreEntriesOf val_codec rows → List (ValKey × Mark)
entries [] h = []
entries (b ∷ rows) h = (h.0.key, h.0.row) ∷ entries rows h.1

entries_spell : (rows : Listed) (h : AreEntriesOf val_codec rows) → EntriesSpell val_codec rows (entries rows h)
entries_spell [] h = tt
entries_spell (b ∷ rows) h = (record { key = h.0.key_reads; row = h.0.row_reads }, entries_spell rows h.1)

module _ (t : Tables) (prefix : List ℕ) (rows : Listed) (grammar : InGrammar t) (under : AreRowsUnder t 11 prefix rows) where
  abbrev fits : AreEntriesOf val_codec rows
  fits = read_fits val_codec t 11 prefix rows refl (λ k r found. grammar 11 k r found) under

  abbrev entries_under : AreUnder val_codec t prefix (entries rows fits)
  entries_under = spelled_under val_codec t 11 prefix rows (entries rows fits) refl under (entries_spell rows fits)

  -- each row's tuple has its row
  pub rows_stand : HaveTuples t → StandWithTuples t rows
  rows_stand have = go rows fits (entries_stand t prefix (entries rows fits) entries_under)
    where
      go : (rs : Listed) (h : AreEntriesOf val_codec rs) → AllByRecursion (Stands t) (entries rs h) → StandWithTuples t rs
      go [] h s = tt
      go (r ∷ rs) h s = (record { key = h.0.key; reads = h.0.key_reads; there = have h.0.key s.0.0 s.0.1 }, go rs h.1 s.1)

-- ---- row by row

-- the row at an index is one of those of which something holds
pub each_at : (P : List ℕ × List ℕ → Type 0) (rows : Listed) (i : ℕ) (k r : List ℕ) → AllByRecursion P rows → i < length rows → (k, r) ≡ get_or rows i ([], []) → P (k, r)
each_at P [] i k r h lt e = absurd (omega arith)
each_at P (b ∷ rows) zero k r h lt e = subst P (sym e) h.0
each_at P (b ∷ rows) (suc i) k r h lt e = each_at P rows i k r h.1 (omega arith) e

-- the last four bytes of a row's key are its tuple's number
pub number_last : (key last : List ℕ) (k : ValKey) → Reads IsValKey val_bytes key k → last ≡ drop (length key - 4) key → last ≡ num_bytes k.3
number_last key last k r e = e ∙ ap (λ b. drop (length b - 4) b) (sym r.spelled) ∙ number_at_end k

pub has_four : (key : List ℕ) (k : ValKey) → Reads IsValKey val_bytes key k → 4 ≤ length key
has_four key k r = subst (λ b. 4 ≤ length b) r.spelled (long_enough k)

-- the tuple's row is there still
pub there_still : (t u : Tables) (key last : List ℕ) (k : ValKey) → u ≡ t → Reads IsValKey val_bytes key k → last ≡ drop (length key - 4) key
    → is_some (tables.get t (place tuple_codec k.3)) ≡ true → is_some (tables.get u (4 ∷ last)) ≡ true
there_still t u key last k same r e there = ap (λ v. is_some (tables.get v (4 ∷ last))) same ∙ ap (λ b. is_some (tables.get t (4 ∷ b))) (number_last key last k r e) ∙ there

-- a row with the bytes that stand at its tuple's number
pub with_tuple : (t : Tables) (key mark last tuple : List ℕ) (s : StandsWithTuple t (key, mark)) → last ≡ drop (length key - 4) key → tables.get t (4 ∷ last) ≡ Some tuple
    → HasTupleFor t (key, mark) (tuple, mark)
with_tuple t key mark last tuple s e found = record {
  tuple = λ k r. ap (λ b. tables.get t (4 ∷ b)) (sym (number_last key last k r e)) ∙ found;
  mark = refl;
}

-- ---- the rows of a world

-- the rows with their tuples, as they are stored, and spelled
pub record AreStored (t : Tables) (prefix : List ℕ) (rows : Listed) : Type 0 where
  pub stored : List StoredRow
  pub read : AreReadUnder t prefix stored
  pub spelled : Spell rows (map held_row stored)

pub record AreToldSo (t : Tables) (es : List (ValKey × Mark)) (rows : Listed) : Type 0 where
  pub stored : List StoredRow
  pub told : AreTold t es stored
  pub spelled : Spell rows (map held_row stored)

told_so : (t : Tables) → InGrammar t → (marks rows : Listed) (h : AreEntriesOf val_codec marks) → AllZip (HasTupleFor t) marks rows → AreToldSo t (entries marks h) rows
told_so t grammar [] [] h z = record { stored = []; told = tt; spelled = tt }
told_so t grammar [] (r ∷ rows) h z = absurd z
told_so t grammar (m ∷ marks) [] h z = absurd z
told_so t grammar (m ∷ marks) (r ∷ rows) h z =
    let rest = told_so t grammar marks rows h.1 z.1 in
    let found = z.0.tuple h.0.key h.0.key_reads in
    let entry : IsEntryOf tuple_codec (num_bytes h.0.key.3) r.0 = grammar 4 (num_bytes h.0.key.3) r.0 found in
    let here : StoredRow = record { tid = h.0.key.3; tuple = entry.row; mark = h.0.row } in
    record {
      stored = here ∷ rest.stored;
      told = (record { tid = refl; mark = refl; tuple = record { in_grammar = entry.row_reads.fits; found = found ∙ ap Some (sym entry.row_reads.spelled) } }, rest.told);
      spelled = (record { tuple = entry.row_reads; mark = record { fits = tt; spelled = h.0.row_reads.spelled ∙ sym z.0.mark } }, rest.spelled);
    }

pub are_stored : (t : Tables) (prefix : List ℕ) (rows : Listed) → InGrammar t → AreRawRows t prefix rows → AreStored t prefix rows
are_stored t prefix rows grammar raw =
    let told = told_so t grammar raw.stored rows (fits t prefix raw.stored grammar raw.under) raw.tuples in
    record { stored = told.stored; read = record { entries = entries raw.stored (fits t prefix raw.stored grammar raw.under); under = entries_under t prefix raw.stored grammar raw.under; told = told.told }; spelled = told.spelled }

length_spelled : (rows : Listed) (stored : List StoredRow) → Spell rows (map held_row stored) → length rows ≡ length stored
length_spelled [] [] z = refl
length_spelled [] (s ∷ stored) z = absurd z
length_spelled (r ∷ rows) [] z = absurd z
length_spelled (r ∷ rows) (s ∷ stored) z = ap suc (length_spelled rows stored z.1)

pub rows_stored : (t : Tables) (prefix : List ℕ) (rows : Listed) (h : AreStored t prefix rows) → length rows ≡ length h.stored
rows_stored t prefix rows h = length_spelled rows h.stored h.spelled
