-- Rows of a world that are copied to another one, or taken away, all at once.
use Rattle.std.proofs.Common.{◌≡◌, ◌∙◌, ℕ, zero, suc, ◌+◌, ◌<◌, ◌≤◌, false, List, [], ◌∷◌, ◌++◌, drop, get_or, Option, length, map, refl, sym, ap, subst, arith}
use Rattle.std.specs.List.{AllByRecursion}
use Rattle.std.specs.FinMap as tables
use Rattle.bdb_base.specs.Causes.{Rises, RoseBy}
use Rattle.bdb_keep.specs.Spans.{Listed, AreRowsUnder, with_ends, with_rows, without_rows}
use Rattle.bdb_keep.specs.Tables.{Tables}
use Rattle.bdb_key.specs.Bytes.{num_bytes}
use Rattle.bdb_key.specs.Grammar.{IsNum}
use Rattle.bdb_key.specs.Reading.{Reads}
use Rattle.bdb_key.specs.Rows.{IsAnyMark, mark_bytes}
use Rattle.bdb_tables.specs.Codec.{IsEntryOf}
use Rattle.bdb_tables.specs.Copies.{AreChanged, AreCopiesOf, BecomesCopy, IsCopyOf, copied, removed}
use Rattle.bdb_tables.specs.Grammar.{InGrammar}
use Rattle.bdb_tables.specs.InUse.{ValKey, val_bytes, val_codec}
use Rattle.bdb_tables.specs.InUseLaws.{mark_rows_are_one}
use Rattle.bdb_tables.specs.Marks.{Mark}
use Rattle.bdb_tables.specs.Spans.{AreEntriesOf, Spell, Spells}
use Rattle.bdb_tables.specs.Writes.{IsChange, with_change, with_changes}
use Rattle.bdb_tables.proofs.RangeLemmas.{spelled_under, as_long}
use Rattle.bdb_tables.proofs.WriteLemmas.{change_in_grammar}

-- ---- one row

pub copy_made : (to : ℕ) (key row : List ℕ) (m : Mark) (c : List ℕ × List ℕ) → IsNum to → IsEntryOf val_codec key row → Reads IsAnyMark mark_bytes row m
    → c ≡ (num_bytes to ++ drop 4 key, mark_bytes (m.0, false)) → IsCopyOf to (key, row) c
copy_made to key row m c number e reads is =
    let copy : List ℕ = num_bytes to ++ drop 4 key in
    let spelled : copy ≡ val_bytes (to, e.key.1, e.key.2, e.key.3) = ap (λ k. num_bytes to ++ drop 4 k) (sym e.key_reads.spelled) in
    let same : m ≡ e.row = mark_rows_are_one m e.row tt tt (reads.spelled ∙ sym e.row_reads.spelled) in
    record {
      entry = (e.key, e.row);
      spells = record { key = e.key_reads; row = e.row_reads };
      fits = record { key = record { world = number; rel = e.key_reads.fits.rel; key = e.key_reads.fits.key; tuple = e.key_reads.fits.tuple }; row = tt };
      copy = is ∙ ap (λ (k : List ℕ). (k, mark_bytes (m.0, false))) spelled ∙ ap (λ (x : Mark). (val_bytes (to, e.key.1, e.key.2, e.key.3), mark_bytes (x.0, false))) same;
    }

-- ---- one more of them

-- the first rows of some are copies of rows, and the others are as they were
abbrev pub AreCopiesTo : ℕ → ℕ → Listed → Listed → Type 0
AreCopiesTo to zero rows copies = copies ≡ rows
AreCopiesTo to (suc i) [] copies = copies ≡ []
AreCopiesTo to (suc i) (b ∷ rows) [] = ⊥
AreCopiesTo to (suc i) (b ∷ rows) (c ∷ copies) = IsCopyOf to b c × AreCopiesTo to i rows copies

pub as_many : (to i : ℕ) (rows copies : Listed) → AreCopiesTo to i rows copies → length copies ≡ length rows
as_many to zero rows copies h = ap length h
as_many to (suc i) [] copies h = ap length h
as_many to (suc i) (b ∷ rows) [] h = absurd h
as_many to (suc i) (b ∷ rows) (c ∷ copies) h = ap suc (as_many to i rows copies h.1)

pub next_stays : (to i : ℕ) (rows copies : Listed) → AreCopiesTo to i rows copies → get_or copies i ([], []) ≡ get_or rows i ([], [])
next_stays to zero rows copies h = ap (λ (l : Listed). get_or l 0 ([], [])) h
next_stays to (suc i) [] copies h = ap (λ (l : Listed). get_or l (suc i) ([], [])) h
next_stays to (suc i) (b ∷ rows) [] h = absurd h
next_stays to (suc i) (b ∷ rows) (c ∷ copies) h = next_stays to i rows copies h.1

one_more : (to i : ℕ) (front row : List ℕ) (rows copies : Listed) → i < length rows → IsCopyOf to (get_or rows i ([], [])) (front ++ drop 4 (get_or rows i ([], [])).0, row) → AreCopiesTo to i rows copies
    → AreCopiesTo to (suc i) rows (with_ends front row copies i)
one_more to i front row [] copies lt is h = absurd (omega arith)
one_more to zero front row (b ∷ rows) [] lt is h = absurd cc
one_more to zero front row (b ∷ rows) (c ∷ copies) lt is h =
    let first : c ≡ b = ap (λ (l : Listed). get_or l 0 ([], [])) h in
    let others : copies ≡ rows = ap (λ (l : Listed). drop 1 l) h in
    (subst (λ (x : List ℕ × List ℕ). IsCopyOf to b (front ++ drop 4 x.0, row)) (sym first) is, others)
one_more to (suc i) front row (b ∷ rows) [] lt is h = absurd h
one_more to (suc i) front row (b ∷ rows) (c ∷ copies) lt is h = (h.0, one_more to i front row rows copies (omega arith) is h.1)

pub copies_more : (to i n : ℕ) (rows copies new : Listed) → i < length rows → n ≡ i + 1 → AreCopiesTo to i rows copies → BecomesCopy to i copies new → AreCopiesTo to n rows new
copies_more to i n rows copies new lt next h b =
    let same = next_stays to i rows copies h in
    let is = subst (λ (x : List ℕ × List ℕ). IsCopyOf to x (num_bytes to ++ drop 4 x.0, b.row)) same b.copy in
    let step : n ≡ suc i = omega (arith, next) in
    subst (λ (m : ℕ). AreCopiesTo to m rows new) (sym step) (subst (AreCopiesTo to (suc i) rows) (sym b.becomes) (one_more to i (num_bytes to) b.row rows copies lt is h))

pub copies_all : (to i : ℕ) (rows copies : Listed) → length rows ≤ i → AreCopiesTo to i rows copies → AreCopiesOf to rows copies
copies_all to i [] [] past h = tt
copies_all to zero [] (c ∷ copies) past h = absurd cc
copies_all to (suc i) [] (c ∷ copies) past h = absurd cc
copies_all to zero (b ∷ rows) copies past h = absurd (omega arith)
copies_all to (suc i) (b ∷ rows) [] past h = absurd h
copies_all to (suc i) (b ∷ rows) (c ∷ copies) past h = (h.0, copies_all to i rows copies (omega arith) h.1)

-- ---- all of them

-- rows that have these bytes, and what is made of any tables by a change of each of them
pub record AreMade (change : ValKey × Mark → ValKey × Option Mark) (bytes : Listed) (after : Tables → Tables) : Type 0 where
  pub rows : List (ValKey × Mark)
  pub spelled : Spell val_codec bytes rows
  pub fits : AllByRecursion (IsChange val_codec) (map change rows)
  pub made : (t : Tables) → after t ≡ with_changes val_codec t (map change rows)

abbrev pub with_copies : Listed → Tables → Tables
with_copies copies t = with_rows 11 t copies

abbrev pub without_keys : Listed → Tables → Tables
without_keys bytes t = without_rows 11 t bytes

pub all_copied : (to : ℕ) (bytes copies : Listed) → AreCopiesOf to bytes copies → AreMade (copied to) bytes (with_copies copies)
all_copied to [] [] h = record { rows = []; spelled = tt; fits = tt; made = λ t. refl }
all_copied to [] (c ∷ copies) h = absurd h
all_copied to (b ∷ bytes) [] h = absurd h
all_copied to (b ∷ bytes) (c ∷ copies) h =
    let more = all_copied to bytes copies h.1 in
    record {
      rows = h.0.entry ∷ more.rows;
      spelled = (h.0.spells, more.spelled);
      fits = (h.0.fits, more.fits);
      made = λ t. ap (λ (x : List ℕ × List ℕ). with_rows 11 (tables.insert t (11 ∷ x.0) x.1) copies) h.0.copy ∙ more.made (with_change val_codec t (copied to h.0.entry));
    }

pub all_removed : (bytes : Listed) → AreEntriesOf val_codec bytes → AreMade removed bytes (without_keys bytes)
all_removed [] h = record { rows = []; spelled = tt; fits = tt; made = λ t. refl }
all_removed (b ∷ bytes) h =
    let more = all_removed bytes h.1 in
    record {
      rows = (h.0.key, h.0.row) ∷ more.rows;
      spelled = (record { key = h.0.key_reads; row = h.0.row_reads }, more.spelled);
      fits = (record { key = h.0.key_reads.fits; row = tt }, more.fits);
      made = λ t. ap (λ (k : List ℕ). without_rows 11 (tables.remove t (11 ∷ k)) bytes) (sym h.0.key_reads.spelled) ∙ more.made (with_change val_codec t (removed (h.0.key, h.0.row)));
    }

-- the rows that were read were changed
pub are_changed : (change : ValKey × Mark → ValKey × Option Mark) (t u : Tables) (prefix : List ℕ) (bytes : Listed) (after : Tables → Tables) (n : ℕ)
    → AreRowsUnder t 11 prefix bytes → AreMade change bytes after → u ≡ after t → n ≡ length bytes → AreChanged change t u prefix n
are_changed change t u prefix bytes after n h m made many = record {
  rows = m.rows;
  under = spelled_under val_codec t 11 prefix bytes m.rows refl h m.spelled;
  made = made ∙ m.made t;
  fits = m.fits;
  many = many ∙ sym (as_long (Spells val_codec) bytes m.rows m.spelled);
}

-- ---- the grammar

changes_in_grammar : (t : Tables) (xs : List (ValKey × Option Mark)) → AllByRecursion (IsChange val_codec) xs → InGrammar t → InGrammar (with_changes val_codec t xs)
changes_in_grammar t [] fits h = h
changes_in_grammar t (x ∷ xs) fits h = changes_in_grammar (with_change val_codec t x) xs fits.1 (change_in_grammar val_codec (λ k r e. e) t x fits.0 h)

pub changed_grammar : (change : ValKey × Mark → ValKey × Option Mark) (t u : Tables) (prefix : List ℕ) (n : ℕ) → AreChanged change t u prefix n → InGrammar t → InGrammar u
changed_grammar change t u prefix n h grammar = subst InGrammar (sym h.made) (changes_in_grammar t (map change h.rows) h.fits grammar)

-- ---- how often was read and written

pub reads_then : (before mid now n m : ℕ) → RoseBy (n + 1) before mid → now ≡ mid → m ≡ n → Rises (m + 1) before now
reads_then before mid now n m rose same many below = omega (arith, rose, same, many, below)

pub writes_then : (before mid now n m : ℕ) → mid ≡ before → RoseBy n mid now → m ≡ n → Rises m before now
writes_then before mid now n m same rose many below = omega (arith, rose, same, many, below)
