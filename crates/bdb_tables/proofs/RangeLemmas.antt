-- Rows that were read at once are all whose keys begin so.
use Rattle.std.proofs.Common.{◌≡◌, ℕ, ◌+◌, ◌<◌, ◌≤◌, zero, suc, true, false, cond, List, [], ◌∷◌, ◌++◌, Some, map, length, take, get_or, refl, sym, ap, subst, ◌∙◌, arith}
use Rattle.std.specs.Prelude.{◌&&◌}
use Rattle.std.specs.declared.cmp.Ordering.{Ordering}
use Rattle.std.specs.declared.cmp.Ordering.TheVariants.{Less, Equal, Greater}
use Rattle.std.specs.Ordering.{is_eq, is_lt, eq_by_cmp, ordering_reverse}
use Rattle.std.specs.List.{list_all, AllByRecursion, AllZip}
use Rattle.std.specs.FinMap as tables
use Rattle.std.specs.FinMap.{find}
use Rattle.std.proofs.lemmas.Bool.{and_parts, false≢true}
use Rattle.std.proofs.lemmas.List.{take_all, take_more}
use Rattle.std.proofs.lemmas.Cmp.{nat_list_cmp_total, eq_by_cmp_equiv}
use Rattle.bdb_base.specs.Causes.{Rises, RoseBy}
use Rattle.bdb_base.specs.Segments.{is_prefix}
use Rattle.bdb_base.specs.SortedSet.{ascending}
use Rattle.bdb_keep.specs.Spans.{Listed, listed_cmp, AreRowsUnder}
use Rattle.bdb_keep.specs.Tables.{Tables, bytes_cmp}
use Rattle.bdb_tables.specs.Codec.{Codec, IsEntryOf, TableFits}
use Rattle.bdb_tables.specs.GroupMarks.{AreNumbered, SpellNumbered, numbered}
use Rattle.bdb_tables.specs.InUse.{ValKey, val_codec}
use Rattle.bdb_tables.specs.Marks.{Mark}
use Rattle.bdb_tables.specs.Spans.{entry_bytes, entry_cmp, IsUnder, AreUnder, AreEntriesOf, Spell}

-- ---- each of some rows in order is found among them

found_below : (x : List ℕ × List ℕ) (bytes xs : Listed) → list_all (λ y. is_lt (listed_cmp x y)) xs ≡ true → AllByRecursion (λ b. find bytes_cmp b.0 bytes ≡ Some b.1) xs
    → AllByRecursion (λ b. find bytes_cmp b.0 (x ∷ bytes) ≡ Some b.1) xs
found_below x bytes [] below h = tt
found_below x bytes (b ∷ xs) below h =
    let both = and_parts (is_lt (listed_cmp x b)) (list_all (λ y. is_lt (listed_cmp x y)) xs) below in
    (ap (λ t. cond t (Some x.1) (find bytes_cmp b.0 bytes)) (apart (bytes_cmp x.0 b.0) refl both.0) ∙ h.0, found_below x bytes xs both.1 h.1)
  where
    apart : (r : Ordering) → bytes_cmp x.0 b.0 ≡ r → is_lt r ≡ true → eq_by_cmp bytes_cmp b.0 x.0 ≡ false
    apart Less e l = ap is_eq (nat_list_cmp_total.antisymm b.0 x.0 ∙ ap ordering_reverse e)
    apart Equal e l = absurd (false≢true l)
    apart Greater e l = absurd (false≢true l)

each_found : (bytes : Listed) → ascending listed_cmp bytes ≡ true → AllByRecursion (λ b. find bytes_cmp b.0 bytes ≡ Some b.1) bytes
each_found [] h = tt
each_found (x ∷ bytes) h =
    let both = and_parts (list_all (λ y. is_lt (listed_cmp x y)) bytes) (ascending listed_cmp bytes) h in
    (ap (λ t. cond t (Some x.1) (find bytes_cmp x.0 bytes)) ((eq_by_cmp_equiv nat_list_cmp_total).refl x.0), found_below x bytes bytes both.0 (each_found bytes both.1))

module _ {Key Row : Type 0} where
  fit_all : (c : Codec Key Row) (t : Tables) (prefix : List ℕ) (bytes xs : Listed) → TableFits c t → ((q : List ℕ) → is_prefix prefix q ≡ true → tables.get t (c.number ∷ q) ≡ find bytes_cmp q bytes)
      → AllByRecursion (λ b. is_prefix prefix b.0 ≡ true) xs → AllByRecursion (λ b. find bytes_cmp b.0 bytes ≡ Some b.1) xs → AreEntriesOf c xs
  fit_all c t prefix bytes [] fits found begins each = tt
  fit_all c t prefix bytes (b ∷ xs) fits found begins each = (fits b.0 b.1 (found b.0 begins.0 ∙ each.0), fit_all c t prefix bytes xs fits found begins.1 each.1)

  -- what was read is of the table
  pub read_fits : (c : Codec Key Row) (t : Tables) (n : ℕ) (prefix : List ℕ) (bytes : Listed) → n ≡ c.number → TableFits c t → AreRowsUnder t n prefix bytes → AreEntriesOf c bytes
  read_fits c t n prefix bytes e fits h =
      fit_all c t prefix bytes bytes fits (λ q begins. ap (λ m. tables.get t (m ∷ q)) (sym e) ∙ h.found q begins) h.each (each_found bytes h.sorted)

  -- ---- rows that are spelled so

  spelled_bytes : (c : Codec Key Row) (bytes : Listed) (es : List (Key × Row)) → Spell c bytes es → map (entry_bytes c) es ≡ bytes
  spelled_bytes c [] [] h = refl
  spelled_bytes c [] (e ∷ es) h = absurd h
  spelled_bytes c (b ∷ bytes) [] h = absurd h
  spelled_bytes c (b ∷ bytes) (e ∷ es) h =
      ap (λ (k : List ℕ). (k, c.row_bytes e.1) ∷ map (entry_bytes c) es) h.0.key.spelled ∙ ap (λ (r : List ℕ). (b.0, r) ∷ map (entry_bytes c) es) h.0.row.spelled
      ∙ ap (λ (l : Listed). b ∷ l) (spelled_bytes c bytes es h.1)

  spelled_each : (c : Codec Key Row) (prefix : List ℕ) (bytes : Listed) (es : List (Key × Row)) → Spell c bytes es → AllByRecursion (λ b. is_prefix prefix b.0 ≡ true) bytes → AllByRecursion (IsUnder c prefix) es
  spelled_each c prefix [] [] h begins = tt
  spelled_each c prefix [] (e ∷ es) h begins = absurd h
  spelled_each c prefix (b ∷ bytes) [] h begins = absurd h
  spelled_each c prefix (b ∷ bytes) (e ∷ es) h begins =
      (record { key = h.0.key.fits; row = h.0.row.fits; begins = ap (is_prefix prefix) h.0.key.spelled ∙ begins.0 }, spelled_each c prefix bytes es h.1 begins.1)

  below_mapped : (c : Codec Key Row) (e : Key × Row) (es : List (Key × Row)) → list_all (λ y. is_lt (listed_cmp (entry_bytes c e) y)) (map (entry_bytes c) es) ≡ list_all (λ y. is_lt (entry_cmp c e y)) es
  below_mapped c e [] = refl
  below_mapped c e (x ∷ es) = ap (λ b. is_lt (entry_cmp c e x) && b) (below_mapped c e es)

  sorted_mapped : (c : Codec Key Row) (es : List (Key × Row)) → ascending listed_cmp (map (entry_bytes c) es) ≡ ascending (entry_cmp c) es
  sorted_mapped c [] = refl
  sorted_mapped c (e ∷ es) =
      ap (λ b. b && ascending listed_cmp (map (entry_bytes c) es)) (below_mapped c e es) ∙ ap (λ b. list_all (λ y. is_lt (entry_cmp c e y)) es && b) (sorted_mapped c es)

  pub spelled_under : (c : Codec Key Row) (t : Tables) (n : ℕ) (prefix : List ℕ) (bytes : Listed) (es : List (Key × Row)) → n ≡ c.number → AreRowsUnder t n prefix bytes → Spell c bytes es → AreUnder c t prefix es
  spelled_under c t n prefix bytes es e h spelled =
      let same : map (entry_bytes c) es ≡ bytes = spelled_bytes c bytes es spelled in
      record {
        each = spelled_each c prefix bytes es spelled h.each;
        sorted = sym (sorted_mapped c es) ∙ ap (ascending listed_cmp) same ∙ h.sorted;
        found = λ q begins. ap (λ m. tables.get t (m ∷ q)) (sym e) ∙ h.found q begins ∙ ap (find bytes_cmp q) (sym same);
      }

-- as many rows as were read
pub as_long : {A B : Type 0} (R : A → B → Type 0) (xs : List A) (ys : List B) → AllZip R xs ys → length ys ≡ length xs
as_long R [] [] h = refl
as_long R [] (y ∷ ys) h = absurd h
as_long R (x ∷ xs) [] h = absurd h
as_long R (x ∷ xs) (y ∷ ys) h = ap suc (as_long R xs ys h.1)

-- ---- by the numbers of their tuples

-- rows that are spelled so, by the numbers of their tuples
pub record SpelledNumbered (bytes : Listed) (xs : List (ℕ × Mark)) : Type 0 where
  pub entries : List (ValKey × Mark)
  pub spelled : Spell val_codec bytes entries
  pub are : xs ≡ map numbered entries

spelled_numbered : (bytes : Listed) (xs : List (ℕ × Mark)) → SpellNumbered bytes xs → SpelledNumbered bytes xs
spelled_numbered [] [] h = record { entries = []; spelled = tt; are = refl }
spelled_numbered [] (x ∷ xs) h = absurd h
spelled_numbered (b ∷ bytes) [] h = absurd h
spelled_numbered (b ∷ bytes) (x ∷ xs) h =
    let more = spelled_numbered bytes xs h.1 in
    record {
      entries = h.0.entry ∷ more.entries;
      spelled = (record { key = h.0.key_reads; row = h.0.row_reads }, more.spelled);
      are = ap (λ (y : ℕ × Mark). y ∷ xs) h.0.is ∙ ap (λ (l : List (ℕ × Mark)). numbered h.0.entry ∷ l) more.are;
    }

pub numbered_under : (t : Tables) (prefix : List ℕ) (bytes : Listed) (xs : List (ℕ × Mark)) → AreRowsUnder t 11 prefix bytes → SpellNumbered bytes xs → AreNumbered t prefix xs
numbered_under t prefix bytes xs h spelled =
    let s = spelled_numbered bytes xs spelled in
    record { entries = s.entries; under = spelled_under val_codec t 11 prefix bytes s.entries refl h s.spelled; are = s.are }

-- ---- row by row

-- the entry at an index is of the table
pub entries_at : {Key Row : Type 0} (c : Codec Key Row) (bytes : Listed) (i : ℕ) (k r : List ℕ) → AreEntriesOf c bytes → i < length bytes → (k, r) ≡ get_or bytes i ([], []) → IsEntryOf c k r
entries_at c [] i k r h lt e = absurd (omega arith)
entries_at c (b ∷ bytes) zero k r h lt e = subst (λ x. IsEntryOf c x.0 x.1) (sym e) h.0
entries_at c (b ∷ bytes) (suc i) k r h lt e = entries_at c bytes i k r h.1 (omega arith) e

-- one row more
zip_push : {X : Type 0} (R : List ℕ × List ℕ → X → Type 0) (bytes : Listed) (xs : List X) (b : List ℕ × List ℕ) (x : X) → AllZip R bytes xs → R b x → AllZip R (bytes ++ b ∷ []) (xs ++ x ∷ [])
zip_push R [] [] b x h here = (here, tt)
zip_push R [] (y ∷ xs) b x h here = absurd h
zip_push R (c ∷ bytes) [] b x h here = absurd h
zip_push R (c ∷ bytes) (y ∷ xs) b x h here = (h.0, zip_push R bytes xs b x h.1 here)

pub zip_more : {X : Type 0} (R : List ℕ × List ℕ → X → Type 0) (bytes : Listed) (xs ys : List X) (i n : ℕ) (b : List ℕ × List ℕ) (x : X) → i < length bytes → b ≡ get_or bytes i ([], []) → AllZip R (take i bytes) xs
    → R b x → ys ≡ xs ++ x ∷ [] → n ≡ i + 1 → AllZip R (take n bytes) ys
zip_more R bytes xs ys i n b x lt is so_far here pushed next =
    let front : take n bytes ≡ take i bytes ++ b ∷ [] = ap (λ k. take k bytes) next ∙ take_more bytes i ([], []) lt ∙ ap (λ c. take i bytes ++ c ∷ []) (sym is) in
    subst (λ l. AllZip R l ys) (sym front) (subst (AllZip R (take i bytes ++ b ∷ [])) (sym pushed) (zip_push R (take i bytes) xs b x so_far here))

-- and all of them
pub zip_all : {X : Type 0} (R : List ℕ × List ℕ → X → Type 0) (bytes : Listed) (xs : List X) (i : ℕ) → length bytes ≤ i → AllZip R (take i bytes) xs → AllZip R bytes xs
zip_all R bytes xs i h z = subst (λ l. AllZip R l xs) (take_all i bytes h) z

pub zip_none : {X : Type 0} (R : List ℕ × List ℕ → X → Type 0) (bytes : Listed) (xs : List X) → xs ≡ [] → AllZip R (take 0 bytes) xs
zip_none R bytes xs e = subst (λ l. AllZip R [] l) (sym e) tt

-- ---- how often was read

pub reads_at_most : (before now n m : ℕ) → RoseBy (n + 1) before now → m ≡ n → now ≤ before + (m + 1)
reads_at_most before now n m rose e = omega (arith, rose, e)

pub reads_each : (before now n m : ℕ) → RoseBy (n + 1) before now → m ≡ n → Rises (m + 1) before now
reads_each before now n m rose e below = omega (arith, rose, e, below)
