-- Rows as they are read, one more at a time.
use Rattle.std.proofs.Common.{◌≡◌, ◌∙◌, ℕ, ◌+◌, ◌<◌, true, List, [], ◌∷◌, ◌++◌, length, take, get_or, is_some, map, ap, sym, subst}
use Rattle.std.specs.List.{AllByRecursion}
use Rattle.std.specs.FinMap as tables
use Rattle.std.proofs.lemmas.List.{take_more}
use Rattle.bdb_keep.specs.Tables.{Tables}
use Rattle.bdb_tables.specs.Codec.{HasRow, place}
use Rattle.bdb_tables.specs.GroupMarks.{numbered}
use Rattle.bdb_tables.specs.InUse.{ValKey, IsValKey, val_bytes, tuple_codec, val_codec}
use Rattle.bdb_tables.specs.Spans.{AreUnder, IsUnder}
use Rattle.bdb_tables.specs.Marks.{Mark}
use Rattle.bdb_val.specs.Reads.{AreTold, HaveTuples}
use Rattle.bdb_val.specs.declared.stored.StoredRow.{StoredRow}
use Rattle.bdb_val.proofs.ReadLemmas.{rows_at, entry_found}

-- a row's key is in the grammar, and the table has the row
abbrev pub Stands : Tables → ValKey × Mark → Type 0
Stands t e = IsValKey e.0 × (is_some (tables.get t (place val_codec e.0)) ≡ true)

-- rows under a beginning stand
pub entries_stand : (t : Tables) (prefix : List ℕ) (es : List (ValKey × Mark)) → AreUnder val_codec t prefix es → AllByRecursion (Stands t) es
entries_stand t prefix es u = go es u.each (entry_found es es (λ q s. s))
  where
    go : (ds : List (ValKey × Mark)) → AllByRecursion (IsUnder val_codec prefix) ds → AllByRecursion (λ e. is_some (rows_at es (val_bytes e.0)) ≡ true) ds → AllByRecursion (Stands t) ds
    go [] a s = tt
    go (d ∷ ds) a s = ((a.0.key, ap is_some (u.found (val_bytes d.0) a.0.begins) ∙ s.0), go ds a.1 s.1)

-- ---- rows by the numbers of their tuples

-- a row with its tuple is that of a number
pub record IsToldAt (t : Tables) (n : ℕ × Mark) (x : StoredRow) : Type 0 where
  pub tid : x.tid ≡ n.0
  pub mark : x.mark ≡ n.1
  pub tuple : HasRow tuple_codec t x.tid x.tuple

-- rows with their tuples are those of numbers, one by one
abbrev pub AreToldAt : Tables → List (ℕ × Mark) → List StoredRow → Type 0
AreToldAt t [] [] = Unit {0}
AreToldAt t [] (x ∷ xs) = ⊥
AreToldAt t (n ∷ ns) [] = ⊥
AreToldAt t (n ∷ ns) (x ∷ xs) = IsToldAt t n x × AreToldAt t ns xs

told_at_push : (t : Tables) (ns : List (ℕ × Mark)) (n : ℕ × Mark) (xs : List StoredRow) (x : StoredRow) → AreToldAt t ns xs → IsToldAt t n x → AreToldAt t (ns ++ n ∷ []) (xs ++ x ∷ [])
told_at_push t [] n [] x a h = (h, tt)
told_at_push t [] n (y ∷ ys) x a h = absurd a
told_at_push t (m ∷ ms) n [] x a h = absurd a
told_at_push t (m ∷ ms) n (y ∷ ys) x a h = (a.0, told_at_push t ms n ys x a.1 h)

-- one row more
pub told_at_more : (t : Tables) (ns : List (ℕ × Mark)) (i : ℕ) (n : ℕ × Mark) (x : StoredRow) (xs : List StoredRow) → i < length ns → n ≡ get_or ns i n
    → AreToldAt t (take i ns) xs → IsToldAt t n x → AreToldAt t (take (i + 1) ns) (xs ++ x ∷ [])
told_at_more t ns i n x xs lt is a h =
    subst (λ ms. AreToldAt t ms (xs ++ x ∷ [])) (sym (take_more ns i n lt ∙ ap (λ y. take i ns ++ y ∷ []) (sym is))) (told_at_push t (take i ns) n xs x a h)

-- rows that are told by numbers are those of the table
pub told_entries : (t : Tables) (es : List (ValKey × Mark)) (xs : List StoredRow) → AreToldAt t (map numbered es) xs → AreTold t es xs
told_entries t [] [] a = tt
told_entries t [] (x ∷ xs) a = absurd a
told_entries t (e ∷ es) [] a = absurd a
told_entries t (e ∷ es) (x ∷ xs) a = (record { tid = a.0.tid; mark = a.0.mark; tuple = a.0.tuple }, told_entries t es xs a.1)

-- the number of each row has a tuple
pub numbers_stand : (t : Tables) (ns : List (ℕ × Mark)) (es : List (ValKey × Mark)) → HaveTuples t → AllByRecursion (Stands t) es → ns ≡ map numbered es
    → AllByRecursion (λ n. is_some (tables.get t (place tuple_codec n.0)) ≡ true) ns
numbers_stand t ns es h a e = subst (AllByRecursion (λ n. is_some (tables.get t (place tuple_codec n.0)) ≡ true)) (sym e) (go es a)
  where
    go : (ds : List (ValKey × Mark)) → AllByRecursion (Stands t) ds → AllByRecursion (λ n. is_some (tables.get t (place tuple_codec n.0)) ≡ true) (map numbered ds)
    go [] b = tt
    go (d ∷ ds) b = (h d.0 b.0.0 b.0.1, go ds b.1)
