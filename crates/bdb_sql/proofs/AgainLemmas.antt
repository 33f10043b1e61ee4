-- The places that were written so far, as a set.
use Rattle.std.proofs.Common.{◌≡◌, ℕ, ◌+◌, true, List, [], ◌∷◌, take, slice_get, Some, Ordering, Less, Equal, Greater, sym, subst, Bor}
use Rattle.std.specs.List.{AllByRecursion}
use Rattle.std.specs.Ordering.{is_eq, match_ordering}
use Rattle.std.specs.BTreeSet.{BTreeSet, insert_key, contains}
use Rattle.sqlite_rules.specs.Lists.{Has}
use Rattle.sqlite_rules.proofs.ListLemmas.{all_has, all_from, some_has}
use Rattle.bdb_keep.specs.Tables.{Tables, bytes_cmp}
use Rattle.bdb_keep.proofs.RowsLemmas.{same_place}
use Rattle.bdb_sql.proofs.BatchLemmas.{still_among, now_among}

-- a table's number and a key
abbrev pub Place : Type 0
Place = ℕ × Bor (List ℕ)

abbrev pub bytes_of : Place → List ℕ
bytes_of p = p.0 ∷ p.1.now

abbrev pub place_cmp : Place → Place → Ordering
place_cmp a b = bytes_cmp (bytes_of a) (bytes_of b)

abbrev pub AreAmong : List (List ℕ) → List Place → Type 0
AreAmong places = AllByRecursion (λ (k : Place). Has places (bytes_of k))

with_key : (P : Place → Type 0) (ks : List Place) (k : Place) → AllByRecursion P ks → P k → AllByRecursion P (insert_key place_cmp ks k)
with_key P [] k all here = (here, tt)
with_key P (x ∷ xs) k all here = go (place_cmp k x) (with_key P xs k all.1 here)
  where
    go : (o : Ordering) → AllByRecursion P (insert_key place_cmp xs k) → AllByRecursion P (match_ordering o (k ∷ x ∷ xs) (x ∷ xs) (x ∷ insert_key place_cmp xs k))
    go Less more = (here, all)
    go Equal more = all
    go Greater more = (all.0, more)

-- the places of the set are those that were written, with one more
pub keep_done : (all : List (List ℕ)) (at : ℕ) (ks : List Place) (k : Place) (now : Tables) → slice_get all at ≡ Some (bytes_of k) → AreAmong (take at all) ks → AreAmong (take (at + 1) all) (insert_key place_cmp ks k)
keep_done all at ks k now is among =
    with_key _ ks k (all_from _ ks (λ x h. still_among all at now (bytes_of k) is (bytes_of x) (all_has _ ks x among h))) (now_among all at now (bytes_of k) is)

-- a place that the set has was written
pub was_written : (places : List (List ℕ)) (s : BTreeSet Place) (k : Place) → contains place_cmp s k ≡ true → AreAmong places s.keys → Has places (bytes_of k)
was_written places s k there among =
    let x = some_has (λ y. is_eq (place_cmp k y)) s.keys there in
    subst (Has places) (sym (same_place (bytes_of k) (bytes_of x.0) x.2)) (all_has _ s.keys x.0 among x.1)
