-- Lemmas on how many rows are marked, and how the count changes where one row does.
use Rattle.std.proofs.Common.{◌≡◌, ℕ, arith, ◌+◌, ◌<◌, suc, zero, Bool, true, false, cond, ◌&&◌, List, [], ◌∷◌, ◌++◌, Option, Some, None, length, take, drop, get_or, take-suc, refl, sym, ap, ◌∙◌, subst}
use Rattle.std.specs.Prelude.{is_some}
use Rattle.std.specs.List.{AllByRecursion, Contains, IsDistinct}
use Rattle.std.specs.Ordering.{is_eq, eq_by_cmp}
use Rattle.std.specs.declared.cmp.Ordering.{Ordering}
use Rattle.std.specs.declared.cmp.Ordering.TheVariants.{Less, Equal, Greater}
use Rattle.std.specs.FinMap as map
use Rattle.std.specs.FinMap.{find, put, entries-insert, get-entries, len-entries, len-empty}
use Rattle.std.specs.FinMap.Entries.{by_order}
use Rattle.std.proofs.lemmas.Cmp.{nat_list_cmp_total, eq_by_cmp_equiv}
use mathlib.Core.Bool.{true≢false}
use Rattle.std.proofs.lemmas.Bool.{and_parts, eqb-true, eq-eqb}
use Rattle.bdb_base.specs.Same.{same_text}
use Rattle.bdb_base.specs.SameLemmas.{same_text-Decides}
use Rattle.bdb_keep.specs.Tables.{Tables, bytes_cmp, set_at}
use Rattle.bdb_memory.specs.Entries.{Entries, row_of, rows_of, AreAbove, IsAscending}
use Rattle.bdb_keep.specs.Spans.{Listed}
use Rattle.bdb_keep.specs.Marked.{is_marked, has_word, IsMarkedAt, IsMarkedCount}
use Rattle.bdb_memory.specs.Tallies.{is_in, counts_at, one_at, count_among, count_listed, count_in}
use Rattle.bdb_keep.specs.declared.keeper.KeyEnd.{KeyEnd}
use Rattle.bdb_memory.specs.Blocks.{joined}
use Rattle.bdb_memory.proofs.BlocksLemmas.{joined-take-more}
use Rattle.bdb_memory.proofs.EntriesLemmas.{place_at-above}
use Rattle.bdb_keep.proofs.Gets.{get_empty, get_gone}
use Rattle.bdb_keep.proofs.RowsLemmas.{get-set_at, same_place, same_tables, set_at-same, set_at-back}
use Rattle.bdb_memory.proofs.StoreLemmas.{get_rows_of}

none-some : (row : List ℕ) → Some row ≡ None → ⊥
none-some row e = true≢false (ap is_some e)

with_none : (x : ℕ) → x ≡ 0 + x
with_none x = omega arith

-- ---- the count where one row changes
put-new : (tab : ℕ) (end : KeyEnd) (n : ℕ) (k v : List ℕ) (rows : Listed) → find bytes_cmp k rows ≡ None
    → count_listed tab end n (put bytes_cmp k v rows) ≡ one_at tab end n k (Some v) + count_listed tab end n rows
put-new tab end n k v [] h = refl
put-new tab end n k v (r ∷ rows) h = there (bytes_cmp k r.0) h (put-new tab end n k v rows)
  where
    there : (o : Ordering) → cond (is_eq o) (Some r.1) (find bytes_cmp k rows) ≡ None
        → (find bytes_cmp k rows ≡ None → count_listed tab end n (put bytes_cmp k v rows) ≡ one_at tab end n k (Some v) + count_listed tab end n rows)
        → count_listed tab end n (by_order o ((k, v) ∷ r ∷ rows) ((r.0, v) ∷ rows) (r ∷ put bytes_cmp k v rows))
        ≡ one_at tab end n k (Some v) + (one_at tab end n r.0 (Some r.1) + count_listed tab end n rows)
    there Less h more = refl
    there Equal h more = absurd (none-some r.1 h)
    there Greater h more =
        let rest = more h in
        let a : ℕ = one_at tab end n k (Some v) in
        let b : ℕ = one_at tab end n r.0 (Some r.1) in
        ap (λ x. b + x) rest ∙ moved a b (count_listed tab end n rows)
      where
        moved : (a b c : ℕ) → b + (a + c) ≡ a + (b + c)
        moved a b c = omega arith

-- a row, or none, that is put where nothing stood
count-new : (tab : ℕ) (end : KeyEnd) (n : ℕ) (t : Tables) (p : List ℕ) (row : Option (List ℕ)) → map.get t p ≡ None
    → count_in tab end n (set_at t p row) ≡ one_at tab end n p row + count_in tab end n t
count-new tab end n t p None h = ap (count_in tab end n) (set_at-same t p None h) ∙ with_none (count_in tab end n t)
count-new tab end n t p (Some row) h = ap (count_listed tab end n) (entries-insert nat_list_cmp_total t p row) ∙ put-new tab end n p row (map.entries t) (sym (get-entries t p) ∙ h)

-- what is set twice
set_at-twice : (t : Tables) (p : List ℕ) (r s : Option (List ℕ)) → set_at (set_at t p r) p s ≡ set_at t p s
set_at-twice t p r s = same_tables _ _ (λ q. get-set_at (set_at t p r) p s q ∙ ap (cond (eq_by_cmp bytes_cmp q p) s) (get-set_at t p r q) ∙ there (eq_by_cmp bytes_cmp q p) (map.get t q) ∙ sym (get-set_at t p s q))
  where
    there : (b : Bool) (x : Option (List ℕ)) → cond b s (cond b r x) ≡ cond b s x
    there true x = refl
    there false x = refl

-- the count where another row, or none, stands at a place
pub count-set : (tab : ℕ) (end : KeyEnd) (n : ℕ) (t : Tables) (p : List ℕ) (row : Option (List ℕ))
    → one_at tab end n p (map.get t p) + count_in tab end n (set_at t p row) ≡ one_at tab end n p row + count_in tab end n t
count-set tab end n t p row =
    let u = map.remove t p in
    let gone = get_gone t p in
    let after : count_in tab end n (set_at t p row) ≡ one_at tab end n p row + count_in tab end n u =
    ap (count_in tab end n) (sym (set_at-twice t p None row)) ∙ count-new tab end n u p row gone in
    let before : count_in tab end n t ≡ one_at tab end n p (map.get t p) + count_in tab end n u =
    ap (count_in tab end n) (sym (set_at-back t p None)) ∙ count-new tab end n u p (map.get t p) gone in
    joined (one_at tab end n p (map.get t p)) (one_at tab end n p row) (count_in tab end n u) _ _ after before
  where
    joined : (a b c x y : ℕ) → x ≡ b + c → y ≡ a + c → a + x ≡ b + y
    joined a b c x y e f = omega arith

-- ---- the count over entries
-- nothing stands below the first place
pub none-above : (p : List ℕ) (es : Entries) → AreAbove p es → map.get (rows_of es) p ≡ None
none-above p es a = get_rows_of es p ∙ ap row_of (place_at-above p es a)

none-counted : (tab : ℕ) (end : KeyEnd) (n : ℕ) (rows : Listed) → length rows ≡ 0 → count_listed tab end n rows ≡ 0
none-counted tab end n [] e = refl
none-counted tab end n (r ∷ rows) e = absurd (omega arith)

-- no rows count as none
pub count-empty : (tab : ℕ) (end : KeyEnd) (n : ℕ) → count_in tab end n map.empty ≡ 0
count-empty tab end n = none-counted tab end n (map.entries map.empty) (sym (len-entries map.empty) ∙ len-empty bytes_cmp (List ℕ))

-- the rows of ascending entries are counted one by one
pub count-entries : (tab : ℕ) (end : KeyEnd) (n : ℕ) (es : Entries) → IsAscending es → count_among tab end n es ≡ count_in tab end n (rows_of es)
count-entries tab end n [] a = sym (count-empty tab end n)
count-entries tab end n (e ∷ es) a = ap (λ x. one_at tab end n e.0 e.1 + x) (count-entries tab end n es a.1) ∙ sym (count-new tab end n (rows_of es) e.0 e.1 (none-above e.0 es a.0))

-- ---- what the count is
-- the keys that are counted
abbrev marked_keys : ℕ → KeyEnd → ℕ → Entries → List (List ℕ)
marked_keys tab end n [] = []
marked_keys tab end n (e ∷ es) = cond (counts_at tab end n e.0 e.1) (drop 1 e.0 ∷ marked_keys tab end n es) (marked_keys tab end n es)

count-keys : (tab : ℕ) (end : KeyEnd) (n : ℕ) (es : Entries) → length (marked_keys tab end n es) ≡ count_among tab end n es
count-keys tab end n [] = refl
count-keys tab end n (e ∷ es) = there (counts_at tab end n e.0 e.1) (count-keys tab end n es)
  where
    there : (b : Bool) → length (marked_keys tab end n es) ≡ count_among tab end n es
        → length (cond b (drop 1 e.0 ∷ marked_keys tab end n es) (marked_keys tab end n es)) ≡ cond b 1 0 + count_among tab end n es
    there true h = omega arith
    there false h = h ∙ with_none (count_among tab end n es)

-- a key that is counted is that of a place in the table
place_of : (tab : ℕ) (end : KeyEnd) (n : ℕ) (p : List ℕ) (row : Option (List ℕ)) → counts_at tab end n p row ≡ true
    → (r : List ℕ) × (row ≡ Some r) × (is_marked r ≡ true) × (p ≡ tab ∷ drop 1 p) × (has_word end n (drop 1 p) ≡ true)
place_of tab end n p None h = absurd (true≢false (sym h))
place_of tab end n p (Some r) h =
    let outer = and_parts (is_in tab p && is_marked r) (has_word end n (drop 1 p)) h in
    let inner = and_parts (is_in tab p) (is_marked r) outer.0 in
    (r, refl, inner.1, within p inner.0, outer.1)
  where
    within : (q : List ℕ) → is_in tab q ≡ true → q ≡ tab ∷ drop 1 q
    within [] e = absurd (true≢false (sym e))
    within (first ∷ key) e = ap (λ x. x ∷ key) (eqb-true first tab e)

-- and one that isn't, is not
counted_at : (tab : ℕ) (end : KeyEnd) (n : ℕ) (key row : List ℕ) → is_marked row ≡ true → has_word end n key ≡ true → counts_at tab end n (tab ∷ key) (Some row) ≡ true
counted_at tab end n key row m w = ap (λ b. (b && is_marked row) && has_word end n key) (eq-eqb tab tab refl) ∙ ap (λ b. b && has_word end n key) m ∙ w

there-too : (keys : List (List ℕ)) (k key : List ℕ) → Contains keys key → Contains (k ∷ keys) key
there-too keys k key (i, h, e) = (suc i, omega arith, e)

all-mapped : {X : Type 0} (P Q : X → Type 0) → ((x : X) → P x → Q x) → (xs : List X) → AllByRecursion P xs → AllByRecursion Q xs
all-mapped P Q f [] a = tt
all-mapped P Q f (x ∷ xs) a = (f x a.0, all-mapped P Q f xs a.1)

-- a row that is marked among some entries still is with one in front of them
keep-marked : (tab : ℕ) (end : KeyEnd) (n : ℕ) (e : List ℕ × Option (List ℕ)) (es : Entries) → AreAbove e.0 es → (key : List ℕ)
    → IsMarkedAt (rows_of es) tab end n key → IsMarkedAt (rows_of (e ∷ es)) tab end n key
keep-marked tab end n e es a key h = record { row = h.row; found = get-set_at (rows_of es) e.0 e.1 (tab ∷ key) ∙ there (eq_by_cmp bytes_cmp (tab ∷ key) e.0) refl; marked = h.marked; number = h.number }
  where
    there : (b : Bool) → eq_by_cmp bytes_cmp (tab ∷ key) e.0 ≡ b → cond b e.1 (map.get (rows_of es) (tab ∷ key)) ≡ Some h.row
    there true s = absurd (none-some h.row (sym h.found ∙ ap (map.get (rows_of es)) (same_place (tab ∷ key) e.0 s) ∙ none-above e.0 es a))
    there false s = h.found

-- the row of the first entry
first-marked : (tab : ℕ) (end : KeyEnd) (n : ℕ) (e : List ℕ × Option (List ℕ)) (es : Entries) → counts_at tab end n e.0 e.1 ≡ true → IsMarkedAt (rows_of (e ∷ es)) tab end n (drop 1 e.0)
first-marked tab end n e es h =
    let found = place_of tab end n e.0 e.1 h in
    record {
      row = found.0;
      found = ap (map.get (rows_of (e ∷ es))) (sym found.3) ∙ get-set_at (rows_of es) e.0 e.1 e.0
          ∙ ap (λ b. cond b e.1 (map.get (rows_of es) e.0)) ((eq_by_cmp_equiv nat_list_cmp_total).refl e.0) ∙ found.1;
      marked = found.2;
      number = found.4;
    }

each-marked : (tab : ℕ) (end : KeyEnd) (n : ℕ) (es : Entries) → IsAscending es → AllByRecursion (IsMarkedAt (rows_of es) tab end n) (marked_keys tab end n es)
each-marked tab end n [] a = tt
each-marked tab end n (e ∷ es) a =
    there (counts_at tab end n e.0 e.1) refl
    (all-mapped (IsMarkedAt (rows_of es) tab end n) (IsMarkedAt (rows_of (e ∷ es)) tab end n) (keep-marked tab end n e es a.0) (marked_keys tab end n es) (each-marked tab end n es a.1))
  where
    there : (b : Bool) → counts_at tab end n e.0 e.1 ≡ b → AllByRecursion (IsMarkedAt (rows_of (e ∷ es)) tab end n) (marked_keys tab end n es)
        → AllByRecursion (IsMarkedAt (rows_of (e ∷ es)) tab end n) (cond b (drop 1 e.0 ∷ marked_keys tab end n es) (marked_keys tab end n es))
    there true h more = (first-marked tab end n e es h, more)
    there false h more = more

once-marked : (tab : ℕ) (end : KeyEnd) (n : ℕ) (es : Entries) → IsAscending es → IsDistinct same_text (marked_keys tab end n es)
unfolding IsDistinct
once-marked tab end n [] a = tt
once-marked tab end n (e ∷ es) a = there (counts_at tab end n e.0 e.1) refl (once-marked tab end n es a.1)
  where
    apart : counts_at tab end n e.0 e.1 ≡ true → (key : List ℕ) → IsMarkedAt (rows_of es) tab end n key → same_text (drop 1 e.0) key ≡ false
    apart h key m = differ (same_text (drop 1 e.0) key) refl
      where
        differ : (b : Bool) → same_text (drop 1 e.0) key ≡ b → b ≡ false
        differ true s =
            let at : e.0 ≡ tab ∷ key = (place_of tab end n e.0 e.1 h).3 ∙ ap (λ x. tab ∷ x) ((same_text-Decides (drop 1 e.0) key).0 s) in
            absurd (none-some m.row (sym m.found ∙ ap (map.get (rows_of es)) (sym at) ∙ none-above e.0 es a.0))
        differ false s = refl

    there : (b : Bool) → counts_at tab end n e.0 e.1 ≡ b → IsDistinct same_text (marked_keys tab end n es)
        → IsDistinct same_text (cond b (drop 1 e.0 ∷ marked_keys tab end n es) (marked_keys tab end n es))
    there true h more =
        (all-mapped (IsMarkedAt (rows_of es) tab end n) (λ y. same_text (drop 1 e.0) y ≡ false) (apart h) (marked_keys tab end n es) (each-marked tab end n es a.1), more)
    there false h more = more

listed-marked : (tab : ℕ) (end : KeyEnd) (n : ℕ) (es : Entries) (key : List ℕ) → IsMarkedAt (rows_of es) tab end n key → Contains (marked_keys tab end n es) key
listed-marked tab end n [] key m = absurd (none-some m.row (sym m.found ∙ get_empty (tab ∷ key)))
listed-marked tab end n (e ∷ es) key m = there (eq_by_cmp bytes_cmp (tab ∷ key) e.0) refl (sym (get-set_at (rows_of es) e.0 e.1 (tab ∷ key)) ∙ m.found) (listed-marked tab end n es key)
  where
    behind : (b : Bool) → Contains (marked_keys tab end n es) key → Contains (cond b (drop 1 e.0 ∷ marked_keys tab end n es) (marked_keys tab end n es)) key
    behind true c = there-too (marked_keys tab end n es) (drop 1 e.0) key c
    behind false c = c

    there : (b : Bool) → eq_by_cmp bytes_cmp (tab ∷ key) e.0 ≡ b → cond b e.1 (map.get (rows_of es) (tab ∷ key)) ≡ Some m.row → (IsMarkedAt (rows_of es) tab end n key → Contains (marked_keys tab end n es) key) → Contains (marked_keys tab end n (e ∷ es)) key
    there true s found more =
        let at : tab ∷ key ≡ e.0 = same_place (tab ∷ key) e.0 s in
        let counted : counts_at tab end n e.0 e.1 ≡ true = ap (λ r. counts_at tab end n e.0 r) found ∙ ap (λ p. counts_at tab end n p (Some m.row)) (sym at) ∙ counted_at tab end n key m.row m.marked m.number in
        subst (λ b. Contains (cond b (drop 1 e.0 ∷ marked_keys tab end n es) (marked_keys tab end n es)) key) (sym counted) (zero, omega arith, ap (drop 1) (sym at))
    there false s found more =
        behind (counts_at tab end n e.0 e.1) (more (record { row = m.row; found = found; marked = m.marked; number = m.number }))

-- so many rows are marked
pub counted : (tab : ℕ) (end : KeyEnd) (n : ℕ) (es : Entries) → IsAscending es → IsMarkedCount (rows_of es) tab end n (count_among tab end n es)
counted tab end n es a = record {
  keys = marked_keys tab end n es;
  once = once-marked tab end n es a;
  each = each-marked tab end n es a;
  listed = listed-marked tab end n es;
  count = count-keys tab end n es;
}

-- ---- counting one after the other
count-append : (tab : ℕ) (end : KeyEnd) (n : ℕ) (xs ys : Entries) → count_among tab end n (xs ++ ys) ≡ count_among tab end n xs + count_among tab end n ys
count-append tab end n [] ys = with_none (count_among tab end n ys)
count-append tab end n (x ∷ xs) ys = ap (λ k. one_at tab end n x.0 x.1 + k) (count-append tab end n xs ys) ∙ grouped (one_at tab end n x.0 x.1) (count_among tab end n xs) (count_among tab end n ys)
  where
    grouped : (a b c : ℕ) → a + (b + c) ≡ (a + b) + c
    grouped a b c = omega arith

-- one entry more
pub count-more : (tab : ℕ) (end : KeyEnd) (n : ℕ) (es : Entries) (i : ℕ) (d : List ℕ × Option (List ℕ)) → i < length es
    → count_among tab end n (take (i + 1) es) ≡ count_among tab end n (take i es) + one_at tab end n (get_or es i d).0 (get_or es i d).1
count-more tab end n es i d h =
    let next : i + 1 ≡ suc i = omega arith in
    ap (λ k. count_among tab end n (take k es)) next ∙ ap (count_among tab end n) (take-suc es i d h) ∙ count-append tab end n (take i es) (get_or es i d ∷ [])
    ∙ plus_none (count_among tab end n (take i es)) (one_at tab end n (get_or es i d).0 (get_or es i d).1)
  where
    plus_none : (a b : ℕ) → a + (b + 0) ≡ a + b
    plus_none a b = omega arith

-- one block more
pub count-block-more : (tab : ℕ) (end : KeyEnd) (n : ℕ) (bs : List Entries) (i : ℕ) (d : Entries) → i < length bs
    → count_among tab end n (joined (take (i + 1) bs)) ≡ count_among tab end n (joined (take i bs)) + count_among tab end n (get_or bs i d)
count-block-more tab end n bs i d h =
    let next : i + 1 ≡ suc i = omega arith in
    ap (λ k. count_among tab end n (joined (take k bs))) next ∙ ap (count_among tab end n) (joined-take-more bs i d h) ∙ count-append tab end n (joined (take i bs)) (get_or bs i d)
