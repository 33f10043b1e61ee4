-- Lemmas on the rows whose places begin with some bytes.
use Rattle.std.proofs.Common.{◌≡◌, ℕ, zero, suc, ◌+◌, ◌<◌, ◌≤◌, Bool, true, false, cond, List, [], ◌∷◌, ◌++◌, length, take, drop, get_or, Option, Some, None, refl, sym, ap, ◌∙◌, append_assoc, append-nil, subst, arith, inl, inr}
use Rattle.std.specs.Prelude.{IsTrue, nat_eq}
use Rattle.std.specs.declared.cmp.Ordering.TheVariants.{Less}
use Rattle.std.specs.Ordering.{is_le, is_eq, is_lt, eq_by_cmp, ordering_then}
use Rattle.std.specs.List.{AllByRecursion, list_all}
use Rattle.std.specs.FinMap.{find}
use Rattle.std.proofs.lemmas.Bool.{and_parts, and_from, eqb-true, false_from_ne_true}
use Rattle.std.proofs.lemmas.Cmp.{nat_list_cmp_total, eq_by_cmp_equiv}
use Rattle.std.proofs.lemmas.List.{take-append-drop}
use Rattle.std.proofs.Math.Seq.{take-suc, drop-cons}
use mathlib.Core.Bool.{true≢false}
use Rattle.bdb_base.specs.Segments.{is_prefix}
use Rattle.bdb_base.specs.SortedSet.{ascending}
use Rattle.bdb_base.proofs.Numbers.{equal}
use Rattle.bdb_keep.specs.Tables.{bytes_cmp}
use Rattle.bdb_memory.specs.Entries.{Entries, row_of, place_at, rows_of, AreBelow, AreAbove, NoneBelow, IsAscending}
use Rattle.bdb_memory.specs.Blocks.{joined, before, after, AreSorted, IsBoundary, IsBlockFor}
use Rattle.bdb_keep.specs.Spans.{Listed, listed_cmp, AreRowsUnder}
use Rattle.bdb_memory.specs.Under.{row_under, entries_under, HasPast}
use Rattle.bdb_memory.proofs.BlocksLemmas.{split, after-start, after-end}
use Rattle.bdb_memory.proofs.EntriesLemmas.{ascending-parts, place_at-above}
use Rattle.bdb_memory.proofs.StoreLemmas.{get_rows_of}
use Rattle.bdb_keep.proofs.RowsLemmas.{same_place}
use Rattle.bdb_keep.proofs.OrderLemmas.{nat_same, prefix_le, prefix_convex, less_not_le}
use Rattle.bdb_memory.proofs.ShelvesLemmas.{parts, shelf-below}

-- ---- bytes that begin so

-- ---- rows that begin so

pub under-append : (p : List ℕ) (xs ys : Entries) → entries_under p (xs ++ ys) ≡ entries_under p xs ++ entries_under p ys
under-append p [] ys = refl
under-append p (x ∷ xs) ys = ap (λ r. row_under p x.0 x.1 ++ r) (under-append p xs ys) ∙ sym (append_assoc (row_under p x.0 x.1) (entries_under p xs) (entries_under p ys))

-- a place that doesn't begin so gives no row
pub row_under-other : (p place : List ℕ) (r : Option (List ℕ)) → is_prefix p place ≡ false → row_under p place r ≡ []
row_under-other p place None h = refl
row_under-other p place (Some row) h = ap (λ b. cond b ((drop 1 place, row) ∷ []) []) h

-- what is below doesn't begin so
pub below-under : (p : List ℕ) (xs : Entries) → AreBelow p xs → entries_under p xs ≡ []
below-under p [] b = refl
below-under p (x ∷ xs) b =
    ap (λ r. r ++ entries_under p xs) (row_under-other p x.0 x.1 (false_from_ne_true (is_prefix p x.0) (λ h. true≢false (sym (prefix_le p x.0 h) ∙ less_not_le x.0 p b.0))))
    ∙ below-under p xs b.1

-- nor does what is above a place that is past
above-under : (p k : List ℕ) (ys : Entries) → IsTrue (is_le (bytes_cmp p k)) → is_prefix p k ≡ false → AreAbove k ys → entries_under p ys ≡ []
above-under p k [] l n a = refl
above-under p k (y ∷ ys) l n a =
    ap (λ r. r ++ entries_under p ys) (row_under-other p y.0 y.1 (false_from_ne_true (is_prefix p y.0) (λ h. true≢false (sym (prefix_convex p k y.0 h l (ap is_le a.0)) ∙ n))))
    ∙ above-under p k ys l n a.1

above-append : (k : List ℕ) (xs ys : Entries) → AreAbove k (xs ++ ys) → AreAbove k ys
above-append k [] ys a = a
above-append k (x ∷ xs) ys a = above-append k xs ys a.1

pub past-under : (p : List ℕ) (ys zs : Entries) → HasPast p ys → IsAscending (ys ++ zs) → entries_under p zs ≡ []
past-under p [] zs h a = absurd h
past-under p (y ∷ ys) zs (inl h) a = above-under p y.0 zs h.0 h.1 (above-append y.0 ys zs a.0)
past-under p (y ∷ ys) zs (inr h) a = past-under p ys zs h a.1

pub past-append : (p : List ℕ) (xs ys zs : Entries) → HasPast p ys → HasPast p (xs ++ (ys ++ zs))
past-append p (x ∷ xs) ys zs h = inr (past-append p xs ys zs h)
past-append p [] (y ∷ ys) zs (inl h) = inl h
past-append p [] (y ∷ ys) zs (inr h) = inr (past-append p [] ys zs h)
past-append p [] [] zs h = absurd h

-- ---- all rows of a table whose keys begin so

module _ (tab : ℕ) (prefix : List ℕ) where
  -- such a place is the table's, and its key begins so
  place_parts : (place : List ℕ) → is_prefix (tab ∷ prefix) place ≡ true → (place ≡ tab ∷ drop 1 place) × (is_prefix prefix (drop 1 place) ≡ true)
  place_parts [] h = absurd (true≢false (sym h))
  place_parts (j ∷ q) h =
      let both = and_parts (nat_eq tab j) (is_prefix prefix q) h in
      (ap (λ n. n ∷ q) (sym (eqb-true tab j both.0)), both.1)

  place_begins : (q : List ℕ) → is_prefix prefix q ≡ true → is_prefix (tab ∷ prefix) (tab ∷ q) ≡ true
  place_begins q h = and_from (nat_eq tab tab) (is_prefix prefix q) (nat_same tab tab refl) h

  inside : (a b : List ℕ) → bytes_cmp (tab ∷ a) (tab ∷ b) ≡ bytes_cmp a b
  inside a b = ap (λ r. ordering_then r (bytes_cmp a b)) (equal tab)

  -- their keys begin so
  each_here : (place : List ℕ) (r : Option (List ℕ)) (rest : Listed) → AllByRecursion (λ r. is_prefix prefix r.0 ≡ true) rest → AllByRecursion (λ r. is_prefix prefix r.0 ≡ true) (row_under (tab ∷ prefix) place r ++ rest)
  each_here place None rest more = more
  each_here place (Some row) rest more = there (is_prefix (tab ∷ prefix) place) refl
    where
      there : (b : Bool) → is_prefix (tab ∷ prefix) place ≡ b → AllByRecursion (λ r. is_prefix prefix r.0 ≡ true) (cond b ((drop 1 place, row) ∷ []) [] ++ rest)
      there true h = ((place_parts place h).1, more)
      there false h = more

  each_under : (es : Entries) → AllByRecursion (λ r. is_prefix prefix r.0 ≡ true) (entries_under (tab ∷ prefix) es)
  each_under [] = tt
  each_under (e ∷ es) = each_here e.0 e.1 (entries_under (tab ∷ prefix) es) (each_under es)

  -- a key is below those of the places above it
  below_here : (k row place : List ℕ) (r : Option (List ℕ)) (rest : Listed) → bytes_cmp (tab ∷ k) place ≡ Less → list_all (λ y. is_lt (listed_cmp (k, row) y)) rest ≡ true
      → list_all (λ y. is_lt (listed_cmp (k, row) y)) (row_under (tab ∷ prefix) place r ++ rest) ≡ true
  below_here k row place None rest l more = more
  below_here k row place (Some s) rest l more = there (is_prefix (tab ∷ prefix) place) refl
    where
      lt : is_prefix (tab ∷ prefix) place ≡ true → is_lt (bytes_cmp k (drop 1 place)) ≡ true
      lt h = ap is_lt (sym (inside k (drop 1 place)) ∙ ap (bytes_cmp (tab ∷ k)) (sym (place_parts place h).0) ∙ l)

      there : (b : Bool) → is_prefix (tab ∷ prefix) place ≡ b → list_all (λ y. is_lt (listed_cmp (k, row) y)) (cond b ((drop 1 place, s) ∷ []) [] ++ rest) ≡ true
      there true h = and_from (is_lt (bytes_cmp k (drop 1 place))) (list_all (λ y. is_lt (listed_cmp (k, row) y)) rest) (lt h) more
      there false h = more

  below_under : (k row : List ℕ) (es : Entries) → AreAbove (tab ∷ k) es → list_all (λ y. is_lt (listed_cmp (k, row) y)) (entries_under (tab ∷ prefix) es) ≡ true
  below_under k row [] a = refl
  below_under k row (e ∷ es) a = below_here k row e.0 e.1 (entries_under (tab ∷ prefix) es) a.0 (below_under k row es a.1)

  sorted_here : (place : List ℕ) (r : Option (List ℕ)) (es : Entries) → AreAbove place es → ascending listed_cmp (entries_under (tab ∷ prefix) es) ≡ true
      → ascending listed_cmp (row_under (tab ∷ prefix) place r ++ entries_under (tab ∷ prefix) es) ≡ true
  sorted_here place None es a more = more
  sorted_here place (Some row) es a more = there (is_prefix (tab ∷ prefix) place) refl
    where
      there : (b : Bool) → is_prefix (tab ∷ prefix) place ≡ b → ascending listed_cmp (cond b ((drop 1 place, row) ∷ []) [] ++ entries_under (tab ∷ prefix) es) ≡ true
      there true h =
          and_from (list_all (λ y. is_lt (listed_cmp (drop 1 place, row) y)) (entries_under (tab ∷ prefix) es)) (ascending listed_cmp (entries_under (tab ∷ prefix) es))
          (below_under (drop 1 place) row es (subst (λ x. AreAbove x es) (place_parts place h).0 a)) more
      there false h = more

  sorted_under : (es : Entries) → IsAscending es → ascending listed_cmp (entries_under (tab ∷ prefix) es) ≡ true
  sorted_under [] a = refl
  sorted_under (e ∷ es) a = sorted_here e.0 e.1 es a.0 (sorted_under es a.1)

  -- what stands at such a place is what these have
  found_here : (e : List ℕ × Option (List ℕ)) (es : Entries) (q : List ℕ) → AreAbove e.0 es → is_prefix prefix q ≡ true → row_of (place_at es (tab ∷ q)) ≡ find bytes_cmp q (entries_under (tab ∷ prefix) es)
      → row_of (place_at (e ∷ es) (tab ∷ q)) ≡ find bytes_cmp q (entries_under (tab ∷ prefix) (e ∷ es))
  found_here e es q a h more = by (eq_by_cmp bytes_cmp (tab ∷ q) e.0) refl
    where
      -- at the place itself
      here : tab ∷ q ≡ e.0 → (r : Option (List ℕ)) → r ≡ find bytes_cmp q (row_under (tab ∷ prefix) e.0 r ++ entries_under (tab ∷ prefix) es)
      here same None = sym (ap row_of (place_at-above (tab ∷ q) es (subst (λ x. AreAbove x es) (sym same) a))) ∙ more
      here same (Some row) =
          sym (
          ap (λ b. find bytes_cmp q (cond b ((drop 1 e.0, row) ∷ []) [] ++ entries_under (tab ∷ prefix) es)) (ap (is_prefix (tab ∷ prefix)) (sym same) ∙ place_begins q h)
          ∙ ap (λ b. cond b (Some row) (find bytes_cmp q (entries_under (tab ∷ prefix) es))) (ap (λ x. eq_by_cmp bytes_cmp q (drop 1 x)) (sym same) ∙ (eq_by_cmp_equiv nat_list_cmp_total).refl q)
          )

      passed : eq_by_cmp bytes_cmp (tab ∷ q) e.0 ≡ false → (row : List ℕ) (b : Bool) → is_prefix (tab ∷ prefix) e.0 ≡ b
          → find bytes_cmp q (entries_under (tab ∷ prefix) es) ≡ find bytes_cmp q (cond b ((drop 1 e.0, row) ∷ []) [] ++ entries_under (tab ∷ prefix) es)
      passed n row false begins = refl
      passed n row true begins =
          sym (ap (λ b. cond b (Some row) (find bytes_cmp q (entries_under (tab ∷ prefix) es)))
          (ap is_eq (sym (inside q (drop 1 e.0)) ∙ ap (bytes_cmp (tab ∷ q)) (sym (place_parts e.0 begins).0)) ∙ n))

      other : eq_by_cmp bytes_cmp (tab ∷ q) e.0 ≡ false → (r : Option (List ℕ)) → find bytes_cmp q (entries_under (tab ∷ prefix) es) ≡ find bytes_cmp q (row_under (tab ∷ prefix) e.0 r ++ entries_under (tab ∷ prefix) es)
      other n None = refl
      other n (Some row) = passed n row (is_prefix (tab ∷ prefix) e.0) refl

      by : (b : Bool) → eq_by_cmp bytes_cmp (tab ∷ q) e.0 ≡ b → row_of (cond b (Some e.1) (place_at es (tab ∷ q))) ≡ find bytes_cmp q (row_under (tab ∷ prefix) e.0 e.1 ++ entries_under (tab ∷ prefix) es)
      by true t = here (same_place (tab ∷ q) e.0 t) e.1
      by false n = more ∙ other n e.1

  found_under : (es : Entries) → IsAscending es → (q : List ℕ) → is_prefix prefix q ≡ true → row_of (place_at es (tab ∷ q)) ≡ find bytes_cmp q (entries_under (tab ∷ prefix) es)
  found_under [] a q h = refl
  found_under (e ∷ es) a q h = found_here e es q a.0 h (found_under es a.1 q h)

  -- the rows of all entries are those of the table
  pub rows_are_under : (es : Entries) (rows : Listed) → IsAscending es → rows ≡ entries_under (tab ∷ prefix) es → AreRowsUnder (rows_of es) tab prefix rows
  rows_are_under es rows a is = subst (AreRowsUnder (rows_of es) tab prefix) (sym is) (record {
    each = each_under es;
    sorted = sorted_under es a;
    found = λ q h. get_rows_of es (tab ∷ q) ∙ found_under es a q h;
  })

-- ---- in blocks, and on shelves

-- the entries before a block are those before this spot and the rest of its block
pub before-rest : (bs : List Entries) (i j : ℕ) → i < length bs → before bs (suc i) 0 ≡ before bs i j ++ drop j (get_or bs i [])
before-rest [] i j h = absurd (omega arith)
before-rest (b ∷ bs) zero j h = rest bs ∙ sym (take-append-drop j b)
  where
    rest : (cs : List Entries) → b ++ before cs 0 0 ≡ b
    rest [] = append-nil b
    rest (c ∷ cs) = append-nil b
before-rest (b ∷ bs) (suc i) j h = ap (λ x. b ++ x) (before-rest bs i j (omega arith)) ∙ sym (append_assoc b (before bs i j) (drop j (get_or bs i [])))

pub after-rest : (bs : List Entries) (i j : ℕ) → i < length bs → after bs i j ≡ drop j (get_or bs i []) ++ after bs (suc i) 0
after-rest [] i j h = absurd (omega arith)
after-rest (b ∷ bs) zero j h = ap (λ x. drop j b ++ x) (sym (after-start bs))
after-rest (b ∷ bs) (suc i) j h = after-rest bs i j (omega arith)

-- ---- entry by entry

parted : (es : Entries) (i : ℕ) (d : List ℕ × Option (List ℕ)) → i < length es → es ≡ take i es ++ (get_or es i d ∷ [] ++ drop (suc i) es)
parted es i d h = sym (take-append-drop i es) ∙ ap (λ x. take i es ++ x) (drop-cons es i d h)

none-reached : (p : List ℕ) (es : Entries) (i : ℕ) (d : List ℕ × Option (List ℕ)) → i < length es → NoneBelow p es → IsTrue (is_le (bytes_cmp p (get_or es i d).0))
none-reached p [] i d l n = absurd (omega arith)
none-reached p (x ∷ es) zero d l n = n.0
none-reached p (x ∷ es) (suc i) d l n = none-reached p es i d (omega arith) n.1

-- an entry among those of which none is below isn't
pub entry-reached : (p : List ℕ) (es : Entries) (i : ℕ) (d e : List ℕ × Option (List ℕ)) → i < length es → e ≡ get_or es i d → NoneBelow p es → IsTrue (is_le (bytes_cmp p e.0))
entry-reached p es i d e h is n = subst (λ (x : List ℕ × Option (List ℕ)). IsTrue (is_le (bytes_cmp p x.0))) (sym is) (none-reached p es i d h n)

module _ (p : List ℕ) (es : Entries) (i : ℕ) (d e : List ℕ × Option (List ℕ)) (old now new : Listed)
    (h : i < length es) (is : e ≡ get_or es i d) (so_far : now ≡ old ++ entries_under p (take i es)) (row : new ≡ now ++ row_under p e.0 e.1) where
  one_more : new ≡ old ++ entries_under p (take i es ++ get_or es i d ∷ [])
  one_more =
      row ∙ ap (λ (l : Listed). l ++ row_under p e.0 e.1) so_far ∙ append_assoc old (entries_under p (take i es)) (row_under p e.0 e.1)
      ∙ ap (λ (l : Listed). old ++ (entries_under p (take i es) ++ l)) (sym (append-nil (row_under p e.0 e.1)))
      ∙ ap (λ (x : List ℕ × Option (List ℕ)). old ++ (entries_under p (take i es) ++ entries_under p (x ∷ []))) is
      ∙ ap (λ (l : Listed). old ++ l) (sym (under-append p (take i es) (get_or es i d ∷ [])))

  pub entries-more : new ≡ old ++ entries_under p (take (i + 1) es)
  entries-more = let next : i + 1 ≡ suc i = omega arith in one_more ∙ ap (λ x. old ++ entries_under p x) (sym (ap (λ n. take n es) next ∙ take-suc es i d h))

  module _ (above : NoneBelow p es) (ascends : IsAscending es) (other : is_prefix p e.0 ≡ false) where
    here-past : HasPast p (get_or es i d ∷ [])
    here-past = inl (none-reached p es i d h above, ap (λ (x : List ℕ × Option (List ℕ)). is_prefix p x.0) (sym is) ∙ other)

    pub entries-past : HasPast p es
    entries-past = subst (HasPast p) (sym (parted es i d h)) (past-append p (take i es) (get_or es i d ∷ []) (drop (suc i) es) here-past)

    pub entries-stopped : new ≡ old ++ entries_under p es
    entries-stopped =
        let rest : IsAscending (get_or es i d ∷ [] ++ drop (suc i) es) = (ascending-parts (take i es) (get_or es i d ∷ [] ++ drop (suc i) es) (subst IsAscending (parted es i d h) ascends)).1 in
        one_more ∙ ap (λ (l : Listed). old ++ l) (sym (append-nil (entries_under p (take i es ++ get_or es i d ∷ []))))
        ∙ ap (λ (l : Listed). old ++ (entries_under p (take i es ++ get_or es i d ∷ []) ++ l)) (sym (past-under p (get_or es i d ∷ []) (drop (suc i) es) here-past rest))
        ∙ ap (λ (l : Listed). old ++ l) (sym (under-append p (take i es ++ get_or es i d ∷ []) (drop (suc i) es)))
        ∙ ap (λ x. old ++ entries_under p x) (append_assoc (take i es) (get_or es i d ∷ []) (drop (suc i) es) ∙ sym (parted es i d h))

-- ---- block by block, or shelf by shelf

-- what holds on the way: the rows so far, and no place from here on is below
pub record IsWalked (p : List ℕ) (bs : List Entries) (i j : ℕ) (old now : Listed) : Type 0 where
  pub rows : now ≡ old ++ entries_under p (before bs i j)
  pub above : NoneBelow p (after bs i j)
  pub index : i < length bs → j ≤ length (get_or bs i [])

none-below-parts : (p : List ℕ) (xs ys : Entries) → NoneBelow p (xs ++ ys) → NoneBelow p xs × NoneBelow p ys
none-below-parts p [] ys n = (tt, n)
none-below-parts p (x ∷ xs) ys n = let more = none-below-parts p xs ys n.1 in ((n.0, more.0), more.1)

pub walked-first : (p : List ℕ) (bs : List Entries) (i j : ℕ) (old : Listed) → IsBoundary bs p i j → IsWalked p bs i j old old
walked-first p bs i j old b = record {
  rows = sym (ap (λ (l : Listed). old ++ l) (below-under p (before bs i j) b.below) ∙ append-nil old);
  above = b.above;
  index = λ _. b.index;
}

-- the rest of a block is in order, and none of it is below
pub rest-above : (p : List ℕ) (bs : List Entries) (i j : ℕ) (es : Entries) (old now : Listed) → i < length bs → es ≡ drop j (get_or bs i []) → IsWalked p bs i j old now → NoneBelow p es
rest-above p bs i j es old now h is so_far = subst (NoneBelow p) (sym is) (none-below-parts p (drop j (get_or bs i [])) (after bs (suc i) 0) (subst (NoneBelow p) (after-rest bs i j h) so_far.above)).0

pub rest-ascends : (bs : List Entries) (i j : ℕ) (es : Entries) → i < length bs → es ≡ drop j (get_or bs i []) → IsAscending (joined bs) → IsAscending es
rest-ascends bs i j es h is a =
    let behind : IsAscending (after bs i j) = (ascending-parts (before bs i j) (after bs i j) (subst IsAscending (split bs i j) a)).1 in
    subst IsAscending (sym is) (ascending-parts (drop j (get_or bs i [])) (after bs (suc i) 0) (subst IsAscending (after-rest bs i j h) behind)).0

module _ (p : List ℕ) (bs : List Entries) (i j : ℕ) (es : Entries) (old now new : Listed)
    (h : i < length bs) (is : es ≡ drop j (get_or bs i [])) (so_far : IsWalked p bs i j old now) (rows : new ≡ now ++ entries_under p es) where
  through : new ≡ old ++ entries_under p (before bs (suc i) 0)
  through =
      rows ∙ ap (λ (l : Listed). l ++ entries_under p es) so_far.rows ∙ append_assoc old (entries_under p (before bs i j)) (entries_under p es)
      ∙ ap (λ x. old ++ (entries_under p (before bs i j) ++ entries_under p x)) is
      ∙ ap (λ (l : Listed). old ++ l) (sym (under-append p (before bs i j) (drop j (get_or bs i []))))
      ∙ ap (λ x. old ++ entries_under p x) (sym (before-rest bs i j h))

  pub walked-more : (k : ℕ) → k ≡ i + 1 → IsWalked p bs k 0 old new
  walked-more k e =
      let next : suc i ≡ k = omega (arith, e) in
      subst (λ n. IsWalked p bs n 0 old new) next (record {
        rows = through;
        above = (none-below-parts p (drop j (get_or bs i [])) (after bs (suc i) 0) (subst (NoneBelow p) (after-rest bs i j h) so_far.above)).1;
        index = λ _. omega arith;
      })

  module _ (ascends : IsAscending (joined bs)) (past : HasPast p es) where
    whole-parts : joined bs ≡ before bs i j ++ (es ++ after bs (suc i) 0)
    whole-parts = split bs i j ∙ ap (λ x. before bs i j ++ x) (after-rest bs i j h ∙ ap (λ x. x ++ after bs (suc i) 0) (sym is))

    pub walked-past : HasPast p (joined bs)
    walked-past = subst (HasPast p) (sym whole-parts) (past-append p (before bs i j) es (after bs (suc i) 0) past)

    pub walked-stopped : new ≡ old ++ entries_under p (joined bs)
    walked-stopped =
        let behind : entries_under p (after bs (suc i) 0) ≡ [] = past-under p es (after bs (suc i) 0) past (ascending-parts (before bs i j) (es ++ after bs (suc i) 0) (subst IsAscending whole-parts ascends)).1 in
        through ∙ ap (λ (l : Listed). old ++ l) (sym (append-nil (entries_under p (before bs (suc i) 0))))
        ∙ ap (λ (l : Listed). old ++ (entries_under p (before bs (suc i) 0) ++ l)) (sym behind)
        ∙ ap (λ (l : Listed). old ++ l) (sym (under-append p (before bs (suc i) 0) (after bs (suc i) 0)))
        ∙ ap (λ x. old ++ entries_under p x) (sym (split bs (suc i) 0))

pub walked-all : (p : List ℕ) (bs : List Entries) (i j : ℕ) (old now : Listed) → length bs ≤ i → IsWalked p bs i j old now → now ≡ old ++ entries_under p (joined bs)
walked-all p bs i j old now h w =
    w.rows ∙ ap (λ x. old ++ entries_under p x) (sym (append-nil (before bs i j)) ∙ ap (λ x. before bs i j ++ x) (sym (after-end bs i j h)) ∙ sym (split bs i j))

module _ (p : List ℕ) (bs : List Entries) (i : ℕ) (old mid : Listed) (s : AreSorted bs) (f : IsBlockFor bs p i) (one : mid ≡ old ++ entries_under p (get_or bs i [])) where
  here-and-behind : entries_under p (joined bs) ≡ entries_under p (get_or bs i []) ++ entries_under p (after bs (suc i) 0)
  here-and-behind =
      ap (entries_under p) (parts bs i f.block) ∙ under-append p (before bs i 0) (get_or bs i [] ++ after bs (suc i) 0)
      ∙ ap (λ (l : Listed). l ++ entries_under p (get_or bs i [] ++ after bs (suc i) 0)) (below-under p (before bs i 0) (shelf-below bs p i s f))
      ∙ under-append p (get_or bs i []) (after bs (suc i) 0)

  -- the rows of the shelf where the bytes belong, and those of the shelves behind
  pub shelf-open : (new : Listed) (k : ℕ) → k ≡ i + 1 → new ≡ mid ++ entries_under p (after bs k 0) → new ≡ old ++ entries_under p (joined bs)
  shelf-open new k e two =
      let next : k ≡ suc i = omega (arith, e) in
      two ∙ ap (λ n. mid ++ entries_under p (after bs n 0)) next ∙ ap (λ (l : Listed). l ++ entries_under p (after bs (suc i) 0)) one
      ∙ append_assoc old (entries_under p (get_or bs i [])) (entries_under p (after bs (suc i) 0)) ∙ ap (λ (l : Listed). old ++ l) (sym here-and-behind)

  -- or none behind
  pub shelf-closed : HasPast p (get_or bs i []) → mid ≡ old ++ entries_under p (joined bs)
  shelf-closed past =
      let split_here = parts bs i f.block in
      let behind : entries_under p (after bs (suc i) 0) ≡ [] = past-under p (get_or bs i []) (after bs (suc i) 0) past (ascending-parts (before bs i 0) (get_or bs i [] ++ after bs (suc i) 0) (subst IsAscending split_here s.ascends)).1 in
      one ∙ ap (λ (l : Listed). old ++ l) (sym (append-nil (entries_under p (get_or bs i []))) ∙ ap (λ (l : Listed). entries_under p (get_or bs i []) ++ l) (sym behind) ∙ sym here-and-behind)

-- what is left on the shelves makes of the rows so far all that are to come
module _ (p : List ℕ) (bs : List Entries) (i : ℕ) (now new : Listed) (all : Listed) (h : i < length bs) (left : now ++ entries_under p (after bs i 0) ≡ all) (one : new ≡ now ++ entries_under p (get_or bs i [])) where
  pub left-more : (k : ℕ) → k ≡ i + 1 → new ++ entries_under p (after bs k 0) ≡ all
  left-more k e =
      let next : k ≡ suc i = omega (arith, e) in
      ap (λ n. new ++ entries_under p (after bs n 0)) next ∙ ap (λ (l : Listed). l ++ entries_under p (after bs (suc i) 0)) one
      ∙ append_assoc now (entries_under p (get_or bs i [])) (entries_under p (after bs (suc i) 0))
      ∙ ap (λ (l : Listed). now ++ l) (sym (under-append p (get_or bs i []) (after bs (suc i) 0)) ∙ ap (entries_under p) (sym (after-rest bs i 0 h))) ∙ left

  pub left-past : IsAscending (joined bs) → HasPast p (get_or bs i []) → new ≡ all
  left-past ascends past =
      let ordered : IsAscending (get_or bs i [] ++ after bs (suc i) 0) = subst IsAscending (after-rest bs i 0 h) (ascending-parts (before bs i 0) (after bs i 0) (subst IsAscending (split bs i 0) ascends)).1 in
      sym (append-nil new) ∙ ap (λ (l : Listed). new ++ l) (sym (past-under p (get_or bs i []) (after bs (suc i) 0) past ordered)) ∙ left-more (suc i) (omega arith)

pub left-none : (p : List ℕ) (bs : List Entries) (i : ℕ) (now all : Listed) → length bs ≤ i → now ++ entries_under p (after bs i 0) ≡ all → now ≡ all
left-none p bs i now all h left = sym (append-nil now) ∙ ap (λ x. now ++ entries_under p x) (sym (after-end bs i 0 h)) ∙ left
