-- Lemmas on entries on shelves.
use Rattle.std.proofs.Common.{◌≡◌, ℕ, zero, suc, ◌<◌, ◌≤◌, ◌-◌, Bool, true, false, cond, List, [], ◌∷◌, ◌++◌, length, take, drop, set, get_or, Option, Some, None, Less, refl, sym, ap, ◌∙◌, append_assoc, append-nil, subst, arith, inl, inr, ◌⊎◌}
use Rattle.std.specs.Prelude.{IsTrue, IfSome, is_some, not, nat_eq}
use Rattle.std.specs.Ordering.{is_le, is_lt, is_eq, eq_by_cmp}
use Rattle.std.specs.List.Sorted.{IsPartitionPoint}
use Rattle.std.proofs.lemmas.Cmp.{nat_list_cmp_total, tied_itself}
use Rattle.std.proofs.lemmas.Bool.Decides.{nat_tests}
use mathlib.Core.Bool.{true≢false}
use Rattle.bdb_keep.specs.Tables.{bytes_cmp}
use Rattle.bdb_memory.specs.Entries.{Entries, place_at, row_of, IsSetAt, AreBelow, AreAbove, NoneBelow, IsAscending}
use Rattle.bdb_memory.specs.Blocks.{joined, before, after, HasEntry, HaveEntries, AreSorted, IsBlockFor, IsThere, entry_at, StandsAt, BelongsHere, IsRest, starts_within, has_any}
use Rattle.bdb_memory.specs.Shelves.{at_place, IsChangedAt, NoRowFrom, IsFirstRow, IsCutInTwo}
use Rattle.bdb_keep.proofs.RowsLemmas.{same_place}
use Rattle.bdb_keep.proofs.OrderLemmas.{less_le, less_from_not_le}
use Rattle.bdb_memory.proofs.EntriesLemmas.{AreBelow-append, AreAbove-append, AreAbove-parts, ascending-parts, ascending-insert, ascending-remove, above_from_less, none_below_from_first, place_at-below, place_at-above, place_at-here, place_at-others, set-insert}
use Rattle.bdb_memory.proofs.BlocksLemmas.{split, before-more, after-here, after-start, before-start, full-set, bound-below, after-stands, joined-stands, place_at-stands, place_at-gap, sorted-after}

-- ---- a shelf among all
-- all entries are those before a shelf, its own, and those behind it
pub parts : (bs : List Entries) (i : ℕ) → i < length bs → joined bs ≡ before bs i 0 ++ (get_or bs i [] ++ after bs (suc i) 0)
parts [] i h = absurd (omega arith)
parts (b ∷ bs) zero h = ap (λ x. b ++ x) (sym (after-start bs))
parts (b ∷ bs) (suc i) h = ap (λ x. b ++ x) (parts bs i (omega arith)) ∙ sym (append_assoc b (before bs i 0) (get_or bs i [] ++ after bs (suc i) 0))

parts-set : (bs : List Entries) (i : ℕ) (f : Entries) → i < length bs → joined (set bs i f) ≡ before bs i 0 ++ (f ++ after bs (suc i) 0)
parts-set [] i f h = absurd (omega arith)
parts-set (b ∷ bs) zero f h = ap (λ x. f ++ x) (sym (after-start bs))
parts-set (b ∷ bs) (suc i) f h = ap (λ x. b ++ x) (parts-set bs i f (omega arith)) ∙ sym (append_assoc b (before bs i 0) (f ++ after bs (suc i) 0))

before-shelf : (bs : List Entries) (i : ℕ) → i < length bs → before bs (suc i) 0 ≡ before bs i 0 ++ get_or bs i []
before-shelf [] i h = absurd (omega arith)
before-shelf (b ∷ bs) zero h = ap (λ x. b ++ x) (before-start bs) ∙ append-nil b
before-shelf (b ∷ bs) (suc i) h = ap (λ x. b ++ x) (before-shelf bs i (omega arith)) ∙ sym (append_assoc b (before bs i 0) (get_or bs i []))

before-all : (bs : List Entries) (i : ℕ) → length bs ≤ i → before bs i 0 ≡ joined bs
before-all [] i h = refl
before-all (b ∷ bs) zero h = absurd (omega arith)
before-all (b ∷ bs) (suc i) h = ap (λ x. b ++ x) (before-all bs i (omega arith))

-- where a place belongs on a shelf, all before it are below
pub shelf-below : (bs : List Entries) (q : List ℕ) (i : ℕ) → AreSorted bs → IsBlockFor bs q i → AreBelow q (before bs i 0)
shelf-below bs q i s f = bound-below q bs i 0 s.ascends s.full f.block tt f.starts

shelf-above-from : (q : List ℕ) (bs : List Entries) (i : ℕ) → IsAscending (joined bs) → HaveEntries bs → i < length bs → (suc i < length bs → starts_within q (get_or bs (suc i) []) ≡ false) → AreAbove q (after bs (suc i) 0)
shelf-above-from q [] i a f h s = tt
shelf-above-from q (c ∷ bs) zero a f h s = rest bs (ascending-parts c (joined bs) a).1 f.1 s
  where
    rest : (ds : List Entries) → IsAscending (joined ds) → HaveEntries ds → (1 < length (c ∷ ds) → starts_within q (get_or ds 0 []) ≡ false) → AreAbove q (after ds 0 0)
    rest [] a f s = tt
    rest ([] ∷ ds) a f s = absurd f.0
    rest ((e ∷ es) ∷ ds) a f s = let l = less_from_not_le e.0 q (s (omega arith)) in (l, above_from_less q e.0 (es ++ joined ds) l a.0)
shelf-above-from q (c ∷ bs) (suc i) a f h s = shelf-above-from q bs i (ascending-parts c (joined bs) a).1 f.1 (omega arith) (λ l. s (omega arith))

-- and all behind it above
pub shelf-above : (bs : List Entries) (q : List ℕ) (i : ℕ) → AreSorted bs → IsBlockFor bs q i → AreAbove q (after bs (suc i) 0)
shelf-above bs q i s f = shelf-above-from q bs i s.ascends s.full f.block f.ends

place_at-front : (q : List ℕ) (xs ys : Entries) → AreAbove q ys → place_at (xs ++ ys) q ≡ place_at xs q
place_at-front q [] ys a = place_at-above q ys a
place_at-front q (x ∷ xs) ys a = ap (cond (is_eq (bytes_cmp q x.0)) (Some x.1)) (place_at-front q xs ys a)

-- what stands at a place stands on its shelf
pub shelf-place : (bs : List Entries) (q : List ℕ) (i : ℕ) → AreSorted bs → IsBlockFor bs q i → place_at (joined bs) q ≡ place_at (get_or bs i []) q
shelf-place bs q i s f =
    ap (λ es. place_at es q) (parts bs i f.block)
    ∙ place_at-below q (before bs i 0) (get_or bs i [] ++ after bs (suc i) 0) (shelf-below bs q i s f)
    ∙ place_at-front q (get_or bs i []) (after bs (suc i) 0) (shelf-above bs q i s f)

regrouped : (a b c d e : Entries) → a ++ ((b ++ (c ++ d)) ++ e) ≡ (a ++ b) ++ (c ++ (d ++ e))
regrouped a b c d e = ap (λ x. a ++ x) (append_assoc b (c ++ d) e ∙ ap (λ x. b ++ x) (append_assoc c d e)) ∙ sym (append_assoc a b (c ++ (d ++ e)))

-- a change on the shelf of a place is one of all entries
pub shelf-changed : (bs : List Entries) (fs : Entries) (q : List ℕ) (i : ℕ) (from to : Option (Option (List ℕ))) → AreSorted bs → IsBlockFor bs q i → IsChangedAt (get_or bs i []) fs q from to → IsChangedAt (joined bs) (joined (set bs i fs)) q from to
shelf-changed bs fs q i from to s f c =
    let pre = before bs i 0 in
    let post = after bs (suc i) 0 in
    record {
      front = pre ++ c.front;
      back = c.back ++ post;
      was = parts bs i f.block ∙ ap (λ x. pre ++ (x ++ post)) c.was ∙ regrouped pre c.front (at_place q from) c.back post;
      is = parts-set bs i fs f.block ∙ ap (λ x. pre ++ (x ++ post)) c.is ∙ regrouped pre c.front (at_place q to) c.back post;
      below = AreBelow-append q pre c.front (shelf-below bs q i s f) c.below;
      above = AreAbove-append q c.back post c.above (shelf-above bs q i s f);
    }

-- ---- a change at a place
at-here : (q : List ℕ) (w : Option (Option (List ℕ))) (xs ys : Entries) → AreBelow q xs → AreAbove q ys → place_at (xs ++ (at_place q w ++ ys)) q ≡ w
at-here q None xs ys b a = place_at-below q xs ys b ∙ place_at-above q ys a
at-here q (Some r) xs ys b a = place_at-here q r xs ys b

at-others : (p q : List ℕ) (w : Option (Option (List ℕ))) (xs ys : Entries) → eq_by_cmp bytes_cmp p q ≡ false → place_at (xs ++ (at_place q w ++ ys)) p ≡ place_at (xs ++ ys) p
at-others p q None xs ys n = refl
at-others p q (Some r) xs ys n = place_at-others p q r xs ys n

at-taken : (q : List ℕ) (w : Option (Option (List ℕ))) (xs ys : Entries) → IsAscending (xs ++ (at_place q w ++ ys)) → IsAscending (xs ++ ys)
at-taken q None xs ys a = a
at-taken q (Some r) xs ys a = ascending-remove xs ys (q, r) a

at-put : (q : List ℕ) (w : Option (Option (List ℕ))) (xs ys : Entries) → IsAscending (xs ++ ys) → AreBelow q xs → AreAbove q ys → IsAscending (xs ++ (at_place q w ++ ys))
at-put q None xs ys a b c = a
at-put q (Some r) xs ys a b c = ascending-insert xs ys (q, r) a b c

pub changed-set : (es fs : Entries) (q : List ℕ) (from to : Option (Option (List ℕ))) → IsChangedAt es fs q from to → IsSetAt es fs q to
changed-set es fs q from to c = record {
  here = ap (λ x. place_at x q) c.is ∙ at-here q to c.front c.back c.below c.above;
  others = λ p n. ap (λ x. place_at x p) c.is ∙ at-others p q to c.front c.back n ∙ sym (at-others p q from c.front c.back n) ∙ sym (ap (λ x. place_at x p) c.was);
}

changed-ascending : (es fs : Entries) (q : List ℕ) (from to : Option (Option (List ℕ))) → IsAscending es → IsChangedAt es fs q from to → IsAscending fs
changed-ascending es fs q from to a c = subst IsAscending (sym c.is) (at-put q to c.front c.back (at-taken q from c.front c.back (subst IsAscending c.was a)) c.below c.above)

changed-full : (es fs : Entries) (q : List ℕ) (from : Option (Option (List ℕ))) (r : Option (List ℕ)) → IsChangedAt es fs q from (Some r) → HasEntry fs
changed-full es fs q from r c = subst HasEntry (sym c.is) (some c.front)
  where
    some : (xs : Entries) → HasEntry (xs ++ (q, r) ∷ c.back)
    some [] = tt
    some (x ∷ xs) = tt

-- shelves of which one was changed at a place are sorted
pub sorted-changed : (bs : List Entries) (fs : Entries) (q : List ℕ) (i : ℕ) (from to : Option (Option (List ℕ))) → AreSorted bs → IsBlockFor bs q i → IsChangedAt (get_or bs i []) fs q from to → HasEntry fs → AreSorted (set bs i fs)
sorted-changed bs fs q i from to s f c h = record {
  ascends = changed-ascending (joined bs) (joined (set bs i fs)) q from to s.ascends (shelf-changed bs fs q i from to s f c);
  full = full-set bs i fs s.full h;
}

pub sorted-put : (bs : List Entries) (fs : Entries) (q : List ℕ) (i : ℕ) (from : Option (Option (List ℕ))) (r : Option (List ℕ)) → AreSorted bs → IsBlockFor bs q i → IsChangedAt (get_or bs i []) fs q from (Some r) → AreSorted (set bs i fs)
sorted-put bs fs q i from r s f c = sorted-changed bs fs q i from (Some r) s f c (changed-full (get_or bs i []) fs q from r c)

-- all that is set where one shelf is changed
pub shelf-set : (bs : List Entries) (fs : Entries) (q : List ℕ) (i : ℕ) (from to : Option (Option (List ℕ))) → AreSorted bs → IsBlockFor bs q i → IsChangedAt (get_or bs i []) fs q from to → IsSetAt (joined bs) (joined (set bs i fs)) q to
shelf-set bs fs q i from to s f c = changed-set (joined bs) (joined (set bs i fs)) q from to (shelf-changed bs fs q i from to s f c)

pub set-itself : (bs : List Entries) (i : ℕ) (f : Entries) → f ≡ get_or bs i [] → i < length bs → set bs i f ≡ bs
set-itself [] i f e h = absurd (omega arith)
set-itself (b ∷ bs) zero f e h = ap (λ x. x ∷ bs) e
set-itself (b ∷ bs) (suc i) f e h = ap (λ x. b ∷ x) (set-itself bs i f e (omega arith))

-- ---- changes in blocks
pub changed-replaced : (bs : List Entries) (es : Entries) (q : List ℕ) (i j : ℕ) (r : Option (List ℕ)) → AreSorted bs → StandsAt bs q i j → es ≡ before bs i j ++ ((entry_at (get_or bs i []) j).0, r) ∷ after bs i (suc j) → IsChangedAt (joined bs) es q (place_at (joined bs) q) (Some r)
changed-replaced bs es q i j r s h e =
    subst (λ w. IsChangedAt (joined bs) es q w (Some r)) (sym (place_at-stands bs q i j h)) (record {
      front = before bs i j;
      back = after bs i (suc j);
      was = joined-stands bs q i j h;
      is = e ∙ ap (λ p. before bs i j ++ (p, r) ∷ after bs i (suc j)) h.here;
      below = h.below;
      above = (subst IsAscending (after-stands bs q i j h) (sorted-after bs i j s)).0;
    })

pub changed-added : (bs : List Entries) (es : Entries) (q : List ℕ) (r : Option (List ℕ)) (i j : ℕ) → BelongsHere bs q i j → es ≡ before bs i j ++ (q, r) ∷ after bs i j → IsChangedAt (joined bs) es q (place_at (joined bs) q) (Some r)
changed-added bs es q r i j g e =
    subst (λ w. IsChangedAt (joined bs) es q w (Some r)) (sym (place_at-gap bs q i j g))
    (record { front = before bs i j; back = after bs i j; was = split bs i j; is = e; below = g.below; above = g.above })

-- the same of the entries that blocks hold: a place that belongs in a gap is none of theirs, and where it is added they are changed there
pub absent-in_gap : (es : Entries) (bs : List Entries) (q : List ℕ) (i j : ℕ) → joined bs ≡ es → BelongsHere bs q i j → place_at es q ≡ None
absent-in_gap es bs q i j are g = ap (λ xs. place_at xs q) (sym are) ∙ place_at-gap bs q i j g

pub added-in_gap : (es fs : Entries) (bs : List Entries) (q : List ℕ) (r : Option (List ℕ)) (i j : ℕ) → joined bs ≡ es → BelongsHere bs q i j
    → fs ≡ before bs i j ++ (q, r) ∷ after bs i j → IsChangedAt es fs q (place_at es q) (Some r)
added-in_gap es fs bs q r i j are g e =
    subst (λ xs. IsChangedAt xs fs q (place_at xs q) (Some r)) are (changed-added bs fs q r i j g e)

pub changed-taken : (bs : List Entries) (es : Entries) (q : List ℕ) (i j : ℕ) → AreSorted bs → StandsAt bs q i j → es ≡ before bs i j ++ after bs i (suc j) → IsChangedAt (joined bs) es q (place_at (joined bs) q) None
changed-taken bs es q i j s h e =
    subst (λ w. IsChangedAt (joined bs) es q w None) (sym (place_at-stands bs q i j h)) (record {
      front = before bs i j;
      back = after bs i (suc j);
      was = joined-stands bs q i j h;
      is = e;
      below = h.below;
      above = (subst IsAscending (after-stands bs q i j h) (sorted-after bs i j s)).0;
    })

pub changed-nothing : (bs : List Entries) (q : List ℕ) (i j : ℕ) → BelongsHere bs q i j → IsChangedAt (joined bs) (joined bs) q (place_at (joined bs) q) None
changed-nothing bs q i j g =
    subst (λ w. IsChangedAt (joined bs) (joined bs) q w None) (sym (place_at-gap bs q i j g))
    (record { front = before bs i j; back = after bs i j; was = split bs i j; is = split bs i j; below = g.below; above = g.above })

-- ---- what is told of an answer
-- what holds of an answer that is there, and of one that isn't
pub told-some : {A : Type 0} (P : A → Type 0) (answer : Option A) (x : A) → answer ≡ Some x → P x → IfSome answer P
told-some P answer x is h = subst (λ o. IfSome o P) (sym is) h

pub told-none : {A : Type 0} (P : A → Type 0) (answer : Option A) → answer ≡ None → IfSome answer P
told-none P answer is = subst (λ o. IfSome o P) (sym is) tt

-- ---- the first row from a place on
pub passed-below : (q : List ℕ) (xs : Entries) → AreBelow q xs → NoRowFrom q xs
passed-below q [] b = tt
passed-below q (x ∷ xs) b = (inl b.0, passed-below q xs b.1)

passed-append : (q : List ℕ) (xs ys : Entries) → NoRowFrom q xs → NoRowFrom q ys → NoRowFrom q (xs ++ ys)
passed-append q [] ys a b = b
passed-append q (x ∷ xs) ys a b = (a.0, passed-append q xs ys a.1 b)

-- past an empty place
pub passed-more : (bs : List Entries) (q : List ℕ) (i j k l m : ℕ) → NoRowFrom q (before bs i j) → NoneBelow q (after bs i j) → IsThere bs k l → before bs k l ≡ before bs i j → after bs k l ≡ after bs i j → is_some (entry_at (get_or bs k []) l).1 ≡ false → m ≡ suc l
    → NoRowFrom q (before bs k m) × NoneBelow q (after bs k m)
passed-more bs q i j k l m p n t b a e h =
    let entry = entry_at (get_or bs k []) l in
    subst (λ x. NoRowFrom q (before bs k x) × NoneBelow q (after bs k x)) (sym h) (
      subst (NoRowFrom q) (sym (before-more bs k l ([], None) t.block t.index)) (passed-append q (before bs k l) (entry ∷ []) (subst (NoRowFrom q) (sym b) p) (inr (none entry.1 e), tt)),
      (subst (NoneBelow q) (sym a ∙ after-here bs k l ([], None) t.block t.index) n).1,
    )
  where
    none : (x : Option (List ℕ)) → is_some x ≡ false → x ≡ None
    none None h = refl
    none (Some y) h = absurd (true≢false h)

pub passed-all : (bs : List Entries) (q : List ℕ) (i j : ℕ) → NoRowFrom q (before bs i j) → after bs i j ≡ [] → NoRowFrom q (joined bs)
passed-all bs q i j p e = subst (NoRowFrom q) (sym (split bs i j ∙ ap (λ x. before bs i j ++ x) e ∙ append-nil (before bs i j))) p

pub first-there : (bs : List Entries) (q : List ℕ) (i j : ℕ) (e : List ℕ × Option (List ℕ)) → IsThere bs i j → e ≡ entry_at (get_or bs i []) j → is_some (entry_at (get_or bs i []) j).1 ≡ true → NoRowFrom q (before bs i j) → NoneBelow q (after bs i j) → IsFirstRow (joined bs) q e
first-there bs q i j e t h s p n =
    let here = after-here bs i j ([], None) t.block t.index in
    subst (IsFirstRow (joined bs) q) (sym h) (record {
      front = before bs i j;
      back = after bs i (suc j);
      parts = split bs i j ∙ ap (λ x. before bs i j ++ x) here;
      passed = p;
      reached = (subst (NoneBelow q) here n).0;
      row = s;
    })

-- the first one on a shelf behind what has no row
pub shelf-first : (bs : List Entries) (q : List ℕ) (i : ℕ) (e : List ℕ × Option (List ℕ)) → i < length bs → NoRowFrom q (before bs i 0) → IsFirstRow (get_or bs i []) q e → IsFirstRow (joined bs) q e
shelf-first bs q i e h p f =
    let pre = before bs i 0 in
    let post = after bs (suc i) 0 in
    record {
      front = pre ++ f.front;
      back = f.back ++ post;
      parts = parts bs i h ∙ ap (λ x. pre ++ (x ++ post)) f.parts ∙ regrouped pre f.front (e ∷ []) f.back post;
      passed = passed-append q pre f.front p f.passed;
      reached = f.reached;
      row = f.row;
    }

pub shelf-passed : (bs : List Entries) (q : List ℕ) (i n : ℕ) → i < length bs → NoRowFrom q (before bs i 0) → NoRowFrom q (get_or bs i []) → n ≡ suc i → NoRowFrom q (before bs n 0)
shelf-passed bs q i n h p s e =
    subst (λ x. NoRowFrom q (before bs x 0)) (sym e) (subst (NoRowFrom q) (sym (before-shelf bs i h)) (passed-append q (before bs i 0) (get_or bs i []) p s))

pub shelves-passed : (bs : List Entries) (q : List ℕ) (i : ℕ) → length bs ≤ i → NoRowFrom q (before bs i 0) → NoRowFrom q (joined bs)
shelves-passed bs q i h p = subst (NoRowFrom q) (before-all bs i h) p

-- what is passed makes no difference
rest-passed : (xs rest : Entries) (q : List ℕ) → IsAscending (xs ++ rest) → NoRowFrom q xs → NoneBelow q rest → IsRest (xs ++ rest) rest q
rest-passed xs rest q a p n = record { same = same xs a p; above = n; sorted = (ascending-parts xs rest a).1 }
  where
    same : (xs : Entries) → IsAscending (xs ++ rest) → NoRowFrom q xs → (r : List ℕ) → IsTrue (is_le (bytes_cmp q r)) → row_of (place_at rest r) ≡ row_of (place_at (xs ++ rest) r)
    same [] a p r h = refl
    same (x ∷ xs) a p r h = there (eq_by_cmp bytes_cmp r x.0) refl p.0 (same xs a.1 p.1 r h)
      where
        there : (b : Bool) → eq_by_cmp bytes_cmp r x.0 ≡ b → (bytes_cmp x.0 q ≡ Less) ⊎ (x.1 ≡ None) → row_of (place_at rest r) ≡ row_of (place_at (xs ++ rest) r)
            → row_of (place_at rest r) ≡ row_of (cond (eq_by_cmp bytes_cmp r x.0) (Some x.1) (place_at (xs ++ rest) r))
        there true t (inl l) more =
            absurd (true≢false (sym (ap is_lt (less_le x.0 q r l h)) ∙ ap (λ y. is_lt (bytes_cmp x.0 y)) (same_place r x.0 t) ∙ ap is_lt (tied_itself nat_list_cmp_total x.0)))
        there true t (inr n) more =
            ap (λ y. row_of (place_at rest y)) (same_place r x.0 t) ∙ ap row_of (place_at-above x.0 rest (AreAbove-parts x.0 xs rest a.0).1) ∙ sym n ∙ ap (λ b. row_of (cond b (Some x.1) (place_at (xs ++ rest) r))) (sym t)
        there false t w more = more ∙ ap (λ b. row_of (cond b (Some x.1) (place_at (xs ++ rest) r))) (sym t)

pub rest-first : (es : Entries) (q : List ℕ) (e : List ℕ × Option (List ℕ)) → IsAscending es → (f : IsFirstRow es q e) → IsRest es (e ∷ f.back) q
rest-first es q e a f =
    let b = subst IsAscending f.parts a in
    let tail = (ascending-parts f.front (e ∷ f.back) b).1 in
    subst (λ x. IsRest x (e ∷ f.back) q) (sym f.parts) (rest-passed f.front (e ∷ f.back) q b f.passed (none_below_from_first q e f.back tail f.reached))

pub rest-none : (es : Entries) (q : List ℕ) → IsAscending es → NoRowFrom q es → IsRest es [] q
rest-none es q a p = let e = append-nil es in subst (λ x. IsRest x [] q) e (rest-passed es [] q (subst IsAscending (sym e) a) p tt)

-- ---- shelves found
pub shelf-searched : (q : List ℕ) (bs : List Entries) (n i : ℕ) → IsPartitionPoint (λ b. starts_within q b ≡ true) (λ b. starts_within q b ≡ false) bs n → i ≡ n - 1 → i < length bs → IsBlockFor bs q i
shelf-searched q bs n i point e h = record { block = h; starts = λ l. point.0 i [] (omega arith) (omega arith); ends = λ l. point.1 (suc i) [] (omega arith) l }

pub joined-none : (bs : List Entries) → length bs ≤ 0 → joined bs ≡ []
joined-none [] h = refl
joined-none (b ∷ bs) h = absurd (omega arith)

-- where the first block starts all do
pub starts-first : (q : List ℕ) (b : Entries) (bs : List Entries) → HasEntry b → starts_within q b ≡ starts_within q (b ++ joined bs)
starts-first q [] bs h = absurd h
starts-first q (e ∷ es) bs h = refl

entry-append : (b ys : Entries) → HasEntry b → HasEntry (b ++ ys)
entry-append [] ys h = absurd h
entry-append (e ∷ es) ys h = tt

any-entry : (b : Entries) → HasEntry b → has_any b ≡ true
any-entry [] h = absurd h
any-entry (e ∷ es) h = refl

pub any-joined : (bs : List Entries) → HaveEntries bs → 0 < length bs → has_any (joined bs) ≡ true
any-joined [] f h = absurd (omega arith)
any-joined (b ∷ bs) f h = any-entry (b ++ joined bs) (entry-append b (joined bs) f.0)

pub entry-any : (b : Entries) → has_any b ≡ true → HasEntry b
entry-any [] h = absurd (true≢false (sym h))
entry-any (e ∷ es) h = tt

pub none-any : (b : Entries) → has_any b ≡ false → b ≡ []
none-any [] h = refl
none-any (e ∷ es) h = absurd (true≢false h)

-- ---- blocks cut in two
joined-halves : (m : ℕ) (bs : List Entries) → joined bs ≡ joined (take m bs) ++ joined (drop m bs)
joined-halves zero [] = refl
joined-halves zero (b ∷ bs) = refl
joined-halves (suc m) [] = refl
joined-halves (suc m) (b ∷ bs) = ap (λ x. b ++ x) (joined-halves m bs) ∙ sym (append_assoc b (joined (take m bs)) (joined (drop m bs)))

full-take : (m : ℕ) (bs : List Entries) → HaveEntries bs → HaveEntries (take m bs)
full-take zero bs f = tt
full-take (suc m) [] f = tt
full-take (suc m) (b ∷ bs) f = (f.0, full-take m bs f.1)

full-drop : (m : ℕ) (bs : List Entries) → HaveEntries bs → HaveEntries (drop m bs)
full-drop zero [] f = tt
full-drop zero (b ∷ bs) f = f
full-drop (suc m) [] f = tt
full-drop (suc m) (b ∷ bs) f = full-drop m bs f.1

pub sorted-take : (m : ℕ) (bs : List Entries) → AreSorted bs → AreSorted (take m bs)
sorted-take m bs s = record { ascends = (ascending-parts (joined (take m bs)) (joined (drop m bs)) (subst IsAscending (joined-halves m bs) s.ascends)).0; full = full-take m bs s.full }

pub sorted-drop : (m : ℕ) (bs : List Entries) → AreSorted bs → AreSorted (drop m bs)
sorted-drop m bs s = record { ascends = (ascending-parts (joined (take m bs)) (joined (drop m bs)) (subst IsAscending (joined-halves m bs) s.ascends)).1; full = full-drop m bs s.full }

pub cut-in-two : (m : ℕ) (bs : List Entries) → HaveEntries bs → 0 < m → m < length bs → IsCutInTwo (joined bs) (joined (take m bs)) (joined (drop m bs))
cut-in-two m bs f h k = record { parts = joined-halves m bs; front_full = front m bs f h k; back_full = back m bs f k }
  where
    front : (m : ℕ) (bs : List Entries) → HaveEntries bs → 0 < m → m < length bs → HasEntry (joined (take m bs))
    front zero bs f h k = absurd (omega arith)
    front (suc m) [] f h k = absurd (omega arith)
    front (suc m) (b ∷ bs) f h k = entry-append b (joined (take m bs)) f.0

    back : (m : ℕ) (bs : List Entries) → HaveEntries bs → m < length bs → HasEntry (joined (drop m bs))
    back m [] f k = absurd (omega arith)
    back zero (b ∷ bs) f k = entry-append b (joined bs) f.0
    back (suc m) (b ∷ bs) f k = back m bs f.1 (omega arith)

-- a shelf put behind the one that it was cut off
joined-parted : (bs : List Entries) (i : ℕ) (f b : Entries) → i < length bs → get_or bs i [] ≡ f ++ b → joined (take (suc i) (set bs i f) ++ b ∷ drop (suc i) (set bs i f)) ≡ joined bs
joined-parted [] i f b h e = absurd (omega arith)
joined-parted (c ∷ bs) zero f b h e = sym (append_assoc f b (joined bs)) ∙ ap (λ x. x ++ joined bs) (sym e)
joined-parted (c ∷ bs) (suc i) f b h e = ap (λ x. c ++ x) (joined-parted bs i f b (omega arith) e)

full-parted : (bs : List Entries) (i : ℕ) (f b : Entries) → i < length bs → HaveEntries bs → HasEntry f → HasEntry b → HaveEntries (take (suc i) (set bs i f) ++ b ∷ drop (suc i) (set bs i f))
full-parted [] i f b h g k l = absurd (omega arith)
full-parted (c ∷ bs) zero f b h g k l = (k, (l, g.1))
full-parted (c ∷ bs) (suc i) f b h g k l = (g.0, full-parted bs i f b (omega arith) g.1 k l)

-- what cutting a shelf keeps
pub record IsSame (bs cs : List Entries) : Type 0 where
  pub sorted : AreSorted cs
  pub same : joined cs ≡ joined bs

pub shelf-parted : (bs rs xs new : List Entries) (i n : ℕ) (old front back : Entries) → new ≡ take n xs ++ back ∷ drop n xs → n ≡ suc i → xs ≡ set rs i front → rs ≡ bs → old ≡ get_or rs i old → IsCutInTwo old front back → AreSorted bs → i < length bs → IsSame bs new
shelf-parted bs rs xs new i n old front back e m x r o c s h =
    let is : old ≡ get_or bs i [] = o ∙ ap (λ ys. get_or ys i old) r ∙ other bs i old h in
    let cut : get_or bs i [] ≡ front ++ back = sym is ∙ c.parts in
    let made : new ≡ take (suc i) (set bs i front) ++ back ∷ drop (suc i) (set bs i front) =
    e ∙ ap (λ k. take k xs ++ back ∷ drop k xs) m ∙ ap (λ ys. take (suc i) ys ++ back ∷ drop (suc i) ys) (x ∙ ap (λ ys. set ys i front) r) in
    let same = ap joined made ∙ joined-parted bs i front back h cut in
    record {
      sorted = record { ascends = subst IsAscending (sym same) s.ascends; full = subst HaveEntries (sym made) (full-parted bs i front back h s.full c.front_full c.back_full) };
      same = same;
    }
  where
    other : (bs : List Entries) (i : ℕ) (d : Entries) → i < length bs → get_or bs i d ≡ get_or bs i []
    other [] i d h = absurd (omega arith)
    other (b ∷ bs) zero d h = refl
    other (b ∷ bs) (suc i) d h = other bs i d (omega arith)

-- ---- an empty shelf taken away
joined-gone : (bs : List Entries) (i : ℕ) (f : Entries) → i < length bs → f ≡ [] → joined (take i (set bs i f) ++ drop (suc i) (set bs i f)) ≡ joined (set bs i f)
joined-gone [] i f h e = absurd (omega arith)
joined-gone (b ∷ bs) zero f h e = ap (λ x. x ++ joined bs) (sym e)
joined-gone (b ∷ bs) (suc i) f h e = ap (λ x. b ++ x) (joined-gone bs i f (omega arith) e)

full-gone : (bs : List Entries) (i : ℕ) (f : Entries) → i < length bs → HaveEntries bs → HaveEntries (take i (set bs i f) ++ drop (suc i) (set bs i f))
full-gone [] i f h g = absurd (omega arith)
full-gone (b ∷ bs) zero f h g = g.1
full-gone (b ∷ bs) (suc i) f h g = (g.0, full-gone bs i f (omega arith) g.1)

-- what taking a place away leaves: sorted shelves without it
pub record IsTaken (bs cs : List Entries) (q : List ℕ) : Type 0 where
  pub sorted : AreSorted cs
  pub set : IsSetAt (joined bs) (joined cs) q None

pub shelf-gone : (bs cs : List Entries) (fs : Entries) (q : List ℕ) (i : ℕ) (from : Option (Option (List ℕ))) → AreSorted bs → IsBlockFor bs q i → IsChangedAt (get_or bs i []) fs q from None → fs ≡ [] → cs ≡ take i (set bs i fs) ++ drop (suc i) (set bs i fs) → IsTaken bs cs q
shelf-gone bs cs fs q i from s f c n e =
    let same : joined cs ≡ joined (set bs i fs) = ap joined e ∙ joined-gone bs i fs f.block n in
    let changed = shelf-changed bs fs q i from None s f c in
    record {
      sorted = record { ascends = subst IsAscending (sym same) (changed-ascending (joined bs) (joined (set bs i fs)) q from None s.ascends changed); full = subst HaveEntries (sym e) (full-gone bs i fs f.block s.full) };
      set = subst (λ x. IsSetAt (joined bs) x q None) (sym same) (changed-set (joined bs) (joined (set bs i fs)) q from None changed);
    }

pub shelf-taken : (bs : List Entries) (fs : Entries) (q : List ℕ) (i : ℕ) (from : Option (Option (List ℕ))) → AreSorted bs → IsBlockFor bs q i → IsChangedAt (get_or bs i []) fs q from None → HasEntry fs → IsTaken bs (set bs i fs) q
shelf-taken bs fs q i from s f c h = record { sorted = sorted-changed bs fs q i from None s f c h; set = shelf-set bs fs q i from None s f c }

-- there is no entry where there is no block
pub empty-joined : (bs : List Entries) (n : ℕ) (r : Bool) → HaveEntries bs → n ≡ length bs → r ≡ nat_eq n 0 → r ≡ not (has_any (joined bs))
empty-joined [] n r f e h = h ∙ ap (λ m. nat_eq m 0) e
empty-joined (b ∷ bs) n r f e h = h ∙ none ∙ ap not (sym (any-joined (b ∷ bs) f (omega arith)))
  where
    none : nat_eq n 0 ≡ false
    none = grind (arith, nat_tests)

-- the first shelf of all
pub first-shelf : (bs cs : List Entries) (f : Entries) (q : List ℕ) (r : Option (List ℕ)) → AreSorted bs → joined bs ≡ [] → f ≡ (q, r) ∷ [] → cs ≡ bs ++ f ∷ [] → AreSorted cs × IsSetAt (joined bs) (joined cs) q (Some r)
first-shelf [] cs f q r s e g h =
    let made : cs ≡ ((q, r) ∷ []) ∷ [] = h ∙ ap (λ x. x ∷ []) g in
    (subst AreSorted (sym made) (record { ascends = (tt, tt); full = (tt, tt) }), subst (λ x. IsSetAt [] (joined x) q (Some r)) (sym made) (set-insert [] [] q r tt))
first-shelf (b ∷ bs) cs f q r s e g h = absurd (true≢false (sym (any-joined (b ∷ bs) s.full (omega arith)) ∙ ap has_any e))

-- a shelf that was changed and read again
pub got-set : (bs : List Entries) (i : ℕ) (f d : Entries) → i < length bs → get_or (set bs i f) i d ≡ f
got-set [] i f d h = absurd (omega arith)
got-set (b ∷ bs) zero f d h = refl
got-set (b ∷ bs) (suc i) f d h = got-set bs i f d (omega arith)

pub not-any : (b : Bool) → true ≡ not b → b ≡ false
not-any true h = absurd (true≢false h)
not-any false h = refl

pub not-none : (b : Bool) → false ≡ not b → b ≡ true
not-none true h = refl
not-none false h = absurd (true≢false (sym h))
