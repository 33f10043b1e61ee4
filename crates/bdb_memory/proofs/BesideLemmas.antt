-- Lemmas on places beside a spot, and on the shelf where they belong.
use Rattle.std.proofs.Common.{◌≡◌, ℕ, zero, suc, ◌<◌, ◌≤◌, Bool, true, false, List, [], ◌∷◌, ◌++◌, length, set, get_or, Option, Some, None, Less, Equal, Greater, refl, sym, ap, ◌∙◌, subst, arith, inl, inr}
use Rattle.std.specs.Prelude.{IsTrue}
use Rattle.std.specs.Ordering.{is_le, is_lt, is_eq, ordering_reverse}
use Rattle.std.proofs.lemmas.Cmp.{nat_list_cmp_total, tied_itself}
use mathlib.Core.Bool.{true≢false}
use Rattle.bdb_keep.specs.Tables.{bytes_cmp}
use Rattle.bdb_memory.specs.Entries.{Entries, place_at, IsSetAt, AreAbove, NoneBelow, IsAscending}
use Rattle.bdb_memory.specs.Blocks.{joined, before, after, HaveEntries, AreSorted, IsBoundary, IsBlockFor, IsThere, entry_at, StandsAt, BelongsHere, starts_within}
use Rattle.bdb_memory.specs.Shelves.{ReachesPlace, BelongsAmong, IsChangedAt, IsFirstRow}
use Rattle.bdb_memory.proofs.EntriesLemmas.{AreApart, AreAbove-parts, ascending-parts}
use Rattle.bdb_keep.proofs.OrderLemmas.{less_le, le_less, le_from_not_lt}
use Rattle.bdb_memory.proofs.BlocksLemmas.{split, after-here, bound-below, bound-here, bound-behind, within-first, stands-found, gap-found, gap-end, block-read}
use Rattle.bdb_memory.proofs.ShelvesLemmas.{passed-below, shelf-first, shelf-place, shelf-set, sorted-put, set-itself}

-- ---- entries among which a place belongs
starts-from : (q : List ℕ) (xs : Entries) (e : List ℕ × Option (List ℕ)) (ys : Entries) → IsAscending (xs ++ e ∷ ys) → is_le (bytes_cmp e.0 q) ≡ true → starts_within q (xs ++ e ∷ ys) ≡ true
starts-from q [] e ys a h = h
starts-from q (x ∷ xs) e ys a h = ap is_le (less_le x.0 e.0 q (AreAbove-parts x.0 xs (e ∷ ys) a.0).1.0 h)

reaches-from : (q : List ℕ) (xs : Entries) (e : List ℕ × Option (List ℕ)) (ys : Entries) → IsTrue (is_le (bytes_cmp q e.0)) → ReachesPlace q (xs ++ e ∷ ys)
reaches-from q [] e ys h = inl h
reaches-from q (x ∷ xs) e ys h = inr (reaches-from q xs e ys h)

here-parts : (bs : List Entries) (i j : ℕ) → IsThere bs i j → joined bs ≡ before bs i j ++ entry_at (get_or bs i []) j ∷ after bs i (suc j)
here-parts bs i j t = split bs i j ∙ ap (λ x. before bs i j ++ x) (after-here bs i j ([], None) t.block t.index)

starts-here : (bs : List Entries) (q : List ℕ) (i j : ℕ) → AreSorted bs → IsThere bs i j → is_le (bytes_cmp (entry_at (get_or bs i []) j).0 q) ≡ true → starts_within q (joined bs) ≡ true
starts-here bs q i j s t h =
    let e = here-parts bs i j t in
    subst (λ es. starts_within q es ≡ true) (sym e) (starts-from q (before bs i j) (entry_at (get_or bs i []) j) (after bs i (suc j)) (subst IsAscending e s.ascends) h)

reaches-here : (bs : List Entries) (q : List ℕ) (i j : ℕ) → IsThere bs i j → is_lt (bytes_cmp (entry_at (get_or bs i []) j).0 q) ≡ false → ReachesPlace q (joined bs)
reaches-here bs q i j t h =
    subst (ReachesPlace q) (sym (here-parts bs i j t)) (reaches-from q (before bs i j) (entry_at (get_or bs i []) j) (after bs i (suc j)) (le_from_not_lt (entry_at (get_or bs i []) j).0 q h))

-- ---- what is found beside a spot
pub belongs-here : (bs : List Entries) (q : List ℕ) (last : Bool) (i j : ℕ) → AreSorted bs → IsThere bs i j → bytes_cmp (entry_at (get_or bs i []) j).0 q ≡ Equal → BelongsAmong (joined bs) q last
belongs-here bs q last i j s t h = record { starts = starts-here bs q i j s t (ap is_le h); ends = λ _. reaches-here bs q i j t (ap is_lt h) }

pub stands-here : (bs : List Entries) (q : List ℕ) (i j : ℕ) → AreSorted bs → IsThere bs i j → bytes_cmp (entry_at (get_or bs i []) j).0 q ≡ Equal → StandsAt bs q i j
stands-here bs q i j s t h = stands-found bs q i j i j (bound-here bs q i j s t h) t refl (ap is_eq h)

pub belongs-between : (bs : List Entries) (q : List ℕ) (last : Bool) (i j k l : ℕ) → AreSorted bs → IsThere bs i j → bytes_cmp (entry_at (get_or bs i []) j).0 q ≡ Less → IsThere bs k l → bytes_cmp (entry_at (get_or bs k []) l).0 q ≡ Greater
    → BelongsAmong (joined bs) q last
belongs-between bs q last i j k l s t h u g = record { starts = starts-here bs q i j s t (ap is_le h); ends = λ _. reaches-here bs q k l u (ap is_lt g) }

pub gap-between : (bs : List Entries) (q : List ℕ) (i j m k l : ℕ) → AreSorted bs → IsThere bs i j → bytes_cmp (entry_at (get_or bs i []) j).0 q ≡ Less → m ≡ suc j → IsThere bs k l → after bs k l ≡ after bs i m
    → bytes_cmp (entry_at (get_or bs k []) l).0 q ≡ Greater → BelongsHere bs q i m
gap-between bs q i j m k l s t h e u a g =
    gap-found bs q i m k l s (bound-behind bs q i j m s t h e (within-first bs q i m k l s u a (ap is_lt g))) u a (ap is_eq g)

pub belongs-last : (bs : List Entries) (q : List ℕ) (last : Bool) (i j : ℕ) → AreSorted bs → IsThere bs i j → bytes_cmp (entry_at (get_or bs i []) j).0 q ≡ Less → last ≡ true → BelongsAmong (joined bs) q last
belongs-last bs q last i j s t h e = record { starts = starts-here bs q i j s t (ap is_le h); ends = λ n. absurd (true≢false (sym e ∙ n)) }

pub gap-last : (bs : List Entries) (q : List ℕ) (i j m : ℕ) → AreSorted bs → IsThere bs i j → bytes_cmp (entry_at (get_or bs i []) j).0 q ≡ Less → m ≡ suc j → after bs i m ≡ [] → BelongsHere bs q i m
gap-last bs q i j m s t h e n = gap-end bs q i m (bound-behind bs q i j m s t h e (subst (NoneBelow q) (sym n) tt)) n

-- ---- where the first place stands that isn't below
none-below-above : (q : List ℕ) (es : Entries) → AreAbove q es → NoneBelow q es
none-below-above q [] a = tt
none-below-above q (e ∷ es) a = (ap is_le a.0, none-below-above q es a.1)

pub bound-gap : (bs : List Entries) (q : List ℕ) (i j : ℕ) → BelongsHere bs q i j → IsBoundary bs q i j
bound-gap bs q i j g = record { below = g.below; above = none-below-above q (after bs i j) g.above; block = g.block; index = g.index }

pub bound-stands : (bs : List Entries) (q : List ℕ) (i j : ℕ) → AreSorted bs → StandsAt bs q i j → IsBoundary bs q i j
bound-stands bs q i j s h =
    let k = h.there.index in
    record {
      below = h.below;
      above = within-first bs q i j i j s h.there refl (ap (λ p. is_lt (bytes_cmp p q)) h.here ∙ ap is_lt (tied_itself nat_list_cmp_total q));
      block = λ _. h.there.block;
      index = omega arith;
    }

-- ---- the shelf where a place belongs
next-less : (q : List ℕ) (xs : Entries) (e : List ℕ × Option (List ℕ)) (ys : Entries) → AreApart xs (e ∷ ys) → ReachesPlace q xs → bytes_cmp q e.0 ≡ Less
next-less q [] e ys a r = absurd r
next-less q (x ∷ xs) e ys a (inl h) = le_less q x.0 e.0 h a.0.0
next-less q (x ∷ xs) e ys a (inr r) = next-less q xs e ys a.1 r

-- the next shelf starts above what a shelf reaches
next-above : (q : List ℕ) (bs : List Entries) (i : ℕ) → IsAscending (joined bs) → HaveEntries bs → suc i < length bs → ReachesPlace q (get_or bs i []) → starts_within q (get_or bs (suc i) []) ≡ false
next-above q [] i a f h r = absurd (omega arith)
next-above q (c ∷ bs) zero a f h r = first bs (ascending-parts c (joined bs) a).2 f.1 h
  where
    first : (ds : List Entries) → AreApart c (joined ds) → HaveEntries ds → 1 < length (c ∷ ds) → starts_within q (get_or ds 0 []) ≡ false
    first [] p f h = absurd (omega arith)
    first ([] ∷ ds) p f h = absurd f.0
    first ((e ∷ es) ∷ ds) p f h = ap is_le (nat_list_cmp_total.antisymm e.0 q ∙ ap ordering_reverse (next-less q c e (es ++ joined ds) p r))
next-above q (c ∷ bs) (suc i) a f h r = next-above q bs i (ascending-parts c (joined bs) a).1 f.1 (omega arith) r

pub shelf-belongs : (bs : List Entries) (q : List ℕ) (i : ℕ) (last : Bool) → AreSorted bs → i < length bs → BelongsAmong (get_or bs i []) q last → (last ≡ true → suc i < length bs → starts_within q (get_or bs (suc i) []) ≡ false) → IsBlockFor bs q i
shelf-belongs bs q i last s h b e = record { block = h; starts = λ _. b.starts; ends = ends last e b.ends }
  where
    ends : (last : Bool) → (last ≡ true → suc i < length bs → starts_within q (get_or bs (suc i) []) ≡ false) → (last ≡ false → ReachesPlace q (get_or bs i [])) → suc i < length bs → starts_within q (get_or bs (suc i) []) ≡ false
    ends true e r l = e refl l
    ends false e r l = next-above q bs i s.ascends s.full l (r refl)

-- a shelf that isn't the last one
pub shelf-beside : (bs : List Entries) (q : List ℕ) (i : ℕ) → AreSorted bs → i < length bs → BelongsAmong (get_or bs i []) q false → IsBlockFor bs q i
shelf-beside bs q i s h b = shelf-belongs bs q i false s h b (λ e. absurd (true≢false (sym e)))

-- what follows for all shelves where something was put on the shelf where its place belongs
pub shelf-put : (bs : List Entries) (old new : Entries) (q : List ℕ) (i : ℕ) (last : Bool) (r : Option (List ℕ)) → AreSorted bs → i < length bs → old ≡ get_or bs i old → BelongsAmong old q last → (last ≡ true → suc i < length bs → starts_within q (get_or bs (suc i) []) ≡ false)
    → IsChangedAt old new q (place_at old q) (Some r) → AreSorted (set bs i new) × ((place_at (joined bs) q ≡ place_at old q) × IsSetAt (joined bs) (joined (set bs i new)) q (Some r))
shelf-put bs old new q i last r s h v b e c =
    let read : old ≡ get_or bs i [] = block-read bs i old v h in
    let shelf : IsBlockFor bs q i = shelf-belongs bs q i last s h (subst (λ es. BelongsAmong es q last) read b) e in
    let change : IsChangedAt (get_or bs i []) new q (place_at old q) (Some r) = subst (λ es. IsChangedAt es new q (place_at old q) (Some r)) read c in (
      sorted-put bs new q i (place_at old q) r s shelf change,
      (shelf-place bs q i s shelf ∙ ap (λ es. place_at es q) (sym read), shelf-set bs new q i (place_at old q) (Some r) s shelf change),
    )

-- the same of a shelf that isn't the last one
pub put-beside : (bs : List Entries) (old new : Entries) (q : List ℕ) (i : ℕ) (r : Option (List ℕ)) → AreSorted bs → i < length bs → old ≡ get_or bs i old → BelongsAmong old q false → IsChangedAt old new q (place_at old q) (Some r)
    → AreSorted (set bs i new) × ((place_at (joined bs) q ≡ place_at old q) × IsSetAt (joined bs) (joined (set bs i new)) q (Some r))
put-beside bs old new q i r s h v b c = shelf-put bs old new q i false r s h v b (λ e. absurd (true≢false (sym e))) c

-- a shelf that stays changes nothing
pub shelf-same : (bs : List Entries) (old new : Entries) (i : ℕ) → AreSorted bs → i < length bs → old ≡ get_or bs i old → new ≡ old → AreSorted (set bs i new) × (joined (set bs i new) ≡ joined bs)
shelf-same bs old new i s h v e = let same = set-itself bs i new (e ∙ block-read bs i old v h) h in (subst AreSorted (sym same) s, ap joined same)

-- the first row on the shelf where a place belongs
pub first-beside : (bs : List Entries) (q : List ℕ) (i : ℕ) (e : List ℕ × Option (List ℕ)) → AreSorted bs → i < length bs → BelongsAmong (get_or bs i []) q false → IsFirstRow (get_or bs i []) q e → IsFirstRow (joined bs) q e
first-beside bs q i e s h b f = shelf-first bs q i e h (passed-below q (before bs i 0) (bound-below q bs i 0 s.ascends s.full h tt (λ _. b.starts))) f
