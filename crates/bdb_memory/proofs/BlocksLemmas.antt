-- Lemmas on entries in blocks.
use Rattle.std.proofs.Common.{◌≡◌, ℕ, zero, suc, ◌<◌, ◌≤◌, ◌+◌, ◌-◌, Bool, true, false, cond, map, length-drop, length-take-le, take-take, drop-drop, take-add, List, [], ◌∷◌, ◌++◌, length, take, drop, set, get_or, Option, Some, None, Less, Equal, Greater, refl, sym, ap, ◌∙◌, append_assoc, append-nil, length-set, take-append-drop, take-suc, drop-cons, take_all, drop_of_length-le, subst, arith}
use Rattle.std.specs.Prelude.{is_some, filter, Result, Ok, Err, IfOk, IfErr}
use Rattle.std.specs.Ordering.{is_le, is_lt, is_eq}
use Rattle.std.proofs.lemmas.Cmp.{nat_list_cmp_total, eq_by_cmp_equiv}
use Rattle.std.proofs.lemmas.Result.{IfOk-at_ok, IfErr-at_err}
use Rattle.bdb_keep.specs.Tables.{bytes_cmp}
use Rattle.bdb_memory.specs.Entries.{Entries, place_at, AreBelow, AreAbove, NoneBelow, IsAscending}
use Rattle.bdb_memory.specs.Blocks.{joined, before, after, HasEntry, HaveEntries, AreSorted, IsBlockFor, IsBoundary, IsThere, entry_at, StandsAt, BelongsHere, starts_within, without_empty, has_any, cut}
use lib.Seq.{set_split, drop-append-le}
use Rattle.std.proofs.lemmas.List.Edits.{length-remove}
use Rattle.bdb_base.proofs.SetLemmas.{is_lt-Less}
use Rattle.bdb_keep.proofs.RowsLemmas.{same_place}
use Rattle.bdb_memory.proofs.EntriesLemmas.{AreApart, above_from_first, place_at-here, place_at-below, place_at-above, ascending-replace, ascending-insert, ascending-remove, AreBelow-append, NoneBelow-append, AreAbove-parts, ascending-parts, none_below_from_first, below_from_last}
use Rattle.bdb_keep.proofs.OrderLemmas.{le_from_not_lt, less_le, less_from_not_le}

-- what stands before a place and from it on are all entries
pub split : (bs : List Entries) (i j : ℕ) → joined bs ≡ before bs i j ++ after bs i j
split [] i j = refl
split (b ∷ bs) zero j = ap (λ x. x ++ joined bs) (sym (take-append-drop j b)) ∙ append_assoc (take j b) (drop j b) (joined bs)
split (b ∷ bs) (suc i) j = ap (λ x. b ++ x) (split bs i j) ∙ sym (append_assoc b (before bs i j) (after bs i j))

-- one entry more before
pub before-more : (bs : List Entries) (i j : ℕ) (d : List ℕ × Option (List ℕ)) → i < length bs → j < length (get_or bs i []) → before bs i (suc j) ≡ before bs i j ++ get_or (get_or bs i []) j d ∷ []
before-more [] i j d h k = absurd (omega arith)
before-more (b ∷ bs) zero j d h k = take-suc b j d k
before-more (b ∷ bs) (suc i) j d h k = ap (λ x. b ++ x) (before-more bs i j d (omega arith) k) ∙ sym (append_assoc b (before bs i j) (get_or (get_or bs i []) j d ∷ []))

-- the entry that stands here comes first from here on
pub after-here : (bs : List Entries) (i j : ℕ) (d : List ℕ × Option (List ℕ)) → i < length bs → j < length (get_or bs i []) → after bs i j ≡ get_or (get_or bs i []) j d ∷ after bs i (suc j)
after-here [] i j d h k = absurd (omega arith)
after-here (b ∷ bs) zero j d h k = ap (λ x. x ++ joined bs) (drop-cons b j d k)
after-here (b ∷ bs) (suc i) j d h k = after-here bs i j d (omega arith) k

pub after-start : (bs : List Entries) → after bs 0 0 ≡ joined bs
after-start [] = refl
after-start (b ∷ bs) = refl

pub before-start : (bs : List Entries) → before bs 0 0 ≡ []
before-start [] = refl
before-start (b ∷ bs) = refl

-- past the end of a block is the start of the next
pub after-next : (bs : List Entries) (i j : ℕ) → i < length bs → length (get_or bs i []) ≤ j → after bs i j ≡ after bs (suc i) 0
after-next [] i j h k = absurd (omega arith)
after-next (b ∷ bs) zero j h k = ap (λ x. x ++ joined bs) (drop_of_length-le b k) ∙ sym (after-start bs)
after-next (b ∷ bs) (suc i) j h k = after-next bs i j (omega arith) k

pub before-next : (bs : List Entries) (i j : ℕ) → i < length bs → length (get_or bs i []) ≤ j → before bs i j ≡ before bs (suc i) 0
before-next [] i j h k = absurd (omega arith)
before-next (b ∷ bs) zero j h k = take_all j b k ∙ sym (append-nil b) ∙ ap (λ x. b ++ x) (sym (before-start bs))
before-next (b ∷ bs) (suc i) j h k = ap (λ x. b ++ x) (before-next bs i j (omega arith) k)

pub after-end : (bs : List Entries) (i j : ℕ) → length bs ≤ i → after bs i j ≡ []
after-end [] i j h = refl
after-end (b ∷ bs) zero j h = absurd (omega arith)
after-end (b ∷ bs) (suc i) j h = after-end bs i j (omega arith)

-- a block that was changed in the middle
pub joined-set : (bs : List Entries) (i j k : ℕ) (x : Entries) → i < length bs → joined (set bs i (take j (get_or bs i []) ++ (x ++ drop k (get_or bs i [])))) ≡ before bs i j ++ (x ++ after bs i k)
joined-set [] i j k x h = absurd (omega arith)
joined-set (b ∷ bs) zero j k x h = append_assoc (take j b) (x ++ drop k b) (joined bs) ∙ ap (λ y. take j b ++ y) (append_assoc x (drop k b) (joined bs))
joined-set (b ∷ bs) (suc i) j k x h = ap (λ y. b ++ y) (joined-set bs i j k x (omega arith)) ∙ sym (append_assoc b (before bs i j) (x ++ after bs i k))

pub full-set : (bs : List Entries) (i : ℕ) (b : Entries) → HaveEntries bs → HasEntry b → HaveEntries (set bs i b)
full-set [] i b h k = h
full-set (c ∷ bs) zero b h k = (k, h.1)
full-set (c ∷ bs) (suc i) b h k = (h.0, full-set bs i b h.1 k)

pub full-at : (bs : List Entries) (i : ℕ) → HaveEntries bs → i < length bs → HasEntry (get_or bs i [])
full-at [] i h k = absurd (omega arith)
full-at (b ∷ bs) zero h k = h.0
full-at (b ∷ bs) (suc i) h k = full-at bs i h.1 (omega arith)

-- ---- where a place is found
above-block : (p : List ℕ) (bs : List Entries) (k : ℕ) (d : Entries) → AreAbove p (joined bs) → k < length bs → AreAbove p (get_or bs k d)
above-block p [] k d a h = absurd (omega arith)
above-block p (b ∷ bs) zero d a h = (AreAbove-parts p b (joined bs) a).0
above-block p (b ∷ bs) (suc k) d a h = above-block p bs k d (AreAbove-parts p b (joined bs) a).1 (omega arith)

-- a place below a block that starts within is below what is sought
below-block : (p q : List ℕ) (b : Entries) → HasEntry b → AreAbove p b → starts_within q b ≡ true → bytes_cmp p q ≡ Less
below-block p q [] f a s = absurd f
below-block p q (e ∷ es) f a s = less_le p e.0 q a.0 s

full-get : (bs : List Entries) (k : ℕ) (d : Entries) → HaveEntries bs → k < length bs → HasEntry (get_or bs k d)
full-get [] k d h l = absurd (omega arith)
full-get (b ∷ bs) zero d h l = h.0
full-get (b ∷ bs) (suc k) d h l = full-get bs k d h.1 (omega arith)

pub starts-parted : (q : List ℕ) (bs : List Entries) → IsAscending (joined bs) → HaveEntries bs → (i k : ℕ) (d : Entries) → i ≤ k → k < length bs → starts_within q (get_or bs k d) ≡ true → starts_within q (get_or bs i d) ≡ true
starts-parted q [] a f i k d l h s = absurd (omega arith)
starts-parted q (b ∷ bs) a f zero zero d l h s = s
starts-parted q (b ∷ bs) a f zero (suc k) d l h s = there b f.0 a
  where
    there : (b : Entries) → HasEntry b → IsAscending (b ++ joined bs) → starts_within q b ≡ true
    there [] g a = absurd g
    there (e ∷ es) g a =
        let above = above-block e.0 bs k d (AreAbove-parts e.0 es (joined bs) a.0).1 (omega arith) in
        ap is_le (below-block e.0 q (get_or bs k d) (full-get bs k d f.1 (omega arith)) above s)
starts-parted q (b ∷ bs) a f (suc i) zero d l h s = absurd (omega arith)
starts-parted q (b ∷ bs) a f (suc i) (suc k) d l h s = starts-parted q bs (ascending-parts b (joined bs) a).1 f.1 i k d (omega arith) (omega arith) s

-- all before a place of a block that starts within are below what is sought
pub bound-below : (q : List ℕ) (bs : List Entries) (i j : ℕ) → IsAscending (joined bs) → HaveEntries bs → i < length bs → AreBelow q (take j (get_or bs i [])) → (0 < i → starts_within q (get_or bs i []) ≡ true) → AreBelow q (before bs i j)
bound-below q [] i j a f h b s = tt
bound-below q (c ∷ bs) zero j a f h b s = b
bound-below q (c ∷ bs) (suc i) j a f h b s =
    let parts = ascending-parts c (joined bs) a in
    AreBelow-append q c (before bs i j) (all c parts.2) (bound-below q bs i j parts.1 f.1 (omega arith) b (λ _. s (omega arith)))
  where
    all : (xs : Entries) → AreApart xs (joined bs) → AreBelow q xs
    all [] p = tt
    all (x ∷ xs) p = (below-block x.0 q (get_or bs i []) (full-at bs i f.1 (omega arith)) (above-block x.0 bs i [] p.0 (omega arith)) (s (omega arith)), all xs p.1)

-- none from a place on is below, where the next block starts above
pub bound-above : (q : List ℕ) (bs : List Entries) (i j : ℕ) → IsAscending (joined bs) → HaveEntries bs → i < length bs → NoneBelow q (drop j (get_or bs i [])) → (suc i < length bs → starts_within q (get_or bs (suc i) []) ≡ false) → NoneBelow q (after bs i j)
bound-above q [] i j a f h b s = tt
bound-above q (c ∷ bs) zero j a f h b s = NoneBelow-append q (drop j c) (joined bs) b (rest bs (ascending-parts c (joined bs) a).1 f.1 s)
  where
    rest : (ds : List Entries) → IsAscending (joined ds) → HaveEntries ds → (1 < length (c ∷ ds) → starts_within q (get_or ds 0 []) ≡ false) → NoneBelow q (joined ds)
    rest [] a f s = tt
    rest ([] ∷ ds) a f s = absurd f.0
    rest ((e ∷ es) ∷ ds) a f s = none_below_from_first q e (es ++ joined ds) a (ap is_le (less_from_not_le e.0 q (s (omega arith))))
bound-above q (c ∷ bs) (suc i) j a f h b s = bound-above q bs i j (ascending-parts c (joined bs) a).1 f.1 (omega arith) b (λ l. s (omega arith))

-- ---- a place that stands, and a gap
pub after-stands : (bs : List Entries) (q : List ℕ) (i j : ℕ) → StandsAt bs q i j → after bs i j ≡ (q, (entry_at (get_or bs i []) j).1) ∷ after bs i (suc j)
after-stands bs q i j h = after-here bs i j ([], None) h.there.block h.there.index ∙ ap (λ p. (p, (entry_at (get_or bs i []) j).1) ∷ after bs i (suc j)) h.here

pub joined-stands : (bs : List Entries) (q : List ℕ) (i j : ℕ) → StandsAt bs q i j → joined bs ≡ before bs i j ++ (q, (entry_at (get_or bs i []) j).1) ∷ after bs i (suc j)
joined-stands bs q i j h = split bs i j ∙ ap (λ x. before bs i j ++ x) (after-stands bs q i j h)

pub place_at-stands : (bs : List Entries) (q : List ℕ) (i j : ℕ) → StandsAt bs q i j → place_at (joined bs) q ≡ Some (entry_at (get_or bs i []) j).1
place_at-stands bs q i j h = ap (λ es. place_at es q) (joined-stands bs q i j h) ∙ place_at-here q (entry_at (get_or bs i []) j).1 (before bs i j) (after bs i (suc j)) h.below

pub place_at-gap : (bs : List Entries) (q : List ℕ) (i j : ℕ) → BelongsHere bs q i j → place_at (joined bs) q ≡ None
place_at-gap bs q i j h = ap (λ es. place_at es q) (split bs i j) ∙ place_at-below q (before bs i j) (after bs i j) h.below ∙ place_at-above q (after bs i j) h.above

-- what a search of blocks found stands in them, and the gap that it found is there
pub found-stands : (bs seen : List Entries) (q : List ℕ) (found : Result (ℕ × ℕ) (ℕ × ℕ)) (at : ℕ × ℕ) → seen ≡ bs → found ≡ Ok at
    → IfOk found (λ x. StandsAt seen q x.0 x.1) → StandsAt bs q at.0 at.1
found-stands bs seen q found at same is h = subst (λ cs. StandsAt cs q at.0 at.1) same (IfOk-at_ok (λ x. StandsAt seen q x.0 x.1) is h)

pub found-gap : (bs seen : List Entries) (q : List ℕ) (found : Result (ℕ × ℕ) (ℕ × ℕ)) (at : ℕ × ℕ) → seen ≡ bs → found ≡ Err at
    → IfErr found (λ x. BelongsHere seen q x.0 x.1) → BelongsHere bs q at.0 at.1
found-gap bs seen q found at same is h = subst (λ cs. BelongsHere cs q at.0 at.1) same (IfErr-at_err (λ x. BelongsHere seen q x.0 x.1) is h)

has_entry : (b : Entries) → 0 < length b → HasEntry b
has_entry [] h = absurd (omega arith)
has_entry (e ∷ es) h = tt

-- another row where an entry stands
pub joined-replaced : (bs : List Entries) (i j : ℕ) (s : Option (List ℕ)) → IsThere bs i j
    → joined (set bs i (set (get_or bs i []) j ((entry_at (get_or bs i []) j).0, s))) ≡ before bs i j ++ ((entry_at (get_or bs i []) j).0, s) ∷ after bs i (suc j)
joined-replaced bs i j s t =
    ap (λ c. joined (set bs i c)) (set_split (get_or bs i []) j ((entry_at (get_or bs i []) j).0, s) t.index)
    ∙ joined-set bs i j (suc j) (((entry_at (get_or bs i []) j).0, s) ∷ []) t.block

pub sorted-replaced : (bs : List Entries) (i j : ℕ) (s : Option (List ℕ)) → AreSorted bs → IsThere bs i j → AreSorted (set bs i (set (get_or bs i []) j ((entry_at (get_or bs i []) j).0, s)))
sorted-replaced bs i j s sorted t = record {
  ascends = subst IsAscending (sym (joined-replaced bs i j s t))
      (ascending-replace (before bs i j) (after bs i (suc j)) (entry_at (get_or bs i []) j).0 (entry_at (get_or bs i []) j).1 s
      (subst IsAscending (split bs i j ∙ ap (λ x. before bs i j ++ x) (after-here bs i j ([], None) t.block t.index)) sorted.ascends));
  full = full-set bs i _ sorted.full (has_entry _ (subst (λ n. 0 < n) (sym (length-set (get_or bs i []) j ((entry_at (get_or bs i []) j).0, s))) (let k = t.index in omega arith)));
}

-- where all blocks are sorted, each is
pub ascending-block : (bs : List Entries) (i : ℕ) (d : Entries) → IsAscending (joined bs) → i < length bs → IsAscending (get_or bs i d)
ascending-block [] i d a h = absurd (omega arith)
ascending-block (b ∷ bs) zero d a h = (ascending-parts b (joined bs) a).0
ascending-block (b ∷ bs) (suc i) d a h = ascending-block bs i d (ascending-parts b (joined bs) a).1 (omega arith)

pub sorted-before : (bs : List Entries) (i j : ℕ) → AreSorted bs → IsAscending (before bs i j)
sorted-before bs i j s = (ascending-parts (before bs i j) (after bs i j) (subst IsAscending (split bs i j) s.ascends)).0

pub sorted-after : (bs : List Entries) (i j : ℕ) → AreSorted bs → IsAscending (after bs i j)
sorted-after bs i j s = (ascending-parts (before bs i j) (after bs i j) (subst IsAscending (split bs i j) s.ascends)).1

-- one place more where it belongs
pub sorted-added : (bs cs : List Entries) (q : List ℕ) (r : Option (List ℕ)) (i j : ℕ) → AreSorted bs → BelongsHere bs q i j → joined cs ≡ before bs i j ++ (q, r) ∷ after bs i j → HaveEntries cs → AreSorted cs
sorted-added bs cs q r i j s g e f = record {
  ascends = subst IsAscending (sym e) (ascending-insert (before bs i j) (after bs i j) (q, r) (subst IsAscending (split bs i j) s.ascends) g.below g.above);
  full = f;
}

-- ---- what searches find
above-at : (p : List ℕ) (es : Entries) (k : ℕ) (d : List ℕ × Option (List ℕ)) → AreAbove p es → k < length es → bytes_cmp p (get_or es k d).0 ≡ Less
above-at p [] k d a h = absurd (omega arith)
above-at p (e ∷ es) zero d a h = a.0
above-at p (e ∷ es) (suc k) d a h = above-at p es k d a.1 (omega arith)

-- all up to one that is below what is sought are below it
pub below-up-to : (q : List ℕ) (es : Entries) (n : ℕ) (d : List ℕ × Option (List ℕ)) → IsAscending es → n < length es → is_lt (bytes_cmp (get_or es n d).0 q) ≡ true → AreBelow q (take (suc n) es)
below-up-to q [] n d a h t = absurd (omega arith)
below-up-to q (e ∷ es) zero d a h t = (is_lt-Less (bytes_cmp e.0 q) t, tt)
below-up-to q (e ∷ es) (suc n) d a h t =
    let last : bytes_cmp (get_or es n d).0 q ≡ Less = is_lt-Less (bytes_cmp (get_or es n d).0 q) t in
    (nat_list_cmp_total.trans e.0 (get_or es n d).0 q (above-at e.0 es n d a.0 (omega arith)) last, below-up-to q es n d a.1 (omega arith) t)

-- and none from one on that isn't, is
pub none-below-from : (q : List ℕ) (es : Entries) (n : ℕ) (d : List ℕ × Option (List ℕ)) → IsAscending es → (n < length es → is_lt (bytes_cmp (get_or es n d).0 q) ≡ false) → NoneBelow q (drop n es)
none-below-from q [] zero d a t = tt
none-below-from q [] (suc n) d a t = tt
none-below-from q (e ∷ es) zero d a t = none_below_from_first q e es a (le_from_not_lt e.0 q (t (omega arith)))
none-below-from q (e ∷ es) (suc n) d a t = none-below-from q es n d a.1 (λ l. t (omega arith))

pub bound-found : (q : List ℕ) (bs : List Entries) (i j : ℕ) → AreSorted bs → IsBlockFor bs q i
    → j ≤ length (get_or bs i []) → AreBelow q (take j (get_or bs i [])) → NoneBelow q (drop j (get_or bs i [])) → IsBoundary bs q i j
bound-found q bs i j s f k b a = record {
  below = bound-below q bs i j s.ascends s.full f.block b f.starts;
  above = bound-above q bs i j s.ascends s.full f.block a f.ends;
  block = λ _. f.block;
  index = k;
}

pub bound-none : (q : List ℕ) (bs : List Entries) → length bs ≤ 0 → IsBoundary bs q 0 0
bound-none q [] h = record { below = tt; above = tt; block = λ l. l; index = omega arith }
bound-none q (b ∷ bs) h = absurd (omega arith)

pub last-before : (bs : List Entries) (i j : ℕ) (d : List ℕ × Option (List ℕ)) → i < length bs → 0 < j → j ≤ length (get_or bs i []) → before bs i j ≡ before bs i (j - 1) ++ get_or (get_or bs i []) (j - 1) d ∷ []
last-before bs i zero d h l k = absurd (omega arith)
last-before bs i (suc j) d h l k = let e : suc j - 1 ≡ j = omega arith in before-more bs i j d h (omega arith) ∙ ap (λ n. before bs i n ++ get_or (get_or bs i []) n d ∷ []) (sym e)

pub above-last : (bs : List Entries) (q : List ℕ) (i j : ℕ) (xs : Entries) (e : List ℕ × Option (List ℕ)) → AreSorted bs → before bs i j ≡ xs ++ e ∷ [] → is_lt (bytes_cmp e.0 q) ≡ true → AreBelow q (before bs i j)
above-last bs q i j xs e s h t = subst (AreBelow q) (sym h) (below_from_last q xs e (subst IsAscending h (sorted-before bs i j s)) (is_lt-Less (bytes_cmp e.0 q) t))

pub within-first : (bs : List Entries) (q : List ℕ) (i j k l : ℕ) → AreSorted bs → IsThere bs k l → after bs k l ≡ after bs i j → is_lt (bytes_cmp (entry_at (get_or bs k []) l).0 q) ≡ false → NoneBelow q (after bs i j)
within-first bs q i j k l s t e n =
    let here = after-here bs k l ([], None) t.block t.index in
    subst (NoneBelow q) (sym here ∙ e) (none_below_from_first q (entry_at (get_or bs k []) l) (after bs k (suc l)) (subst IsAscending here (sorted-after bs k l s)) (le_from_not_lt (entry_at (get_or bs k []) l).0 q n))

pub stands-found : (bs : List Entries) (q : List ℕ) (i j k l : ℕ) → IsBoundary bs q i j → IsThere bs k l → before bs k l ≡ before bs i j → is_eq (bytes_cmp (entry_at (get_or bs k []) l).0 q) ≡ true → StandsAt bs q k l
stands-found bs q i j k l b t e h = record { there = t; below = subst (AreBelow q) (sym e) b.below; here = same_place (entry_at (get_or bs k []) l).0 q h }

pub gap-found : (bs : List Entries) (q : List ℕ) (i j k l : ℕ) → AreSorted bs → IsBoundary bs q i j → IsThere bs k l → after bs k l ≡ after bs i j → is_eq (bytes_cmp (entry_at (get_or bs k []) l).0 q) ≡ false → BelongsHere bs q i j
gap-found bs q i j k l s b t e n =
    let here = after-here bs k l ([], None) t.block t.index in
    let p = (entry_at (get_or bs k []) l).0 in
    record {
      below = b.below;
      above = subst (AreAbove q) (sym here ∙ e)
          (above_from_first q (entry_at (get_or bs k []) l) (after bs k (suc l)) (subst IsAscending here (sorted-after bs k l s)) (subst (NoneBelow q) (sym e ∙ here) b.above) ((eq_by_cmp_equiv nat_list_cmp_total).symm q p ∙ n));
      block = b.block;
      index = b.index;
    }

pub gap-end : (bs : List Entries) (q : List ℕ) (i j : ℕ) → IsBoundary bs q i j → after bs i j ≡ [] → BelongsHere bs q i j
gap-end bs q i j b e = record { below = b.below; above = subst (AreAbove q) (sym e) tt; block = b.block; index = b.index }

-- ---- what is known around a spot
apart-below : (q : List ℕ) (xs : Entries) (e : List ℕ × Option (List ℕ)) (ys : Entries) → AreApart xs (e ∷ ys) → e.0 ≡ q → AreBelow q xs
apart-below q [] e ys a h = tt
apart-below q (x ∷ xs) e ys a h = (ap (bytes_cmp x.0) (sym h) ∙ a.0.0, apart-below q xs e ys a.1 h)

-- the place itself stands here
pub bound-here : (bs : List Entries) (q : List ℕ) (i j : ℕ) → AreSorted bs → IsThere bs i j → bytes_cmp (entry_at (get_or bs i []) j).0 q ≡ Equal → IsBoundary bs q i j
bound-here bs q i j s t h =
    let e = entry_at (get_or bs i []) j in
    let parts = ascending-parts (before bs i j) (e ∷ after bs i (suc j)) (subst IsAscending (split bs i j ∙ ap (λ x. before bs i j ++ x) (after-here bs i j ([], None) t.block t.index)) s.ascends) in
    let k = t.index in
    record {
      below = apart-below q (before bs i j) e (after bs i (suc j)) parts.2 (same_place e.0 q (ap is_eq h));
      above = within-first bs q i j i j s t refl (ap is_lt h);
      block = λ _. t.block;
      index = omega arith;
    }

-- the one here is below, and none behind it is
pub bound-behind : (bs : List Entries) (q : List ℕ) (i j k : ℕ) → AreSorted bs → IsThere bs i j → bytes_cmp (entry_at (get_or bs i []) j).0 q ≡ Less → k ≡ suc j → NoneBelow q (after bs i k) → IsBoundary bs q i k
bound-behind bs q i j k s t h m a =
    let l = t.index in
    subst (IsBoundary bs q i) (sym m) (record {
      below = above-last bs q i (suc j) (before bs i j) (entry_at (get_or bs i []) j) s (before-more bs i j ([], None) t.block t.index) (ap is_lt h);
      above = subst (λ n. NoneBelow q (after bs i n)) m a;
      block = λ _. t.block;
      index = omega arith;
    })

-- the one here is above, and all before it are below
pub bound-before : (bs : List Entries) (q : List ℕ) (i j : ℕ) → AreSorted bs → IsThere bs i j → bytes_cmp (entry_at (get_or bs i []) j).0 q ≡ Greater → AreBelow q (before bs i j) → IsBoundary bs q i j
bound-before bs q i j s t h b =
    let k = t.index in
    record { below = b; above = within-first bs q i j i j s t refl (ap is_lt h); block = λ _. t.block; index = omega arith }

-- ---- a block cut in two
pub joined-cut : (bs : List Entries) (i h : ℕ) → i < length bs → joined (cut bs i h) ≡ joined bs
joined-cut [] i h l = absurd (omega arith)
joined-cut (b ∷ bs) zero h l = sym (append_assoc (take h b) (drop h b) (joined bs)) ∙ ap (λ x. x ++ joined bs) (take-append-drop h b)
joined-cut (b ∷ bs) (suc i) h l = ap (λ x. b ++ x) (joined-cut bs i h (omega arith))

pub full-cut : (bs : List Entries) (i h : ℕ) → HaveEntries bs → i < length bs → 0 < h → h < length (get_or bs i []) → HaveEntries (cut bs i h)
full-cut [] i h f l p k = absurd (omega arith)
full-cut (b ∷ bs) zero h f l p k = (has_entry (take h b) (let n = length-take-le h b (omega arith) in omega arith), (has_entry (drop h b) (let n = length-drop h b in omega arith), f.1))
full-cut (b ∷ bs) (suc i) h f l p k = (f.0, full-cut bs i h f.1 (omega arith) p k)

pub length-cut : (bs : List Entries) (i h : ℕ) → i < length bs → length (cut bs i h) ≡ suc (length bs)
length-cut [] i h l = absurd (omega arith)
length-cut (b ∷ bs) zero h l = refl
length-cut (b ∷ bs) (suc i) h l = ap suc (length-cut bs i h (omega arith))

pub cut-front : (bs : List Entries) (i h : ℕ) → i < length bs → get_or (cut bs i h) i [] ≡ take h (get_or bs i [])
cut-front [] i h l = absurd (omega arith)
cut-front (b ∷ bs) zero h l = refl
cut-front (b ∷ bs) (suc i) h l = cut-front bs i h (omega arith)

pub cut-back : (bs : List Entries) (i h : ℕ) → i < length bs → get_or (cut bs i h) (suc i) [] ≡ drop h (get_or bs i [])
cut-back [] i h l = absurd (omega arith)
cut-back (b ∷ bs) zero h l = refl
cut-back (b ∷ bs) (suc i) h l = cut-back bs i h (omega arith)

pub before-cut-front : (bs : List Entries) (i j h : ℕ) → i < length bs → j ≤ h → before (cut bs i h) i j ≡ before bs i j
before-cut-front [] i j h l k = absurd (omega arith)
before-cut-front (b ∷ bs) zero j h l k = take-take j h b k
before-cut-front (b ∷ bs) (suc i) j h l k = ap (λ x. b ++ x) (before-cut-front bs i j h (omega arith) k)

pub after-cut-front : (bs : List Entries) (i j h : ℕ) → i < length bs → j ≤ h → h ≤ length (get_or bs i []) → after (cut bs i h) i j ≡ after bs i j
after-cut-front [] i j h l k m = absurd (omega arith)
after-cut-front (b ∷ bs) zero j h l k m =
    sym (append_assoc (drop j (take h b)) (drop h b) (joined bs))
    ∙ ap (λ x. x ++ joined bs) (sym (drop-append-le j (take h b) (drop h b) (let n = length-take-le h b m in omega arith)) ∙ ap (drop j) (take-append-drop h b))
after-cut-front (b ∷ bs) (suc i) j h l k m = after-cut-front bs i j h (omega arith) k m

pub before-cut-back : (bs : List Entries) (i j h : ℕ) → i < length bs → h ≤ j → before (cut bs i h) (suc i) (j - h) ≡ before bs i j
before-cut-back [] i j h l k = absurd (omega arith)
before-cut-back (b ∷ bs) zero j h l k = let e : h + (j - h) ≡ j = omega arith in sym (take-add h (j - h) b) ∙ ap (λ n. take n b) e
before-cut-back (b ∷ bs) (suc i) j h l k = ap (λ x. b ++ x) (before-cut-back bs i j h (omega arith) k)

pub after-cut-back : (bs : List Entries) (i j h : ℕ) → i < length bs → h ≤ j → after (cut bs i h) (suc i) (j - h) ≡ after bs i j
after-cut-back [] i j h l k = absurd (omega arith)
after-cut-back (b ∷ bs) zero j h l k = let e : h + (j - h) ≡ j = omega arith in ap (λ x. x ++ joined bs) (drop-drop (j - h) h b ∙ ap (λ n. drop n b) e)
after-cut-back (b ∷ bs) (suc i) j h l k = after-cut-back bs i j h (omega arith) k

pub sorted-cut : (bs : List Entries) (i h : ℕ) → AreSorted bs → i < length bs → 0 < h → h < length (get_or bs i []) → AreSorted (cut bs i h)
sorted-cut bs i h s l p k = record { ascends = subst IsAscending (sym (joined-cut bs i h l)) s.ascends; full = full-cut bs i h s.full l p k }

-- ---- an entry taken out
pub joined-alone : (bs : List Entries) (i j : ℕ) → IsThere bs i j → length (get_or bs i []) ≡ 1 → joined (take i bs ++ drop (suc i) bs) ≡ before bs i j ++ after bs i (suc j)
joined-alone [] i j t e = absurd (let h = t.block in omega arith)
joined-alone ([] ∷ bs) zero j t e = absurd (omega arith)
joined-alone ((x ∷ []) ∷ bs) zero zero t e = refl
joined-alone ((x ∷ []) ∷ bs) zero (suc j) t e = absurd (let h = t.index in omega arith)
joined-alone ((x ∷ (y ∷ ys)) ∷ bs) zero j t e = absurd (omega arith)
joined-alone (b ∷ bs) (suc i) j t e =
    ap (λ x. b ++ x) (joined-alone bs i j (record { block = let h = t.block in omega arith; index = t.index }) e) ∙ sym (append_assoc b (before bs i j) (after bs i (suc j)))

full-alone : (bs : List Entries) (i : ℕ) → HaveEntries bs → HaveEntries (take i bs ++ drop (suc i) bs)
full-alone [] zero f = tt
full-alone [] (suc i) f = tt
full-alone (b ∷ bs) zero f = f.1
full-alone (b ∷ bs) (suc i) f = (f.0, full-alone bs i f.1)

ascending-taken : (bs : List Entries) (i j : ℕ) → AreSorted bs → IsThere bs i j → IsAscending (before bs i j ++ after bs i (suc j))
ascending-taken bs i j s t =
    ascending-remove (before bs i j) (after bs i (suc j)) (entry_at (get_or bs i []) j)
    (subst IsAscending (split bs i j ∙ ap (λ x. before bs i j ++ x) (after-here bs i j ([], None) t.block t.index)) s.ascends)

pub sorted-alone : (bs : List Entries) (i j : ℕ) → AreSorted bs → IsThere bs i j → length (get_or bs i []) ≡ 1 → AreSorted (take i bs ++ drop (suc i) bs)
sorted-alone bs i j s t e = record { ascends = subst IsAscending (sym (joined-alone bs i j t e)) (ascending-taken bs i j s t); full = full-alone bs i s.full }

pub joined-less : (bs : List Entries) (i j : ℕ) → i < length bs → joined (set bs i (take j (get_or bs i []) ++ drop (suc j) (get_or bs i []))) ≡ before bs i j ++ after bs i (suc j)
joined-less bs i j h = joined-set bs i j (suc j) [] h

pub sorted-less : (bs : List Entries) (i j : ℕ) → AreSorted bs → IsThere bs i j → 1 < length (get_or bs i []) → AreSorted (set bs i (take j (get_or bs i []) ++ drop (suc j) (get_or bs i [])))
sorted-less bs i j s t h = record {
  ascends = subst IsAscending (sym (joined-less bs i j t.block)) (ascending-taken bs i j s t);
  full = full-set bs i _ s.full (has_entry _ (let n = length-remove (get_or bs i []) j t.index in omega arith));
}

-- ---- an entry put in
pub joined-more : (bs : List Entries) (i j : ℕ) (e : List ℕ × Option (List ℕ)) → i < length bs → joined (set bs i (take j (get_or bs i []) ++ e ∷ drop j (get_or bs i []))) ≡ before bs i j ++ e ∷ after bs i j
joined-more bs i j e h = joined-set bs i j j (e ∷ []) h

pub full-more : (bs : List Entries) (i j : ℕ) (e : List ℕ × Option (List ℕ)) → HaveEntries bs → HaveEntries (set bs i (take j (get_or bs i []) ++ e ∷ drop j (get_or bs i [])))
full-more bs i j e f = full-set bs i _ f (some (take j (get_or bs i [])))
  where
    some : (xs : Entries) → HasEntry (xs ++ e ∷ drop j (get_or bs i []))
    some [] = tt
    some (x ∷ xs) = tt

-- the first block of all
pub joined-first : (bs : List Entries) (i j : ℕ) (e : List ℕ × Option (List ℕ)) → length bs ≤ 0 → joined (bs ++ (e ∷ []) ∷ []) ≡ before bs i j ++ e ∷ after bs i j
joined-first [] i j e h = refl
joined-first (b ∷ bs) i j e h = absurd (omega arith)

pub full-first : (bs : List Entries) (e : List ℕ × Option (List ℕ)) → HaveEntries bs → HaveEntries (bs ++ (e ∷ []) ∷ [])
full-first [] e f = (tt, tt)
full-first (b ∷ bs) e f = (f.0, full-first bs e f.1)

-- ---- empty places taken away
without-append : (xs ys : Entries) → without_empty (xs ++ ys) ≡ without_empty xs ++ without_empty ys
without-append [] ys = refl
without-append (x ∷ xs) ys = there (is_some x.1) (without-append xs ys)
  where
    there : (b : Bool) → without_empty (xs ++ ys) ≡ without_empty xs ++ without_empty ys → cond b (x ∷ without_empty (xs ++ ys)) (without_empty (xs ++ ys)) ≡ cond b (x ∷ without_empty xs) (without_empty xs) ++ without_empty ys
    there true more = ap (λ zs. x ∷ zs) more
    there false more = more

pub joined-without : (bs : List Entries) → joined (map without_empty bs) ≡ without_empty (joined bs)
joined-without [] = refl
joined-without (b ∷ bs) = ap (λ x. without_empty b ++ x) (joined-without bs) ∙ sym (without-append b (joined bs))

pub joined-full : (bs : List Entries) → joined (filter has_any bs) ≡ joined bs
joined-full [] = refl
joined-full ([] ∷ bs) = joined-full bs
joined-full ((e ∷ es) ∷ bs) = ap (λ x. (e ∷ es) ++ x) (joined-full bs)

pub full-filter : (bs : List Entries) → HaveEntries (filter has_any bs)
full-filter [] = tt
full-filter ([] ∷ bs) = full-filter bs
full-filter ((e ∷ es) ∷ bs) = (tt, full-filter bs)

pub ascending-without : (es : Entries) → IsAscending es → IsAscending (without_empty es)
ascending-without [] a = tt
ascending-without (e ∷ es) a = there (is_some e.1) (above es a.0) (ascending-without es a.1)
  where
    above : (xs : Entries) → AreAbove e.0 xs → AreAbove e.0 (without_empty xs)
    above [] h = tt
    above (x ∷ xs) h = pick (is_some x.1) (above xs h.1)
      where
        pick : (b : Bool) → AreAbove e.0 (without_empty xs) → AreAbove e.0 (cond b (x ∷ without_empty xs) (without_empty xs))
        pick true m = (h.0, m)
        pick false m = m

    there : (b : Bool) → AreAbove e.0 (without_empty es) → IsAscending (without_empty es) → IsAscending (cond b (e ∷ without_empty es) (without_empty es))
    there true h m = (h, m)
    there false h m = m

pub sorted-without : (bs cs : List Entries) → AreSorted bs → joined cs ≡ joined (map without_empty bs) → HaveEntries cs → AreSorted cs
sorted-without bs cs s e f = record { ascends = subst IsAscending (sym (e ∙ joined-without bs)) (ascending-without (joined bs) s.ascends); full = f }

-- one block more of the front
pub joined-take-more : (bs : List Entries) (i : ℕ) (d : Entries) → i < length bs → joined (take (suc i) bs) ≡ joined (take i bs) ++ get_or bs i d
joined-take-more [] i d h = absurd (omega arith)
joined-take-more (b ∷ bs) zero d h = append-nil b
joined-take-more (b ∷ bs) (suc i) d h = ap (λ x. b ++ x) (joined-take-more bs i d (omega arith)) ∙ sym (append_assoc b (joined (take i bs)) (get_or bs i d))

-- what the steps of a cut make
pub cut-made : (bs rs xs new : List Entries) (i n h : ℕ) (front back old : Entries) → new ≡ take n xs ++ back ∷ drop n xs → n ≡ suc i → xs ≡ set rs i front → rs ≡ bs → front ≡ take h old → back ≡ drop h old → old ≡ get_or rs i [] → new ≡ cut bs i h
cut-made bs rs xs new i n h front back old e m s r f b o = e ∙ ap (λ k. take k xs ++ back ∷ drop k xs) m ∙ ap (λ ys. take (suc i) ys ++ back ∷ drop (suc i) ys) (s ∙ changed) ∙ ap (λ y. take (suc i) (set bs i (take h (get_or bs i []))) ++ y ∷ drop (suc i) (set bs i (take h (get_or bs i [])))) (b ∙ ap (drop h) was)
  where
    was : old ≡ get_or bs i []
    was = o ∙ ap (λ ys. get_or ys i []) r

    changed : set rs i front ≡ set bs i (take h (get_or bs i []))
    changed = ap (λ ys. set ys i front) r ∙ ap (set bs i) (f ∙ ap (take h) was)

-- where a spot is after its block was cut: what a cut ensures, whether the spot lies before it or behind it
pub record IsMoved (bs cs : List Entries) (i j k l : ℕ) : Type 0 where
  pub block : k < length cs
  pub index : l ≤ length (get_or cs k [])
  pub before_same : before cs k l ≡ before bs i j
  pub after_same : after cs k l ≡ after bs i j

pub moved-front : (bs cs : List Entries) (i j h : ℕ) → cs ≡ cut bs i h → i < length bs → j ≤ h → h < length (get_or bs i []) → IsMoved bs cs i j i j
moved-front bs cs i j h e l k f = record {
  block = subst (λ xs. i < length xs) (sym e) (let n = length-cut bs i h l in omega arith);
  index = subst (λ xs. j ≤ length (get_or xs i [])) (sym e) (subst (λ b. j ≤ length b) (sym (cut-front bs i h l)) (let n = length-take-le h (get_or bs i []) (omega arith) in omega arith));
  before_same = ap (λ xs. before xs i j) e ∙ before-cut-front bs i j h l k;
  after_same = ap (λ xs. after xs i j) e ∙ after-cut-front bs i j h l k (omega arith);
}

pub moved-back : (bs cs : List Entries) (i j h n : ℕ) → cs ≡ cut bs i h → i < length bs → h ≤ j → j ≤ length (get_or bs i []) → h < length (get_or bs i []) → n ≡ suc i → IsMoved bs cs i j n (j - h)
moved-back bs cs i j h n e l k b f m = subst (λ x. IsMoved bs cs i j x (j - h)) (sym m) (record {
  block = subst (λ xs. suc i < length xs) (sym e) (let n = length-cut bs i h l in omega arith);
  index = subst (λ xs. j - h ≤ length (get_or xs (suc i) [])) (sym e) (subst (λ b. j - h ≤ length b) (sym (cut-back bs i h l)) (let n = length-drop h (get_or bs i []) in omega arith));
  before_same = ap (λ xs. before xs (suc i) (j - h)) e ∙ before-cut-back bs i j h l k;
  after_same = ap (λ xs. after xs (suc i) (j - h)) e ∙ after-cut-back bs i j h l k;
})

other_default : (bs : List Entries) (i : ℕ) (d e : Entries) → i < length bs → get_or bs i d ≡ get_or bs i e
other_default [] i d e h = absurd (omega arith)
other_default (b ∷ bs) zero d e h = refl
other_default (b ∷ bs) (suc i) d e h = other_default bs i d e (omega arith)

-- a block that was read
pub block-read : (bs : List Entries) (i : ℕ) (b : Entries) → b ≡ get_or bs i b → i < length bs → b ≡ get_or bs i []
block-read bs i b e h = e ∙ other_default bs i b [] h

pub entry-length : (b : Entries) → HasEntry b → 0 < length b
entry-length [] h = absurd h
entry-length (e ∷ es) h = omega arith

-- past an entry fewer are left
pub rest-fewer : (bs : List Entries) (i j k l m : ℕ) → IsThere bs k l → after bs k l ≡ after bs i j → m ≡ suc l → length (after bs k m) < length (after bs i j)
rest-fewer bs i j k l m t e h =
    let n : length (after bs i j) ≡ suc (length (after bs k (suc l))) = ap length (sym e ∙ after-here bs k l ([], None) t.block t.index) in
    let x : length (after bs k m) ≡ length (after bs k (suc l)) = ap (λ y. length (after bs k y)) h in
    omega arith
