-- A tally that is right stays so where a row comes or goes.
use Rattle.std.proofs.Common.{◌≡◌, ℕ, arith, ◌+◌, ◌<◌, ◌^◌, Bool, true, false, cond, ◌&&◌, ◌||◌, List, [], Option, drop, get_or, refl, sym, ap, ◌∙◌, subst}
use Rattle.std.specs.Prelude.{not}
use mathlib.Core.Bool.{true≢false}
use Rattle.std.specs.FinMap as map
use Rattle.bdb_keep.specs.Tables.{Tables}
use Rattle.bdb_memory.specs.Entries.{Entries, row_of, place_at, rows_of, IsSetAt}
use Rattle.bdb_memory.specs.Blocks.{joined, AreSorted}
use Rattle.bdb_keep.specs.Marked.{has_word, IsMarkedCount}
use Rattle.bdb_memory.specs.Tallies.{tallied_table, is_marked_in, one_at, count_among, count_in, is_number, AreCounts, IsTally, AreTallied, TallyFollows, HasRisen, HasFallen}
use Rattle.bdb_keep.specs.declared.keeper.KeyEnd.{KeyEnd}
use Rattle.bdb_keep.specs.declared.keeper.KeyEnd.TheVariants.{First, Last}
use Rattle.bdb_memory.specs.declared.tally.Tally.{Tally}
use Rattle.bdb_memory.proofs.StoreLemmas.{get_rows_of, rows_of-updates}
use Rattle.bdb_memory.proofs.TallyLemmas.{count-empty, count-set, count-entries, counted}

-- what is counted before and after
set-count : (end : KeyEnd) (n : ℕ) (es fs : Entries) (p : List ℕ) (to : Option (Option (List ℕ))) → IsSetAt es fs p to
    → one_at tallied_table end n p (row_of (place_at es p)) + count_in tallied_table end n (rows_of fs) ≡ one_at tallied_table end n p (row_of to) + count_in tallied_table end n (rows_of es)
set-count end n es fs p to s =
    ap (λ r. one_at tallied_table end n p r + count_in tallied_table end n (rows_of fs)) (sym (get_rows_of es p))
    ∙ ap (λ t. one_at tallied_table end n p (map.get (rows_of es) p) + count_in tallied_table end n t) (rows_of-updates es fs p to s)
    ∙ count-set tallied_table end n (rows_of es) p (row_of to)

-- one is counted at a place where a row in the table is marked, and its key has the number
one-is : (b : Bool) (end : KeyEnd) (n : ℕ) (p : List ℕ) (row : Option (List ℕ)) → b ≡ is_marked_in tallied_table p row → one_at tallied_table end n p row ≡ cond (b && has_word end n (drop 1 p)) 1 0
one-is b end n p row e = ap (λ x. cond (x && has_word end n (drop 1 p)) 1 0) (sym e)

same-counts : (end : KeyEnd) (es fs : Entries) (p : List ℕ) (to : Option (Option (List ℕ))) (b : Bool) (xs : List ℕ) → IsSetAt es fs p to → b ≡ is_marked_in tallied_table p (row_of (place_at es p))
    → b ≡ is_marked_in tallied_table p (row_of to) → AreCounts end xs (rows_of es) → AreCounts end xs (rows_of fs)
same-counts end es fs p to b xs s was is counts n h =
    counts n h
    ∙ there _ _ _ _ (set-count end n es fs p to s) (one-is b end n p (row_of (place_at es p)) was ∙ sym (one-is b end n p (row_of to) is))
  where
    there : (a c x y : ℕ) → a + y ≡ c + x → a ≡ c → x ≡ y
    there a c x y e f = omega arith

risen-counts : (end : KeyEnd) (es fs : Entries) (p : List ℕ) (to : Option (Option (List ℕ))) (found : Option ℕ) (xs ys : List ℕ) → IsSetAt es fs p to → false ≡ is_marked_in tallied_table p (row_of (place_at es p))
    → true ≡ is_marked_in tallied_table p (row_of to) → ((n : ℕ) → n < 2 ^ 32 → has_word end n (drop 1 p) ≡ is_number found n) → HasRisen found xs ys → AreCounts end xs (rows_of es) → AreCounts end ys (rows_of fs)
risen-counts end es fs p to found xs ys s was is word risen counts n h =
    let at : has_word end n (drop 1 p) ≡ is_number found n = word n (omega arith) in
    there _ _ _ _ _ _ (risen n h) (counts n h) _ (set-count end n es fs p to s) (one-is false end n p (row_of (place_at es p)) was) (one-is true end n p (row_of to) is ∙ ap (λ b. cond b 1 0) at)
  where
    there : (a c one x y count : ℕ) → y ≡ one + x → x ≡ count → (z : ℕ) → a + z ≡ c + count → a ≡ 0 → c ≡ one → y ≡ z
    there a c one x y count e f z g i j = omega arith

fallen-counts : (end : KeyEnd) (es fs : Entries) (p : List ℕ) (to : Option (Option (List ℕ))) (found : Option ℕ) (xs ys : List ℕ) → IsSetAt es fs p to → true ≡ is_marked_in tallied_table p (row_of (place_at es p))
    → false ≡ is_marked_in tallied_table p (row_of to) → ((n : ℕ) → n < 2 ^ 32 → has_word end n (drop 1 p) ≡ is_number found n) → HasFallen found xs ys → AreCounts end xs (rows_of es) → AreCounts end ys (rows_of fs)
fallen-counts end es fs p to found xs ys s was is word fallen counts n h =
    let at : has_word end n (drop 1 p) ≡ is_number found n = word n (omega arith) in
    there _ _ _ _ _ _ (fallen n h) (counts n h) _ (set-count end n es fs p to s) (one-is true end n p (row_of (place_at es p)) was ∙ ap (λ b. cond b 1 0) at) (one-is false end n p (row_of to) is)
  where
    there : (a c one x y count : ℕ) → one + y ≡ x → x ≡ count → (z : ℕ) → a + z ≡ c + count → a ≡ one → c ≡ 0 → y ≡ z
    there a c one x y count e f z g i j = omega arith

-- ---- tallies
pub follows-same : (tally : Tally) (p : List ℕ) (was is : Bool) → was ≡ is → TallyFollows tally tally p was is
follows-same tally p was is same es fs to s w i t = record {
  first = λ h. same-counts First es fs p to was tally.first.items s w (same ∙ i) (t.first h);
  last = λ h. same-counts Last es fs p to was tally.last.items s w (same ∙ i) (t.last h);
}

-- a tally that isn't stale was not, and both counts moved
fresh : (a b c d : Bool) → d ≡ ((a || not b) || not c) → d ≡ false → (a ≡ false) × (b ≡ true) × (c ≡ true)
fresh true b c d e f = absurd (true≢false (sym e ∙ f))
fresh false false c d e f = absurd (true≢false (sym e ∙ f))
fresh false true false d e f = absurd (true≢false (sym e ∙ f))
fresh false true true d e f = (refl, refl, refl)

pub follows-risen : (old new : Tally) (p : List ℕ) (first last : Option ℕ) (b c : Bool) → ((n : ℕ) → n < 2 ^ 32 → has_word First n (drop 1 p) ≡ is_number first n) → ((n : ℕ) → n < 2 ^ 32 → has_word Last n (drop 1 p) ≡ is_number last n)
    → (b ≡ true → HasRisen first old.first.items new.first.items) → (c ≡ true → HasRisen last old.last.items new.last.items) → new.is_stale ≡ ((old.is_stale || not b) || not c) → TallyFollows old new p false true
follows-risen old new p first last b c f l rf rl stale es fs to s w i t = record {
  first = λ h. let was = fresh old.is_stale b c new.is_stale stale h in risen-counts First es fs p to first old.first.items new.first.items s w i f (rf was.1) (t.first was.0);
  last = λ h. let was = fresh old.is_stale b c new.is_stale stale h in risen-counts Last es fs p to last old.last.items new.last.items s w i l (rl was.2) (t.last was.0);
}

pub follows-fallen : (old new : Tally) (p : List ℕ) (first last : Option ℕ) (b c : Bool) → ((n : ℕ) → n < 2 ^ 32 → has_word First n (drop 1 p) ≡ is_number first n) → ((n : ℕ) → n < 2 ^ 32 → has_word Last n (drop 1 p) ≡ is_number last n)
    → (b ≡ true → HasFallen first old.first.items new.first.items) → (c ≡ true → HasFallen last old.last.items new.last.items) → new.is_stale ≡ ((old.is_stale || not b) || not c) → TallyFollows old new p true false
follows-fallen old new p first last b c f l rf rl stale es fs to s w i t = record {
  first = λ h. let was = fresh old.is_stale b c new.is_stale stale h in fallen-counts First es fs p to first old.first.items new.first.items s w i f (rf was.1) (t.first was.0);
  last = λ h. let was = fresh old.is_stale b c new.is_stale stale h in fallen-counts Last es fs p to last old.last.items new.last.items s w i l (rl was.2) (t.last was.0);
}

-- no rows are counted as none
pub tally-empty : (tally : Tally) → tally.first.items ≡ [] → tally.last.items ≡ [] → IsTally tally map.empty
tally-empty tally f l = record {
  first = λ _ n h. ap (λ xs. get_or xs n 0) f ∙ sym (count-empty tallied_table First n);
  last = λ _ n h. ap (λ xs. get_or xs n 0) l ∙ sym (count-empty tallied_table Last n);
}

-- ---- rows on shelves
-- after a row, or none, was put at a place
pub noted : (old new : Tally) (bs cs : List Entries) (p : List ℕ) (before : Option (List ℕ)) (to : Option (Option (List ℕ))) (was is : Bool) → TallyFollows old new p was is → AreTallied bs old → AreSorted cs → IsSetAt (joined bs) (joined cs) p to
    → row_of (place_at (joined bs) p) ≡ before → was ≡ is_marked_in tallied_table p before → is ≡ is_marked_in tallied_table p (row_of to) → AreTallied cs new
noted old new bs cs p before to was is f t a s b w i = record { sorted = a; tallied = f (joined bs) (joined cs) to s (w ∙ ap (is_marked_in tallied_table p) (sym b)) i t.tallied }

-- where the rows are the same
pub kept-tallied : (tally : Tally) (bs cs : List Entries) → AreTallied bs tally → AreSorted cs → rows_of (joined cs) ≡ rows_of (joined bs) → AreTallied cs tally
kept-tallied tally bs cs t a e = record { sorted = a; tallied = subst (IsTally tally) (sym e) t.tallied }

-- a tally counts so many, and so many are marked
pub tally-counted : (tab : ℕ) (end : KeyEnd) (number : ℕ) (tally : Tally) (bs : List Entries) (es : Entries) (n : ℕ) → AreTallied bs tally → joined bs ≡ es → ((t : Tables) → IsTally tally t → n ≡ count_in tab end number t) → IsMarkedCount (rows_of es) tab end number n
tally-counted tab end number tally bs es n t e f =
    subst (λ x. IsMarkedCount (rows_of x) tab end number n) e
    (subst (IsMarkedCount (rows_of (joined bs)) tab end number) (count-entries tab end number (joined bs) t.sorted.ascends ∙ sym (f (rows_of (joined bs)) t.tallied)) (counted tab end number (joined bs) t.sorted.ascends))

-- a walk counts so many, and so many are marked
pub walk-counted : (tab : ℕ) (end : KeyEnd) (number : ℕ) (tally : Tally) (bs : List Entries) (es : Entries) (n : ℕ) → AreTallied bs tally → joined bs ≡ es → n ≡ count_among tab end number (joined bs) → IsMarkedCount (rows_of es) tab end number n
walk-counted tab end number tally bs es n t e f =
    subst (λ x. IsMarkedCount (rows_of x) tab end number n) e
    (subst (IsMarkedCount (rows_of (joined bs)) tab end number) (sym f) (counted tab end number (joined bs) t.sorted.ascends))
