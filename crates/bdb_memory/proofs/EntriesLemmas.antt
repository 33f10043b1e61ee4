-- Lemmas on places in order, and on what stands at a place.
use Rattle.std.proofs.Common.{◌≡◌, ℕ, false, cond, List, [], ◌∷◌, ◌++◌, Option, Some, None, refl, sym, ap, ◌∙◌, Less}
use Rattle.std.specs.Prelude.{IsTrue}
use Rattle.std.specs.Ordering.{is_eq, is_le, eq_by_cmp, ordering_reverse}
use Rattle.std.proofs.lemmas.Cmp.{nat_list_cmp_total, eq_by_cmp_equiv}
use Rattle.bdb_keep.specs.Tables.{bytes_cmp}
use Rattle.bdb_keep.proofs.OrderLemmas.{le_less, less_le, less_from_apart}
use Rattle.bdb_memory.specs.Entries.{Entries, place_at, IsSetAt, AreBelow, AreAbove, NoneBelow, IsAscending}

-- ---- lists of places
pub AreBelow-append : (q : List ℕ) (xs ys : Entries) → AreBelow q xs → AreBelow q ys → AreBelow q (xs ++ ys)
AreBelow-append q [] ys a b = b
AreBelow-append q (x ∷ xs) ys a b = (a.0, AreBelow-append q xs ys a.1 b)

pub NoneBelow-append : (q : List ℕ) (xs ys : Entries) → NoneBelow q xs → NoneBelow q ys → NoneBelow q (xs ++ ys)
NoneBelow-append q [] ys a b = b
NoneBelow-append q (x ∷ xs) ys a b = (a.0, NoneBelow-append q xs ys a.1 b)

pub AreAbove-append : (p : List ℕ) (xs ys : Entries) → AreAbove p xs → AreAbove p ys → AreAbove p (xs ++ ys)
AreAbove-append p [] ys a b = b
AreAbove-append p (x ∷ xs) ys a b = (a.0, AreAbove-append p xs ys a.1 b)

pub AreAbove-parts : (p : List ℕ) (xs ys : Entries) → AreAbove p (xs ++ ys) → AreAbove p xs × AreAbove p ys
AreAbove-parts p [] ys a = (tt, a)
AreAbove-parts p (x ∷ xs) ys a = let more = AreAbove-parts p xs ys a.1 in ((a.0, more.0), more.1)

-- each place of the first is below each of the second
abbrev pub AreApart : Entries → Entries → Type 0
AreApart [] ys = Unit {0}
AreApart (x ∷ xs) ys = AreAbove x.0 ys × AreApart xs ys

pub ascending-parts : (xs ys : Entries) → IsAscending (xs ++ ys) → IsAscending xs × IsAscending ys × AreApart xs ys
ascending-parts [] ys a = (tt, a, tt)
ascending-parts (x ∷ xs) ys a =
    let here = AreAbove-parts x.0 xs ys a.0 in
    let more = ascending-parts xs ys a.1 in
    ((here.0, more.0), more.1, (here.1, more.2))

pub ascending-append : (xs ys : Entries) → IsAscending xs → IsAscending ys → AreApart xs ys → IsAscending (xs ++ ys)
ascending-append [] ys a b c = b
ascending-append (x ∷ xs) ys a b c = (AreAbove-append x.0 xs ys a.0 c.0, ascending-append xs ys a.1 b c.1)

pub apart-cons : (xs : Entries) (e : List ℕ × Option (List ℕ)) (ys : Entries) → AreBelow e.0 xs → AreApart xs ys → AreApart xs (e ∷ ys)
apart-cons [] e ys b a = tt
apart-cons (x ∷ xs) e ys b a = ((b.0, a.0), apart-cons xs e ys b.1 a.1)

pub apart-tail : (xs : Entries) (e : List ℕ × Option (List ℕ)) (ys : Entries) → AreApart xs (e ∷ ys) → AreApart xs ys
apart-tail [] e ys a = tt
apart-tail (x ∷ xs) e ys a = (a.0.1, apart-tail xs e ys a.1)

-- one place more, between those below it and those above it
pub ascending-insert : (xs ys : Entries) (e : List ℕ × Option (List ℕ)) → IsAscending (xs ++ ys) → AreBelow e.0 xs → AreAbove e.0 ys → IsAscending (xs ++ e ∷ ys)
ascending-insert xs ys e a b c =
    let parts = ascending-parts xs ys a in
    ascending-append xs (e ∷ ys) parts.0 (c, parts.1) (apart-cons xs e ys b parts.2)

-- one place less
pub ascending-remove : (xs ys : Entries) (e : List ℕ × Option (List ℕ)) → IsAscending (xs ++ e ∷ ys) → IsAscending (xs ++ ys)
ascending-remove xs ys e a =
    let parts = ascending-parts xs (e ∷ ys) a in
    ascending-append xs ys parts.0 parts.1.1 (apart-tail xs e ys parts.2)

-- another row at a place
pub ascending-replace : (xs ys : Entries) (p : List ℕ) (r s : Option (List ℕ)) → IsAscending (xs ++ (p, r) ∷ ys) → IsAscending (xs ++ (p, s) ∷ ys)
ascending-replace [] ys p r s a = a
ascending-replace (x ∷ xs) ys p r s a = (above xs a.0, ascending-replace xs ys p r s a.1)
  where
    above : (zs : Entries) → AreAbove x.0 (zs ++ (p, r) ∷ ys) → AreAbove x.0 (zs ++ (p, s) ∷ ys)
    above [] h = h
    above (z ∷ zs) h = (h.0, above zs h.1)

above_last : (p : List ℕ) (xs : Entries) (e : List ℕ × Option (List ℕ)) → AreAbove p (xs ++ e ∷ []) → bytes_cmp p e.0 ≡ Less
above_last p [] e a = a.0
above_last p (x ∷ xs) e a = above_last p xs e a.1

-- where the last place is below a place, all are
pub below_from_last : (q : List ℕ) (xs : Entries) (e : List ℕ × Option (List ℕ)) → IsAscending (xs ++ e ∷ []) → bytes_cmp e.0 q ≡ Less → AreBelow q (xs ++ e ∷ [])
below_from_last q [] e a l = (l, tt)
below_from_last q (x ∷ xs) e a l = (nat_list_cmp_total.trans x.0 e.0 q (above_last x.0 xs e a.0) l, below_from_last q xs e a.1 l)

pub none_below_above : (q p : List ℕ) (ys : Entries) → IsTrue (is_le (bytes_cmp q p)) → AreAbove p ys → NoneBelow q ys
none_below_above q p [] h a = tt
none_below_above q p (y ∷ ys) h a = (ap is_le (le_less q p y.0 h a.0), none_below_above q p ys h a.1)

-- where the first place isn't below a place, none is
pub none_below_from_first : (q : List ℕ) (e : List ℕ × Option (List ℕ)) (ys : Entries) → IsAscending (e ∷ ys) → IsTrue (is_le (bytes_cmp q e.0)) → NoneBelow q (e ∷ ys)
none_below_from_first q e ys a h = (h, none_below_above q e.0 ys h a.0)

pub above_from_less : (q p : List ℕ) (ys : Entries) → bytes_cmp q p ≡ Less → AreAbove p ys → AreAbove q ys
above_from_less q p [] l a = tt
above_from_less q p (y ∷ ys) l a = (nat_list_cmp_total.trans q p y.0 l a.0, above_from_less q p ys l a.1)

-- where the first place is not the one that is sought, all are above it
pub above_from_first : (q : List ℕ) (e : List ℕ × Option (List ℕ)) (ys : Entries) → IsAscending (e ∷ ys) → NoneBelow q (e ∷ ys) → is_eq (bytes_cmp q e.0) ≡ false → AreAbove q (e ∷ ys)
above_from_first q e ys a h n = let l = less_from_apart q e.0 h.0 n in (l, above_from_less q e.0 ys l a.0)

pub below_from_le : (p q : List ℕ) (xs : Entries) → AreBelow p xs → IsTrue (is_le (bytes_cmp p q)) → AreBelow q xs
below_from_le p q [] b h = tt
below_from_le p q (x ∷ xs) b h = (less_le x.0 p q b.0 h, below_from_le p q xs b.1 h)

-- ---- what stands at a place
-- what is below a place is not at it
pub place_at-below : (q : List ℕ) (xs ys : Entries) → AreBelow q xs → place_at (xs ++ ys) q ≡ place_at ys q
place_at-below q [] ys b = refl
place_at-below q (x ∷ xs) ys b =
    ap (λ r. cond (is_eq r) (Some x.1) (place_at (xs ++ ys) q)) (nat_list_cmp_total.antisymm q x.0 ∙ ap ordering_reverse b.0) ∙ place_at-below q xs ys b.1

-- nor is what is above it
pub place_at-above : (q : List ℕ) (ys : Entries) → AreAbove q ys → place_at ys q ≡ None
place_at-above q [] a = refl
place_at-above q (y ∷ ys) a = ap (λ r. cond (is_eq r) (Some y.1) (place_at ys q)) a.0 ∙ place_at-above q ys a.1

pub place_at-here : (p : List ℕ) (r : Option (List ℕ)) (xs ys : Entries) → AreBelow p xs → place_at (xs ++ (p, r) ∷ ys) p ≡ Some r
place_at-here p r xs ys b = place_at-below p xs ((p, r) ∷ ys) b ∙ ap (λ t. cond t (Some r) (place_at ys p)) ((eq_by_cmp_equiv nat_list_cmp_total).refl p)

-- one entry makes no difference elsewhere
pub place_at-others : (q p : List ℕ) (r : Option (List ℕ)) (xs ys : Entries) → eq_by_cmp bytes_cmp q p ≡ false → place_at (xs ++ (p, r) ∷ ys) q ≡ place_at (xs ++ ys) q
place_at-others q p r [] ys n = ap (λ t. cond t (Some r) (place_at ys q)) n
place_at-others q p r (x ∷ xs) ys n = ap (cond (is_eq (bytes_cmp q x.0)) (Some x.1)) (place_at-others q p r xs ys n)

pub set-replace : (xs ys : Entries) (p : List ℕ) (r s : Option (List ℕ)) → AreBelow p xs → IsSetAt (xs ++ (p, r) ∷ ys) (xs ++ (p, s) ∷ ys) p (Some s)
set-replace xs ys p r s b = record { here = place_at-here p s xs ys b; others = λ q n. place_at-others q p s xs ys n ∙ sym (place_at-others q p r xs ys n) }

pub set-insert : (xs ys : Entries) (p : List ℕ) (s : Option (List ℕ)) → AreBelow p xs → IsSetAt (xs ++ ys) (xs ++ (p, s) ∷ ys) p (Some s)
set-insert xs ys p s b = record { here = place_at-here p s xs ys b; others = λ q n. place_at-others q p s xs ys n }

pub set-remove : (xs ys : Entries) (p : List ℕ) (r : Option (List ℕ)) → AreBelow p xs → AreAbove p ys → IsSetAt (xs ++ (p, r) ∷ ys) (xs ++ ys) p None
set-remove xs ys p r b a = record { here = place_at-below p xs ys b ∙ place_at-above p ys a; others = λ q n. sym (place_at-others q p r xs ys n) }
