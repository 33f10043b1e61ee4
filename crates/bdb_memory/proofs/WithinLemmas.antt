-- Lemmas on rows that lie within others, and on rows without one of them.
use Rattle.std.proofs.Common.{◌≡◌, ℕ, zero, suc, ◌<◌, ◌+◌, arith, length, get_or, take, take-suc, Bool, true, false, cond, List, [], ◌∷◌, ◌++◌, Option, Some, None, refl, sym, ap, ◌∙◌, subst}
use Rattle.std.specs.Prelude.{IsTrue, IfSome, ◌↔◌, nat_eq}
use Rattle.std.specs.Bool.{Decides}
use Rattle.std.specs.Cmp.{unsigned_Decides}
use Rattle.std.specs.Cmp.Lexicographic.{pointwise}
use Rattle.std.specs.Ordering.{eq_by_cmp}
use Rattle.std.specs.FinMap as map
use Rattle.std.specs.FinMap.{get-empty}
use Rattle.std.proofs.lemmas.Cmp.{nat_list_cmp_total, eq_by_cmp_equiv}
use Rattle.std.proofs.lemmas.Slice.Eq.{slice_eq-Decides}
use Rattle.bdb_keep.specs.Tables.{Tables, bytes_cmp, LieWithin}
use Rattle.bdb_memory.specs.Entries.{Entries, row_of, rows_of, IsAscending, IsAmong, AreAmong}
use Rattle.bdb_memory.specs.Blocks.{joined}
use Rattle.bdb_memory.proofs.EntriesLemmas.{place_at-above}
use Rattle.bdb_memory.proofs.BlocksLemmas.{joined-take-more}
use Rattle.bdb_keep.proofs.RowsLemmas.{get-set_at, same_place, same_tables}
use Rattle.bdb_memory.proofs.StoreLemmas.{get_rows_of}

-- the row of an entry was compared with the row that stands at its place
pub among-some : (t : Tables) (e : List ℕ × Option (List ℕ)) (bytes other : List ℕ) (r : Bool) → e.1 ≡ Some bytes → (p : List ℕ) → p ≡ e.0 → Some other ≡ map.get t p → r ≡ pointwise nat_eq bytes other → IsTrue r ↔ IsAmong t e
among-some t e bytes other r f p i h d =
    let here : map.get t e.0 ≡ Some other = ap (map.get t) (sym i) ∙ sym h in
    let same : Decides r (bytes ≡ other) = slice_eq-Decides unsigned_Decides bytes other r d in
    subst (λ w. IsTrue r ↔ IfSome w (λ b. map.get t e.0 ≡ Some b)) (sym f)
    (λ x. here ∙ ap Some (sym (same.0 x)), λ g. same.1 (cc))

-- no row stands at the place of an entry that has one
pub among-none : (t : Tables) (e : List ℕ × Option (List ℕ)) (bytes : List ℕ) → e.1 ≡ Some bytes → (p : List ℕ) → p ≡ e.0 → None ≡ map.get t p → IsTrue false ↔ IsAmong t e
among-none t e bytes f p i h =
    let none : map.get t e.0 ≡ None = ap (map.get t) (sym i) ∙ sym h in
    subst (λ w. IsTrue false ↔ IfSome w (λ b. map.get t e.0 ≡ Some b)) (sym f) (λ x. absurd (cc), λ g. absurd (cc))

-- what is among some rows, entry by entry
pub among-append : (t : Tables) (xs ys : Entries) → AreAmong t xs → AreAmong t ys → AreAmong t (xs ++ ys)
among-append t [] ys a b = b
among-append t (x ∷ xs) ys a b = (a.0, among-append t xs ys a.1 b)

pub among-parts : (t : Tables) (xs ys : Entries) → AreAmong t (xs ++ ys) → AreAmong t xs × AreAmong t ys
among-parts t [] ys a = (tt, a)
among-parts t (x ∷ xs) ys a = let more = among-parts t xs ys a.1 in ((a.0, more.0), more.1)

pub among-at : (t : Tables) (es : Entries) (i : ℕ) (d : List ℕ × Option (List ℕ)) → AreAmong t es → i < length es → IsAmong t (get_or es i d)
among-at t [] i d a h = absurd (omega arith)
among-at t (e ∷ es) zero d a h = a.0
among-at t (e ∷ es) (suc i) d a h = among-at t es i d a.1 (omega arith)

pub among-block : (t : Tables) (bs : List Entries) (i : ℕ) (d : Entries) → AreAmong t (joined bs) → i < length bs → AreAmong t (get_or bs i d)
among-block t [] i d a h = absurd (omega arith)
among-block t (b ∷ bs) zero d a h = (among-parts t b (joined bs) a).0
among-block t (b ∷ bs) (suc i) d a h = among-block t bs i d (among-parts t b (joined bs) a).1 (omega arith)

-- one entry more of the front
pub among-more : (t : Tables) (es : Entries) (i : ℕ) (d : List ℕ × Option (List ℕ)) → i < length es → AreAmong t (take i es) → IsAmong t (get_or es i d) → AreAmong t (take (i + 1) es)
among-more t es i d h a e =
    let next : i + 1 ≡ suc i = omega arith in
    subst (AreAmong t) (sym (ap (λ n. take n es) next ∙ take-suc es i d h)) (among-append t (take i es) (get_or es i d ∷ []) a (e, tt))

-- one block more of the front
pub among-block-more : (t : Tables) (bs : List Entries) (i : ℕ) (d : Entries) → i < length bs → AreAmong t (joined (take i bs)) → AreAmong t (get_or bs i d) → AreAmong t (joined (take (i + 1) bs))
among-block-more t bs i d h a e =
    let next : i + 1 ≡ suc i = omega arith in
    subst (AreAmong t) (sym (ap (λ n. joined (take n bs)) next ∙ joined-take-more bs i d h)) (among-append t (joined (take i bs)) (get_or bs i d) a e)

-- rows of which each is among others lie within them
pub lie-from-among : (t : Tables) (es : Entries) → AreAmong t es → LieWithin (rows_of es) t
lie-from-among t [] a q row h = let n : map.get (rows_of []) q ≡ None = get-empty bytes_cmp q in absurd (cc)
lie-from-among t (e ∷ es) a q row h = there (eq_by_cmp bytes_cmp q e.0) refl (sym (get-set_at (rows_of es) e.0 e.1 q) ∙ h) (lie-from-among t es a.1 q row)
  where
    had : (x : Option (List ℕ)) → IfSome x (λ b. map.get t e.0 ≡ Some b) → x ≡ Some row → map.get t e.0 ≡ Some row
    had None s n = absurd (cc)
    had (Some b) s n = s ∙ n

    there : (b : Bool) → eq_by_cmp bytes_cmp q e.0 ≡ b → cond b e.1 (map.get (rows_of es) q) ≡ Some row → (map.get (rows_of es) q ≡ Some row → map.get t q ≡ Some row) → map.get t q ≡ Some row
    there true s h more = ap (map.get t) (same_place q e.0 s) ∙ had e.1 a.0 h
    there false s h more = more h

-- and the other way round
pub among-from-lie : (t : Tables) (es : Entries) → IsAscending es → LieWithin (rows_of es) t → AreAmong t es
among-from-lie t [] s lie = tt
among-from-lie t (e ∷ es) s lie = (here e.1 refl, among-from-lie t es s.1 (λ q row h. lie q row (get-set_at (rows_of es) e.0 e.1 q ∙ later q row h (eq_by_cmp bytes_cmp q e.0) refl)))
  where
    here : (x : Option (List ℕ)) → e.1 ≡ x → IfSome x (λ b. map.get t e.0 ≡ Some b)
    here None n = tt
    here (Some b) n = lie e.0 b (get-set_at (rows_of es) e.0 e.1 e.0 ∙ ap (λ y. cond y e.1 (map.get (rows_of es) e.0)) ((eq_by_cmp_equiv nat_list_cmp_total).refl e.0) ∙ n)

    later : (q row : List ℕ) → map.get (rows_of es) q ≡ Some row → (b : Bool) → eq_by_cmp bytes_cmp q e.0 ≡ b → cond b e.1 (map.get (rows_of es) q) ≡ Some row
    later q row h false n = h
    later q row h true n =
        let none : map.get (rows_of es) q ≡ None = ap (map.get (rows_of es)) (same_place q e.0 n) ∙ get_rows_of es e.0 ∙ ap row_of (place_at-above e.0 es s.0) in
        absurd (cc)

-- rows that lie within each other are the same
pub same_within : (t u : Tables) → LieWithin t u → LieWithin u t → t ≡ u
same_within t u a b = same_tables t u (λ q. there q (map.get t q) (map.get u q) refl refl)
  where
    there : (q : List ℕ) (x y : Option (List ℕ)) → map.get t q ≡ x → map.get u q ≡ y → map.get t q ≡ map.get u q
    there q None None e f = e ∙ sym f
    there q (Some r) y e f = e ∙ sym (a q r e)
    there q None (Some r) e f = b q r f ∙ sym f

-- equal rows lie within each other
pub within_itself : (t u : Tables) → t ≡ u → LieWithin t u × LieWithin u t
within_itself t u e = (λ q row h. ap (λ x. map.get x q) (sym e) ∙ h, λ q row h. ap (λ x. map.get x q) e ∙ h)
