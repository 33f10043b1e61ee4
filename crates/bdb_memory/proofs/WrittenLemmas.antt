-- The changes of a store, written over the rows last committed, give the rows.
use Rattle.std.proofs.Common.{◌≡◌, ℕ, ◌<◌, Bool, true, false, cond, List, [], ◌∷◌, length, get_or, zero, suc, subst, arith, Some, refl, sym, ap, ◌∙◌, ◌⊎◌, inl, inr}
use Rattle.std.specs.Prelude.{slice_get}
use Rattle.std.specs.Ordering.{eq_by_cmp}
use Rattle.std.specs.FinMap as map
use Rattle.std.proofs.lemmas.Cmp.{nat_list_cmp_total, eq_by_cmp_equiv}
use Rattle.bdb_keep.specs.Tables.{IsPlace, Tables, bytes_cmp, set_at}
use Rattle.bdb_memory.specs.StoreContents.{written}
use Rattle.bdb_memory.specs.Entries.{Entries}
use Rattle.bdb_memory.specs.Changes.{places_of, undone, HavePlaces}
use Rattle.bdb_memory.specs.declared.changes.PlaceChange.{PlaceChange}
use Rattle.bdb_keep.proofs.RowsLemmas.{get-set_at, same_place, same_tables}

abbrev Among : List (List ℕ) → List ℕ → Type 0
Among [] q = ⊥
Among (p ∷ ps) q = (q ≡ p) ⊎ Among ps q

-- a place that was written has the row that it has now
written_at : (now t : Tables) (p q : List ℕ) → (q ≡ p) ⊎ (map.get now q ≡ map.get t q) → map.get now q ≡ map.get (set_at t p (map.get now p)) q
written_at now t p q h = there (eq_by_cmp bytes_cmp q p) refl h ∙ sym (get-set_at t p (map.get now p) q)
  where
    there : (b : Bool) → eq_by_cmp bytes_cmp q p ≡ b → (q ≡ p) ⊎ (map.get now q ≡ map.get t q) → map.get now q ≡ cond b (map.get now p) (map.get t q)
    there true e h = ap (map.get now) (same_place q p e)
    there false e (inl s) = let y : eq_by_cmp bytes_cmp q p ≡ true = ap (λ x. eq_by_cmp bytes_cmp x p) s ∙ (eq_by_cmp_equiv nat_list_cmp_total).refl p in absurd (cc)
    there false e (inr s) = s

-- to write over tables the rows at all places where they differ gives the rows
written-agrees : (ps : List (List ℕ)) (now t : Tables) → ((q : List ℕ) → Among ps q ⊎ (map.get now q ≡ map.get t q)) → written ps now t ≡ now
written-agrees [] now t h = same_tables t now (λ q. none q (h q))
  where
    none : (q : List ℕ) → ⊥ ⊎ (map.get now q ≡ map.get t q) → map.get t q ≡ map.get now q
    none q (inl a) = absurd a
    none q (inr e) = sym e
written-agrees (p ∷ ps) now t h = written-agrees ps now (set_at t p (map.get now p)) (λ q. more q (h q))
  where
    more : (q : List ℕ) → ((q ≡ p) ⊎ Among ps q) ⊎ (map.get now q ≡ map.get t q) → Among ps q ⊎ (map.get now q ≡ map.get (set_at t p (map.get now p)) q)
    more q (inl (inl e)) = inr (written_at now t p q (inl e))
    more q (inl (inr a)) = inl a
    more q (inr e) = inr (written_at now t p q (inr e))

-- changes that are undone differ at their places alone
undone-agrees : (cs : List PlaceChange) (t : Tables) (q : List ℕ) → Among (places_of cs) q ⊎ (map.get t q ≡ map.get (undone cs t) q)
undone-agrees [] t q = inr refl
undone-agrees (c ∷ cs) t q = there (eq_by_cmp bytes_cmp q c.place) refl (undone-agrees cs t q)
  where
    there : (b : Bool) → eq_by_cmp bytes_cmp q c.place ≡ b → Among (places_of cs) q ⊎ (map.get t q ≡ map.get (undone cs t) q)
        → ((q ≡ c.place) ⊎ Among (places_of cs) q) ⊎ (map.get t q ≡ map.get (set_at (undone cs t) c.place c.before) q)
    there true e h = inl (inl (same_place q c.place e))
    there false e (inl a) = inl (inr a)
    there false e (inr s) = inr (s ∙ sym (get-set_at (undone cs t) c.place c.before q ∙ ap (λ b. cond b c.before (map.get (undone cs t) q)) e))

-- the changes, written over the rows last committed, give the rows
pub written-undone : (cs : List PlaceChange) (t : Tables) → written (places_of cs) t (undone cs t) ≡ t
written-undone cs t = written-agrees (places_of cs) t (undone cs t) (undone-agrees cs t)

pub length-places_of : (cs : List PlaceChange) → length (places_of cs) ≡ length cs
length-places_of [] = refl
length-places_of (c ∷ cs) = ap suc (length-places_of cs)

-- the place of a change in the list
pub slice_get-places_of : (cs : List PlaceChange) (i : ℕ) (c : PlaceChange) → i < length cs → c ≡ get_or cs i c → slice_get (places_of cs) i ≡ Some c.place
slice_get-places_of [] i c h e = absurd (omega arith)
slice_get-places_of (d ∷ cs) zero c h e = ap (λ x. Some x.place) (sym e)
slice_get-places_of (d ∷ cs) (suc i) c h e = slice_get-places_of cs i c (omega arith) e

-- each change has a place
pub IsPlace-at : (cs : List PlaceChange) (es : Entries) (i : ℕ) (c : PlaceChange) → HavePlaces cs es → i < length cs → c ≡ get_or cs i c → IsPlace c.place
IsPlace-at [] es i c v h e = absurd (omega arith)
IsPlace-at (d ∷ cs) es zero c v h e = subst (λ x. IsPlace x.place) (sym e) v.0
IsPlace-at (d ∷ cs) es (suc i) c v h e = IsPlace-at cs es i c v.2 (omega arith) e
