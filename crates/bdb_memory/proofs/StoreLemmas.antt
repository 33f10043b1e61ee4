-- Lemmas on what entries stand for, and on the undo list.
use Rattle.std.proofs.Math.Seq.{take-suc}
use Rattle.std.proofs.Common.{◌≡◌, ℕ, ◌<◌, length, take, get_or, suc, Bool, true, false, cond, List, [], ◌∷◌, ◌++◌, Option, Some, None, refl, sym, ap, ◌∙◌, subst}
use Rattle.std.specs.Prelude.{IsSome, is_some, IfNone, OnSome}
use Rattle.std.specs.Ordering.{is_eq, eq_by_cmp}
use Rattle.std.specs.FinMap as map
use Rattle.std.specs.FinMap.{get-empty}
use Rattle.bdb_keep.specs.Tables.{IsPlace, Tables, bytes_cmp, set_at}
use Rattle.bdb_keep.proofs.RowsLemmas.{get-set_at, same_tables, same_place, set_at-back, set_at-same}
use Rattle.bdb_memory.specs.Entries.{Entries, row_of, place_at, rows_of, KeepsPlaces, IsSetAt}
use Rattle.bdb_memory.specs.Changes.{places_of, undone, HavePlaces}
use Rattle.bdb_memory.specs.declared.changes.PlaceChange.{PlaceChange}

moved : {X Y : Type 0} (f : X → Y) (b : Bool) (x y : X) → cond b (f x) (f y) ≡ f (cond b x y)
moved f true x y = refl
moved f false x y = refl

-- what entries stand for at a place
pub get_rows_of : (es : Entries) (q : List ℕ) → map.get (rows_of es) q ≡ row_of (place_at es q)
get_rows_of [] q = get-empty bytes_cmp q
get_rows_of (e ∷ es) q = get-set_at (rows_of es) e.0 e.1 q ∙ ap (cond (is_eq (bytes_cmp q e.0)) e.1) (get_rows_of es q) ∙ moved row_of (is_eq (bytes_cmp q e.0)) (Some e.1) (place_at es q)

-- the newest change is undone first
pub undone-push : (cs : List PlaceChange) (c : PlaceChange) (t : Tables) → undone (cs ++ c ∷ []) t ≡ undone cs (set_at t c.place c.before)
undone-push [] c t = refl
undone-push (d ∷ cs) c t = ap (λ u. set_at u d.place d.before) (undone-push cs c t)

pub places_of-push : (cs : List PlaceChange) (c : PlaceChange) → places_of (cs ++ c ∷ []) ≡ places_of cs ++ c.place ∷ []
places_of-push [] c = refl
places_of-push (d ∷ cs) c = ap (λ ps. d.place ∷ ps) (places_of-push cs c)

-- a change that is kept in the list leaves the rows as they were before all changes
pub undone-change : (cs : List PlaceChange) (c : PlaceChange) (t u : Tables) (r : Option (List ℕ)) → u ≡ set_at t c.place r → c.before ≡ map.get t c.place → undone (cs ++ c ∷ []) u ≡ undone cs t
undone-change cs c t u r e b = undone-push cs c u ∙ ap (undone cs) (ap (λ v. set_at v c.place c.before) e ∙ ap (set_at (set_at t c.place r) c.place) b ∙ set_at-back t c.place r)

pub HavePlaces-keeps : (cs : List PlaceChange) (es fs : Entries) → HavePlaces cs es → KeepsPlaces es fs → HavePlaces cs fs
HavePlaces-keeps [] es fs h k = tt
HavePlaces-keeps (c ∷ cs) es fs h k = (h.0, k c.place h.1, HavePlaces-keeps cs es fs h.2 k)

pub HavePlaces-push : (cs : List PlaceChange) (c : PlaceChange) (es : Entries) → HavePlaces cs es → IsPlace c.place → IsSome (place_at es c.place) → HavePlaces (cs ++ c ∷ []) es
HavePlaces-push [] c es h p s = (p, s, tt)
HavePlaces-push (d ∷ cs) c es h p s = (h.0, h.1, HavePlaces-push cs c es h.2 p s)

-- an update sets the row at its place
pub rows_of-updates : (es fs : Entries) (p : List ℕ) (w : Option (Option (List ℕ))) → IsSetAt es fs p w → rows_of fs ≡ set_at (rows_of es) p (row_of w)
rows_of-updates es fs p w h = same_tables _ _ (λ q. get_rows_of fs q ∙ there q (eq_by_cmp bytes_cmp q p) refl ∙ ap (cond (eq_by_cmp bytes_cmp q p) (row_of w)) (sym (get_rows_of es q)) ∙ sym (get-set_at (rows_of es) p (row_of w) q))
  where
    there : (q : List ℕ) (b : Bool) → eq_by_cmp bytes_cmp q p ≡ b → row_of (place_at fs q) ≡ cond b (row_of w) (row_of (place_at es q))
    there q true e = ap (λ x. row_of (place_at fs x)) (same_place q p e) ∙ ap row_of h.here
    there q false e = ap row_of (h.others q e)

-- an update that puts something keeps all places
pub KeepsPlaces-updates : (es fs : Entries) (p : List ℕ) (x : Option (List ℕ)) → IsSetAt es fs p (Some x) → KeepsPlaces es fs
KeepsPlaces-updates es fs p x h q = there (eq_by_cmp bytes_cmp q p) refl
  where
    there : (b : Bool) → eq_by_cmp bytes_cmp q p ≡ b → IsSome (place_at es q) → IsSome (place_at fs q)
    there true e s = ap is_some (ap (place_at fs) (same_place q p e) ∙ h.here)
    there false e s = ap is_some (h.others q e) ∙ s

module _ (old mid new : List PlaceChange) (v : List ℕ) (b : Option (List ℕ)) (p : List ℕ) (es fs : Entries)
    (m : mid ≡ old) (n : new ≡ mid ++ record { place = v; before = b } ∷ []) (e : v ≡ p) where
  pushed : new ≡ old ++ record { place = v; before = b } ∷ []
  pushed = n ∙ ap (λ cs. cs ++ record { place = v; before = b } ∷ []) m

  -- a change that is kept in the list leaves the rows as they were before all changes
  pub undone-kept : (r : Option (List ℕ)) → row_of (place_at es p) ≡ b → rows_of fs ≡ set_at (rows_of es) p r → undone new (rows_of fs) ≡ undone old (rows_of es)
  undone-kept r h s =
      let c : PlaceChange = record { place = v; before = b } in
      ap (λ cs. undone cs (rows_of fs)) pushed
      ∙ undone-change old c (rows_of es) (rows_of fs) r (s ∙ ap (λ x. set_at (rows_of es) x r) (sym e)) (sym h ∙ sym (get_rows_of es p) ∙ ap (map.get (rows_of es)) (sym e))

  -- the same where the row that stood there is known from the rows
  pub undone-taken : (r : Option (List ℕ)) → map.get (rows_of es) p ≡ b → rows_of fs ≡ set_at (rows_of es) p r → undone new (rows_of fs) ≡ undone old (rows_of es)
  undone-taken r h s = undone-kept r (sym (get_rows_of es p) ∙ h) s

  pub HavePlaces-kept : HavePlaces old es → IsPlace p → IsSome (place_at fs p) → KeepsPlaces es fs → HavePlaces new fs
  HavePlaces-kept h i s k =
      let c : PlaceChange = record { place = v; before = b } in
      subst (λ cs. HavePlaces cs fs) (sym pushed) (HavePlaces-push old c fs (HavePlaces-keeps old es fs h k) (subst IsPlace (sym e) i) (subst (λ x. IsSome (place_at fs x)) (sym e) s))

  pub places_of-kept : places_of new ≡ places_of old ++ p ∷ []
  places_of-kept = let c : PlaceChange = record { place = v; before = b } in ap places_of pushed ∙ places_of-push old c ∙ ap (λ x. places_of old ++ x ∷ []) e

-- what stands at a place as a row
pub row_of-place : (es : Entries) (p : List ℕ) (x : Option (Option (List ℕ))) → place_at es p ≡ x → row_of x ≡ map.get (rows_of es) p
row_of-place es p x h = ap row_of (sym h) ∙ sym (get_rows_of es p)

-- where there is no such place, the rows have nothing to take away
pub rows_of-absent : (es fs : Entries) (p : List ℕ) → place_at es p ≡ None → fs ≡ es → rows_of fs ≡ map.remove (rows_of es) p
rows_of-absent es fs p h e = ap rows_of e ∙ sym (set_at-same (rows_of es) p None (get_rows_of es p ∙ ap row_of h))

-- an empty place that is emptied leaves the rows as they were
pub rows_of-empty : (es fs : Entries) (p : List ℕ) (before : Option (List ℕ)) → place_at es p ≡ Some before → rows_of fs ≡ set_at (rows_of es) p None → IfNone before (rows_of fs ≡ rows_of es)
rows_of-empty es fs p None h s = s ∙ set_at-same (rows_of es) p None (get_rows_of es p ∙ ap row_of h)
rows_of-empty es fs p (Some row) h s = tt

-- a place that was there is there
pub place-stays : (es fs : Entries) (p : List ℕ) (before : Option (List ℕ)) → place_at es p ≡ Some before → KeepsPlaces es fs → OnSome before (IsSome (place_at fs p))
place-stays es fs p None h k = tt
place-stays es fs p (Some row) h k = k p (ap is_some h)

-- one change more of the front, by its place
take-more : (cs : List PlaceChange) (n i : ℕ) (c : PlaceChange) → n ≡ suc i → i < length cs → c ≡ get_or cs i c → take n cs ≡ take i cs ++ c ∷ []
take-more cs n i c m h e = ap (λ k. take k cs) m ∙ take-suc cs i c h ∙ ap (λ d. take i cs ++ d ∷ []) (sym e)

-- the newest change of the front is undone, and leaves a shorter front
pub undone-step : (cs ds : List PlaceChange) (n i : ℕ) (c : PlaceChange) (t u v : Tables) → n ≡ suc i → i < length cs → c ≡ get_or cs i c → u ≡ set_at t c.place c.before → undone (take n cs) t ≡ v → take i ds ≡ take i cs → undone (take i ds) u ≡ v
undone-step cs ds n i c t u v m h e s w d =
    ap (λ xs. undone xs u) d ∙ ap (undone (take i cs)) s ∙ sym (undone-push (take i cs) c t) ∙ ap (λ xs. undone xs t) (sym (take-more cs n i c m h e)) ∙ w

HavePlaces-front : (cs ds : List PlaceChange) (es : Entries) → HavePlaces (cs ++ ds) es → HavePlaces cs es
HavePlaces-front [] ds es h = tt
HavePlaces-front (c ∷ cs) ds es h = (h.0, h.1, HavePlaces-front cs ds es h.2)

HavePlaces-last : (cs : List PlaceChange) (c : PlaceChange) (es : Entries) → HavePlaces (cs ++ c ∷ []) es → IsSome (place_at es c.place)
HavePlaces-last [] c es h = h.1
HavePlaces-last (d ∷ cs) c es h = HavePlaces-last cs c es h.2

-- the places of a shorter front
pub HavePlaces-step : (cs ds : List PlaceChange) (n i : ℕ) (c : PlaceChange) (es fs : Entries) → n ≡ suc i → i < length cs → c ≡ get_or cs i c → HavePlaces (take n cs) es → KeepsPlaces es fs → take i ds ≡ take i cs → HavePlaces (take i ds) fs
HavePlaces-step cs ds n i c es fs m h e w k d =
    HavePlaces-keeps (take i ds) es fs (subst (λ xs. HavePlaces xs es) (sym d) (HavePlaces-front (take i cs) (c ∷ []) es (subst (λ xs. HavePlaces xs es) (take-more cs n i c m h e) w))) k

-- the newest change of the front has its place
pub newest-has : (cs : List PlaceChange) (n i : ℕ) (c : PlaceChange) (es : Entries) → n ≡ suc i → i < length cs → c ≡ get_or cs i c → HavePlaces (take n cs) es → IsSome (place_at es c.place)
newest-has cs n i c es m h e w = HavePlaces-last (take i cs) c es (subst (λ xs. HavePlaces xs es) (take-more cs n i c m h e) w)
