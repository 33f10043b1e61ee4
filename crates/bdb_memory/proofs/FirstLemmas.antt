-- Lemmas on the first row from a place on.
use Rattle.std.proofs.Common.{◌≡◌, ℕ, Bool, true, false, cond, List, [], ◌∷◌, Option, Some, None, refl, sym, ap, ◌∙◌, subst}
use Rattle.std.specs.Prelude.{IsTrue, IsSome, is_some, filter, Result, Ok, Err, IfOk, MatchBool}
use Rattle.std.specs.Ordering.{is_le, nat_cmp, eq_by_cmp, ordering_then, ordering_reverse}
use mathlib.Core.Bool.{true≢false}
use Rattle.std.specs.declared.cmp.Ordering.{Ordering}
use Rattle.std.specs.declared.cmp.Ordering.TheVariants.{Less, Equal, Greater}
use Rattle.std.specs.FinMap as finmap
use Rattle.std.proofs.lemmas.Cmp.{nat_cmp_total, nat_list_cmp_total, eq_by_cmp_equiv, tied_itself}
use Rattle.std.proofs.lemmas.Map.Lookups.{exact_unsigned}
use Rattle.bdb_keep.specs.Tables.{bytes_cmp, set_at, IsLeastFrom, NoneFrom}
use Rattle.bdb_memory.specs.Entries.{Entries, row_of, place_at, rows_of, AreAbove, IsAscending}
use Rattle.bdb_memory.specs.Blocks.{IsRest}
use Rattle.bdb_memory.proofs.EntriesLemmas.{place_at-above}
use Rattle.bdb_memory.proofs.StoreLemmas.{get_rows_of}
use Rattle.bdb_keep.proofs.RowsLemmas.{same_place, set_at-same}

-- orders
not_above : (tab first : ℕ) (r s : Ordering) → nat_cmp tab first ≡ r → nat_cmp first tab ≡ s → IsTrue (is_le r) → IsTrue (is_le s) → tab ≡ first
not_above tab first Less s e f a b = let g : nat_cmp first tab ≡ Greater = nat_cmp_total.antisymm first tab ∙ ap ordering_reverse e in absurd (true≢false (sym b ∙ ap is_le (sym f ∙ g)))
not_above tab first Equal s e f a b = exact_unsigned tab first e
not_above tab first Greater s e f a b = absurd (true≢false (sym a))

head_le : (r s : Ordering) → IsTrue (is_le (ordering_then r s)) → IsTrue (is_le r)
head_le Less s h = refl
head_le Equal s h = refl
head_le Greater s h = h

-- a place between two of a table is of that table
first_between : (tab first : ℕ) (low rest q : List ℕ) → IsTrue (is_le (bytes_cmp (tab ∷ low) (first ∷ rest))) → IsTrue (is_le (bytes_cmp (first ∷ rest) (tab ∷ q))) → tab ≡ first
first_between tab first low rest q a b =
    not_above tab first (nat_cmp tab first) (nat_cmp first tab) refl refl (head_le (nat_cmp tab first) (bytes_cmp low rest) a) (head_le (nat_cmp first tab) (bytes_cmp rest q) b)

-- the places of a table are in the order of its keys
inside : (tab : ℕ) (a b : List ℕ) → bytes_cmp (tab ∷ a) (tab ∷ b) ≡ bytes_cmp a b
inside tab a b = ap (λ r. ordering_then r (bytes_cmp a b)) (tied_itself nat_cmp_total tab)

-- the entries without the empty places stand for the same rows
pub rows_of-kept : (es : Entries) → IsAscending es → rows_of (filter (λ e. is_some e.1) es) ≡ rows_of es
rows_of-kept [] s = refl
rows_of-kept (e ∷ es) s = there e.1 refl (rows_of-kept es s.1)
  where
    there : (r : Option (List ℕ)) → e.1 ≡ r → rows_of (filter (λ e. is_some e.1) es) ≡ rows_of es
        → rows_of (cond (is_some r) (e ∷ filter (λ e. is_some e.1) es) (filter (λ e. is_some e.1) es)) ≡ set_at (rows_of es) e.0 e.1
    there (Some b) h same = ap (λ t. set_at t e.0 e.1) same
    there None h same =
        same ∙ sym (ap (set_at (rows_of es) e.0) h ∙ set_at-same (rows_of es) e.0 None (get_rows_of es e.0 ∙ ap row_of (place_at-above e.0 es s.0)))

-- what is found is above a key that is below all others
found_above : (k : List ℕ) (es : Entries) (q : List ℕ) → AreAbove k es → IsSome (place_at es q) → bytes_cmp k q ≡ Less
found_above k [] q h s = absurd (true≢false (sym s))
found_above k (e ∷ es) q h s = there (eq_by_cmp bytes_cmp q e.0) refl s (λ s. found_above k es q h.1 s)
  where
    there : (b : Bool) → eq_by_cmp bytes_cmp q e.0 ≡ b → IsSome (cond b (Some e.1) (place_at es q)) → (IsSome (place_at es q) → bytes_cmp k q ≡ Less) → bytes_cmp k q ≡ Less
    there true t s more = ap (bytes_cmp k) (same_place q e.0 t) ∙ h.0
    there false t s more = more s

-- a row that is there is not below the first
first-below : (more : Entries) (k : List ℕ) (r : Option (List ℕ)) (q : List ℕ) → AreAbove k more → IsSome (row_of (place_at ((k, r) ∷ more) q)) → IsTrue (is_le (bytes_cmp k q))
first-below more k r q h s = there (eq_by_cmp bytes_cmp q k) refl s
  where
    some : (x : Option (Option (List ℕ))) → IsSome (row_of x) → IsSome x
    some None s = s
    some (Some y) s = refl

    there : (b : Bool) → eq_by_cmp bytes_cmp q k ≡ b → IsSome (row_of (cond b (Some r) (place_at more q))) → IsTrue (is_le (bytes_cmp k q))
    there true t s = ap (λ x. is_le (bytes_cmp k x)) (same_place q k t) ∙ ap is_le (tied_itself nat_list_cmp_total k)
    there false t s = ap is_le (found_above k more q h (some (place_at more q) s))

-- a row that stands in the table is the least
pub rest-found : (es rest more : Entries) (tab : ℕ) (low key row : List ℕ) (k : List ℕ) (bytes : List ℕ) → IsRest es rest (tab ∷ low) → rest ≡ (k, Some bytes) ∷ more → k ≡ tab ∷ key → row ≡ bytes → IsLeastFrom (rows_of es) tab low key row
rest-found es rest more tab low key row k bytes w e i b =
    let w' : IsRest es ((k, Some bytes) ∷ more) (tab ∷ low) = subst (λ x. IsRest es x (tab ∷ low)) e w in
    let at : IsTrue (is_le (bytes_cmp (tab ∷ low) (tab ∷ key))) = subst (λ x. IsTrue (is_le (bytes_cmp (tab ∷ low) x))) i w'.above.0 in
    let below : AreAbove k more = w'.sorted.0 in
    record {
      found = get_rows_of es (tab ∷ key) ∙ sym (w'.same (tab ∷ key) at)
          ∙ ap (λ b. row_of (cond b (Some (Some bytes)) (place_at more (tab ∷ key)))) (ap (λ x. eq_by_cmp bytes_cmp (tab ∷ key) x) i ∙ (eq_by_cmp_equiv nat_list_cmp_total).refl (tab ∷ key)) ∙ ap Some (sym b);
      not_below = ap is_le (sym (inside tab low key)) ∙ at;
      least = λ q h s. ap is_le (sym (inside tab key q)) ∙ ap (λ x. is_le (bytes_cmp x (tab ∷ q))) (sym i)
          ∙ first-below more k (Some bytes) (tab ∷ q) below (ap is_some (w'.same (tab ∷ q) (ap is_le (inside tab low q) ∙ h) ∙ sym (get_rows_of es (tab ∷ q))) ∙ s);
    }

-- a first row that stands in another table leaves none in this
pub rest-other : (es rest more : Entries) (tab : ℕ) (low : List ℕ) (k : List ℕ) (bytes : List ℕ) → IsRest es rest (tab ∷ low) → rest ≡ (k, Some bytes) ∷ more → ((q : List ℕ) → k ≡ tab ∷ q → ⊥) → NoneFrom (rows_of es) tab low
rest-other es rest more tab low k bytes w e other q h =
    let w' : IsRest es ((k, Some bytes) ∷ more) (tab ∷ low) = subst (λ x. IsRest es x (tab ∷ low)) e w in
    let below : AreAbove k more = w'.sorted.0 in
    there (finmap.get (rows_of es) (tab ∷ q)) refl w'.above.0
    (λ s. first-below more k (Some bytes) (tab ∷ q) below (ap is_some (w'.same (tab ∷ q) (ap is_le (inside tab low q) ∙ h) ∙ sym (get_rows_of es (tab ∷ q))) ∙ s))
  where
    apart : (ks : List ℕ) → k ≡ ks → IsTrue (is_le (bytes_cmp (tab ∷ low) ks)) → IsTrue (is_le (bytes_cmp ks (tab ∷ q))) → ⊥
    apart [] e a b = true≢false (sym a)
    apart (first ∷ ks) e a b = other ks (e ∙ ap (λ x. x ∷ ks) (sym (first_between tab first low ks q a b)))

    there : (x : Option (List ℕ)) → finmap.get (rows_of es) (tab ∷ q) ≡ x → IsTrue (is_le (bytes_cmp (tab ∷ low) k)) → (IsSome (finmap.get (rows_of es) (tab ∷ q)) → IsTrue (is_le (bytes_cmp k (tab ∷ q)))) → finmap.get (rows_of es) (tab ∷ q) ≡ None
    there None e a b = e
    there (Some r) e a b = absurd (apart k refl a (b (ap is_some e)))

-- where no row is left, there is none
pub rest-end : (es rest : Entries) (tab : ℕ) (low : List ℕ) → IsRest es rest (tab ∷ low) → rest ≡ [] → NoneFrom (rows_of es) tab low
rest-end es rest tab low w e q h = get_rows_of es (tab ∷ q) ∙ sym (w.same (tab ∷ q) (ap is_le (inside tab low q) ∙ h)) ∙ ap (λ x. row_of (place_at x (tab ∷ q))) e

-- what is found, by what was given
pub rest-given : {E : Type 0} (es rest more : Entries) (tab : ℕ) (low key row : List ℕ) (e : List ℕ × Option (List ℕ)) (result : Result Bool E)
    → IsRest es rest (tab ∷ low) → rest ≡ e ∷ more → is_some e.1 ≡ true
    → IfOk result (λ found. found ≡ true → e ≡ (tab ∷ key, Some row)) → IfOk result (λ found. found ≡ false → is_some e.1 ≡ true → (q : List ℕ) → e.0 ≡ tab ∷ q → ⊥)
    → IfOk result (λ found. MatchBool found (IsLeastFrom (rows_of es) tab low key row) (NoneFrom (rows_of es) tab low))
rest-given es rest more tab low key row e (Err x) w h s a b = tt
rest-given es rest more tab low key row e (Ok true) w h s a b = rest-found es rest more tab low key row (tab ∷ key) row w (h ∙ ap (λ x. x ∷ more) (a refl)) refl refl
rest-given es rest more tab low key row e (Ok false) w h s a b = there e.1 refl s
  where
    there : (r : Option (List ℕ)) → e.1 ≡ r → is_some r ≡ true → NoneFrom (rows_of es) tab low
    there None n s = absurd (true≢false (sym s))
    there (Some bytes) n t = rest-other es rest more tab low e.0 bytes w (h ∙ ap (λ x. (e.0, x) ∷ more) n) (b refl s)
