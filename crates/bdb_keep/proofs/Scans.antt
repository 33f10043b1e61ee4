-- Going over a table key by key: what lies between a key and the next.
use Rattle.std.proofs.Common.{◌≡◌, ℕ, ◌<◌, Bool, true, false, cond, List, [], ◌∷◌, Option, Some, None, refl, sym, ap, ◌∙◌, arith}
use Rattle.std.specs.Prelude.{IsTrue, is_some}
use Rattle.std.specs.Ordering.{is_le, is_eq, nat_cmp, eq_by_cmp, ordering_then, ordering_reverse}
use Rattle.std.specs.declared.cmp.Ordering.{Ordering}
use Rattle.std.specs.declared.cmp.Ordering.TheVariants.{Less, Equal, Greater}
use Rattle.std.specs.FinMap as finmap
use Rattle.std.proofs.lemmas.Cmp.{ranked, nat_list_cmp_total}
use mathlib.Core.Bool.{true≢false}
use Rattle.bdb_keep.specs.Tables.{Tables, bytes_cmp, IsLeastFrom}
use Rattle.bdb_keep.specs.Scans.{next_key}
use Rattle.bdb_keep.proofs.RowsLemmas.{same_place}

not_less : Equal ≡ Less → ⊥
not_less e = true≢false (ap told e)
  where
    told : Ordering → Bool
    told Less = false
    told Equal = true
    told Greater = true

more_than_less : Greater ≡ Less → ⊥
more_than_less e = true≢false (ap told e)
  where
    told : Ordering → Bool
    told Less = false
    told Equal = true
    told Greater = true

-- a key from the next one on is above
pub above_key : (key q : List ℕ) → IsTrue (is_le (bytes_cmp (next_key key) q)) → bytes_cmp key q ≡ Less
above_key [] [] h = absurd (true≢false (sym h))
above_key [] (y ∷ ys) h = refl
above_key (k ∷ ks) [] h = absurd (true≢false (sym h))
above_key (k ∷ ks) (y ∷ ys) h = there (nat_cmp k y) h (above_key ks ys)
  where
    there : (r : Ordering) → IsTrue (is_le (ordering_then r (bytes_cmp (next_key ks) ys))) → (IsTrue (is_le (bytes_cmp (next_key ks) ys)) → bytes_cmp ks ys ≡ Less) → ordering_then r (bytes_cmp ks ys) ≡ Less
    there Less h more = refl
    there Equal h more = more h
    there Greater h more = absurd (true≢false (sym h))

-- a key above another is from the next one on
pub next_key_le : (key q : List ℕ) → bytes_cmp key q ≡ Less → IsTrue (is_le (bytes_cmp (next_key key) q))
next_key_le [] [] h = absurd (not_less h)
next_key_le [] (y ∷ ys) h = there (nat_cmp 0 y) refl ys
  where
    empty_le : (zs : List ℕ) → IsTrue (is_le (bytes_cmp [] zs))
    empty_le [] = refl
    empty_le (z ∷ zs) = refl

    there : (r : Ordering) → r ≡ nat_cmp 0 y → (zs : List ℕ) → IsTrue (is_le (ordering_then r (bytes_cmp [] zs)))
    there Less e zs = refl
    there Equal e zs = empty_le zs
    there Greater e zs = let below : y < 0 = ranked 0 y Greater e in absurd (omega arith)
next_key_le (k ∷ ks) [] h = absurd (more_than_less h)
next_key_le (k ∷ ks) (y ∷ ys) h = there (nat_cmp k y) h (next_key_le ks ys)
  where
    there : (r : Ordering) → ordering_then r (bytes_cmp ks ys) ≡ Less → (bytes_cmp ks ys ≡ Less → IsTrue (is_le (bytes_cmp (next_key ks) ys))) → IsTrue (is_le (ordering_then r (bytes_cmp (next_key ks) ys)))
    there Less h more = refl
    there Equal h more = more h
    there Greater h more = absurd (more_than_less h)

-- from `low` to the next key after the least there is one row alone
pub between_keys : (t : Tables) (tab : ℕ) (low key row q : List ℕ) → IsLeastFrom t tab low key row → IsTrue (is_le (bytes_cmp low q)) → is_le (bytes_cmp (next_key key) q) ≡ false → finmap.get t (tab ∷ q) ≡ cond (eq_by_cmp bytes_cmp q key) (Some row) None
between_keys t tab low key row q w from below = there (eq_by_cmp bytes_cmp q key) refl
  where
    none : eq_by_cmp bytes_cmp q key ≡ false → (x : Option (List ℕ)) → finmap.get t (tab ∷ q) ≡ x → finmap.get t (tab ∷ q) ≡ None
    none e None g = g
    none e (Some r) g = absurd (apart (bytes_cmp key q) refl (w.least q from (ap is_some g)))
      where
        apart : (r : Ordering) → bytes_cmp key q ≡ r → IsTrue (is_le r) → ⊥
        apart Less o l = true≢false (sym (next_key_le key q o) ∙ below)
        apart Equal o l = true≢false (sym (ap is_eq (nat_list_cmp_total.antisymm q key ∙ ap ordering_reverse o)) ∙ e)
        apart Greater o l = true≢false (sym l)

    there : (b : Bool) → eq_by_cmp bytes_cmp q key ≡ b → finmap.get t (tab ∷ q) ≡ cond b (Some row) None
    there true e = ap (λ x. finmap.get t (tab ∷ x)) (same_place q key e) ∙ w.found
    there false e = none e (finmap.get t (tab ∷ q)) refl
