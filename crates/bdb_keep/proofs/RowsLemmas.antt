-- Lemmas on rows that are set at a place.
use Rattle.std.proofs.Common.{◌≡◌, ℕ, Bool, true, false, cond, List, Option, Some, None, refl, sym, ap, ◌∙◌}
use Rattle.std.specs.Ordering.{eq_by_cmp}
use Rattle.std.proofs.lemmas.Cmp.{nat_list_cmp_total}
use Rattle.std.proofs.lemmas.Map.Lookups.{exact_bytes}
use Rattle.std.specs.FinMap as map
use Rattle.std.specs.FinMap.{get-insert, get-remove, same_map}
use Rattle.bdb_keep.specs.Tables.{Tables, bytes_cmp, set_at}
use Rattle.bdb_base.proofs.SetLemmas.{is_eq-Equal}

-- what tables have at a place after another was set
pub get-set_at : (t : Tables) (p : List ℕ) (r : Option (List ℕ)) (q : List ℕ) → map.get (set_at t p r) q ≡ cond (eq_by_cmp bytes_cmp q p) r (map.get t q)
get-set_at t p None q = get-remove nat_list_cmp_total t p q
get-set_at t p (Some row) q = get-insert nat_list_cmp_total t p row q

-- tables that have the same at each place are the same
pub same_tables : (t u : Tables) → ((q : List ℕ) → map.get t q ≡ map.get u q) → t ≡ u
same_tables = same_map nat_list_cmp_total exact_bytes

-- two keys in one place are the same bytes
pub same_place : (q p : List ℕ) → eq_by_cmp bytes_cmp q p ≡ true → q ≡ p
same_place q p e = exact_bytes q p (is_eq-Equal (bytes_cmp q p) e)

-- setting a place back to what it had changes nothing
pub set_at-back : (t : Tables) (p : List ℕ) (r : Option (List ℕ)) → set_at (set_at t p r) p (map.get t p) ≡ t
set_at-back t p r = same_tables _ t (λ q. get-set_at (set_at t p r) p (map.get t p) q ∙ ap (cond (eq_by_cmp bytes_cmp q p) (map.get t p)) (get-set_at t p r q) ∙ there q (eq_by_cmp bytes_cmp q p) refl)
  where
    there : (q : List ℕ) (b : Bool) → eq_by_cmp bytes_cmp q p ≡ b → cond b (map.get t p) (cond b r (map.get t q)) ≡ map.get t q
    there q true e = ap (map.get t) (sym (same_place q p e))
    there q false e = refl

-- setting a place to what it has changes nothing
pub set_at-same : (t : Tables) (p : List ℕ) (r : Option (List ℕ)) → map.get t p ≡ r → set_at t p r ≡ t
set_at-same t p r h = same_tables _ t (λ q. get-set_at t p r q ∙ there q (eq_by_cmp bytes_cmp q p) refl)
  where
    there : (q : List ℕ) (b : Bool) → eq_by_cmp bytes_cmp q p ≡ b → cond b r (map.get t q) ≡ map.get t q
    there q true e = sym h ∙ ap (map.get t) (sym (same_place q p e))
    there q false e = refl
