-- What tables have at a place after a row was put or taken away. Crates above name these lemmas at their functions.
use Rattle.std.proofs.Common.{◌≡◌, ℕ, cond, List, Some, None, ap, ◌∙◌, true}
use Rattle.std.specs.Ordering.{eq_by_cmp}
use Rattle.std.specs.FinMap as map
use Rattle.std.specs.FinMap.{get-empty, get-insert, get-remove}
use Rattle.std.proofs.lemmas.Cmp.{nat_list_cmp_total, eq_by_cmp_equiv}
use Rattle.bdb_keep.specs.Tables.{Tables, bytes_cmp}
use Rattle.bdb_keep.proofs.RowsLemmas.{same_tables}

-- no tables have a row anywhere
pub get_empty : (q : List ℕ) → map.get (map.empty {X = List ℕ} {R = bytes_cmp}) q ≡ None
get_empty q = get-empty bytes_cmp q

-- what stands at any place after a row was put
pub get_after_insert : (t : Tables) (p row q : List ℕ) → map.get (map.insert t p row) q ≡ cond (eq_by_cmp bytes_cmp q p) (Some row) (map.get t q)
get_after_insert t p row q = get-insert nat_list_cmp_total t p row q

-- a row that was put stands at its place
pub get_here : (t : Tables) (p row : List ℕ) → map.get (map.insert t p row) p ≡ Some row
get_here t p row = get-insert nat_list_cmp_total t p row p ∙ ap (λ b. cond b (Some row) (map.get t p)) ((eq_by_cmp_equiv nat_list_cmp_total).refl p)

-- what stands at any place after a row was taken away
pub get_after_remove : (t : Tables) (p q : List ℕ) → map.get (map.remove t p) q ≡ cond (eq_by_cmp bytes_cmp q p) None (map.get t q)
get_after_remove t p q = get-remove nat_list_cmp_total t p q

-- nothing stands at a place from which the row was taken away
pub get_gone : (t : Tables) (p : List ℕ) → map.get (map.remove t p) p ≡ None
get_gone t p = get-remove nat_list_cmp_total t p p ∙ ap (λ b. cond b None (map.get t p)) ((eq_by_cmp_equiv nat_list_cmp_total).refl p)

-- two tables that have the same at each place are the same
pub tables_from_gets : (t u : Tables) → ((q : List ℕ) → map.get t q ≡ map.get u q) → t ≡ u
tables_from_gets = same_tables

pub key_itself : (p : List ℕ) → eq_by_cmp bytes_cmp p p ≡ true
key_itself p = (eq_by_cmp_equiv nat_list_cmp_total).refl p
