-- Rows stay in the tables 1 to 15.
use Rattle.std.proofs.Common.{◌≡◌, ℕ, ◌≤◌, Bool, true, false, cond, List, ◌∷◌, Some, None, refl, sym, ap, ◌∙◌, subst}
use Rattle.std.specs.Ordering.{eq_by_cmp}
use Rattle.std.specs.FinMap as map
use Rattle.std.specs.Prelude.{is_some}
use mathlib.Core.Bool.{true≢false}
use Rattle.bdb_keep.specs.Tables.{IsPlace, LieInTables, Tables, bytes_cmp}
use Rattle.bdb_keep.proofs.Gets.{get_empty, get_after_insert, get_after_remove}
use Rattle.bdb_keep.proofs.RowsLemmas.{same_place}

-- no row is in another table where there is none
pub none_lie : LieInTables map.empty
none_lie q row e = absurd (true≢false (sym (ap is_some e) ∙ ap is_some (get_empty q)))

-- a row that is put in one of the tables
pub put_lies : (t : Tables) (tab : ℕ) (key row : List ℕ) → (1 ≤ tab) × (tab ≤ 15) → LieInTables t → LieInTables (map.insert t (tab ∷ key) row)
put_lies t tab key row table lie q r e = there (eq_by_cmp bytes_cmp q (tab ∷ key)) refl (sym (get_after_insert t (tab ∷ key) row q) ∙ e)
  where
    there : (b : Bool) → eq_by_cmp bytes_cmp q (tab ∷ key) ≡ b → cond b (Some row) (map.get t q) ≡ Some r → IsPlace q
    there true same _ = subst IsPlace (sym (same_place q (tab ∷ key) same)) table
    there false _ found = lie q r found

-- a row that is taken away
pub rest_lie : (t : Tables) (p : List ℕ) → LieInTables t → LieInTables (map.remove t p)
rest_lie t p lie q r e = there (eq_by_cmp bytes_cmp q p) (sym (get_after_remove t p q) ∙ e)
  where
    there : (b : Bool) → cond b None (map.get t q) ≡ Some r → IsPlace q
    there true found = absurd (true≢false (sym (ap is_some found)))
    there false found = lie q r found
