-- How far a copy has come.
use Rattle.std.proofs.Common.{◌≡◌, ◌∙◌, ℕ, ◌+◌, Bool, true, false, List, [], ◌∷◌, refl, ap, sym, subst}
use Rattle.std.specs.Bool.{MatchBool}
use Rattle.std.specs.FinMap as tables
use Rattle.bdb_keep.specs.Scans.{next_key}
use Rattle.bdb_keep.specs.Tables.{IsLeastFrom, LieInTables, NoneFrom, Tables}
use Rattle.bdb_former.specs.Respelled.{below, respelled, respelled_place, respelled_row}
use Rattle.bdb_former.proofs.TableLemmas.{respelled_more, respelled_none}
use Rattle.bdb_copy.proofs.WalkLemmas.{all_below, none_below, row_more, table_ends}

-- no row is copied yet
pub none_copied : (t copy : Tables) → LieInTables t → copy ≡ tables.empty → copy ≡ respelled (below (1 ∷ []) t)
none_copied t copy lie e = e ∙ sym respelled_none ∙ ap respelled (sym (none_below t lie))

-- one row more is copied
pub row_copied : (t now : Tables) (tab : ℕ) (low from key row one its next : List ℕ) (copy new : Tables) (found : Bool) → now ≡ t → from ≡ low → found ≡ true
    → MatchBool found (IsLeastFrom now tab from key row) (NoneFrom now tab from) → one ≡ key → its ≡ row → copy ≡ respelled (below (tab ∷ low) t)
    → new ≡ tables.insert copy (respelled_place (tab ∷ one)) (respelled_row tab its) → next ≡ next_key one → new ≡ respelled (below (tab ∷ next) t)
row_copied t now tab low from key row one its next copy new found same at is told k r before put behind =
    put
    ∙ ap (λ (x : List ℕ). tables.insert copy (respelled_place (tab ∷ x)) (respelled_row tab its)) k
    ∙ ap (λ (x : List ℕ). tables.insert copy (respelled_place (tab ∷ key)) (respelled_row tab x)) r
    ∙ ap (λ (u : Tables). tables.insert u (respelled_place (tab ∷ key)) (respelled_row tab row)) before
    ∙ respelled_more (below (tab ∷ low) t) (tab ∷ key) row
    ∙ ap respelled (sym (row_more t tab low key row least))
    ∙ ap (λ (x : List ℕ). respelled (below (tab ∷ x) t)) (sym (behind ∙ ap next_key k))
  where
    least : IsLeastFrom t tab low key row
    least = subst (λ u. IsLeastFrom u tab low key row) same (subst (λ x. IsLeastFrom now tab x key row) at (subst (λ b. MatchBool b (IsLeastFrom now tab from key row) (NoneFrom now tab from)) is told))

-- a table is copied
pub table_copied : (t now : Tables) (tab : ℕ) (low from key row : List ℕ) (copy : Tables) (found : Bool) → now ≡ t → from ≡ low → found ≡ false
    → MatchBool found (IsLeastFrom now tab from key row) (NoneFrom now tab from) → copy ≡ respelled (below (tab ∷ low) t) → copy ≡ respelled (below ((tab + 1) ∷ []) t)
table_copied t now tab low from key row copy found same at is told before = before ∙ ap respelled (sym (table_ends t tab (tab + 1) low refl none))
  where
    none : NoneFrom t tab low
    none = subst (λ u. NoneFrom u tab low) same (subst (NoneFrom now tab) at (subst (λ b. MatchBool b (IsLeastFrom now tab from key row) (NoneFrom now tab from)) is told))

-- all tables are copied
pub all_copied : (t copy : Tables) (n : ℕ) → LieInTables t → n ≡ 16 → copy ≡ respelled (below (n ∷ []) t) → copy ≡ respelled t
all_copied t copy n lie e before = before ∙ ap (λ m. respelled (below (m ∷ []) t)) e ∙ ap respelled (all_below t lie)
