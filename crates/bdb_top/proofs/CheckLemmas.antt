-- How a check of tables ends.
use Rattle.std.proofs.Common.{◌≡◌, ℕ, ◌⊎◌, inl, inr, List, Option, sym, subst}
use Rattle.std.proofs.KnownBytes.{Appends-nil}
use Rattle.bdb_keep.specs.Tables.{Tables}
use Rattle.bdb_top.specs.Checked.{IsChecked}

-- nothing was told
pub not_checked : (t : Tables) (old : Option (List ℕ)) (status : ℕ) → (status ≡ 5) ⊎ (status ≡ 6) → IsChecked t old old status
not_checked t old status is = record {
  statuses = elim is [ inl e ↦ inr (inr (inl e)) | inr e ↦ inr (inr (inr (inl e))) ];
  told = λ not_five not_six. absurd (elim is [ inl e ↦ not_five e | inr e ↦ not_six e ]);
  silent = λ _. Appends-nil old;
}

-- the same, by what was written and what the status is
pub checked_as : (t : Tables) (old new now : Option (List ℕ)) (status number : ℕ) → new ≡ now → status ≡ number → IsChecked t old now number → IsChecked t old new status
checked_as t old new now status number same is h =
    subst (λ (o : Option (List ℕ)). IsChecked t old o status) (sym same) (subst (λ (n : ℕ). IsChecked t old now n) (sym is) h)
