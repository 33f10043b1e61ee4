-- What is chosen for an item, taken and chosen anew.
use Rattle.std.proofs.Common.{◌≡◌, ℕ, zero, suc, ◌≤◌, List, [], ◌∷◌, Option, None, length, slice_set, refl, ap, arith}
use Rattle.bdb_base.specs.declared.tuple.Tuple.{Tuple}
use Rattle.bdb_queries.specs.Slots.{slot_at}

pub set_again : (xs : List (Option Tuple)) (i : ℕ) (a b : Option Tuple) → slice_set (slice_set xs i a) i b ≡ slice_set xs i b
set_again [] i a b = refl
set_again (x ∷ xs) zero a b = refl
set_again (x ∷ xs) (suc i) a b = ap (λ (ys : List (Option Tuple)). x ∷ ys) (set_again xs i a b)

-- beyond the last item nothing is chosen
pub none_beyond : (xs : List (Option Tuple)) (i : ℕ) → length xs ≤ i → None ≡ slot_at xs i
none_beyond [] zero le = refl
none_beyond [] (suc i) le = refl
none_beyond (x ∷ xs) zero le = absurd (omega arith)
none_beyond (x ∷ xs) (suc i) le = none_beyond xs i (omega arith)
