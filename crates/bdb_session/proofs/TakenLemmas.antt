-- The statements that pass a test, what holds of them, and the one of them where there is one.
use Rattle.std.proofs.Common.{◌≡◌, ℕ, Bool, true, ◌&&◌, nat_eq, List, [], ◌∷◌, filter, length, refl, sym, subst, inl, inr, arith}
use Rattle.std.specs.List.{AllByRecursion}
use Rattle.std.proofs.lemmas.Bool.{cases_Bool, and_parts}
use Rattle.bdb_base.specs.Changes.{is_taken}
use Rattle.bdb_base.specs.Same.{same_path, same_sign}
use Rattle.bdb_base.specs.SameLemmas.{same_path-Decides}
use Rattle.bdb_base.specs.Conditions.{meets}
use Rattle.bdb_base.specs.declared.kinds.Cond.{Cond}
use Rattle.bdb_base.specs.declared.kinds.Sign.{Sign}
use Rattle.bdb_base.specs.declared.kinds.Stmt.{Stmt}
use Rattle.bdb_base.proofs.ListLemmas.{filter_kept_one, filter_dropped_one}

-- what holds of all that pass
pub all_taken : (P : Stmt → Type 0) (q : Stmt → Bool) → ((x : Stmt) → q x ≡ true → P x) → (xs : List Stmt) → AllByRecursion P (filter q xs)
all_taken P q h [] = tt
all_taken P q h (x ∷ xs) = elim (cases_Bool (q x)) [
  | inl e ↦ subst (AllByRecursion P) (sym (filter_kept_one q x xs e)) (h x e, all_taken P q h xs)
  | inr e ↦ subst (AllByRecursion P) (sym (filter_dropped_one q x xs e)) (all_taken P q h xs)
]

-- one that a command takes away is of its path
pub taken_at : (w : List ℕ) (sign : Sign) (rel : ℕ) (conds : List Cond) (x : Stmt) → is_taken w sign rel conds x ≡ true → x.path ≡ w
taken_at w sign rel conds x e = (same_path-Decides x.path w).0 (and_parts (same_path x.path w) (same_sign x.sign sign && (nat_eq x.tuple.rel rel && meets conds x.tuple)) e).0

-- of a list of one of which something holds there is that one
pub only_one : (P : Stmt → Type 0) (xs : List Stmt) → AllByRecursion P xs → length xs ≡ 1 → (x : Stmt) × ((xs ≡ x ∷ []) × P x)
only_one P [] all e = absurd (omega (arith, e))
only_one P (x ∷ []) all e = (x, (refl, all.0))
only_one P (x ∷ y ∷ ys) all e = absurd (omega (arith, e))
