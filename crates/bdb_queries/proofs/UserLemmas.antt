-- The tuples of users.
use Rattle.std.proofs.Common.{◌≡◌, ◌∙◌, ℕ, suc, ◌+◌, ◌-◌, ◌<◌, true, List, [], ◌∷◌, None, Some, inl, inr, refl, ap, sym, subst, arith}
use Prim.Native.Nat.{zero}
use Rattle.std.specs.List.{list_any}
use Rattle.std.specs.Option.{is_some}
use Rattle.std.proofs.lemmas.Bool.{false≢true, cond-true, or_cases}
use Rattle.std.proofs.lemmas.Option.{none-some, same_Some}
use Rattle.bdb_base.specs.declared.kinds.UserSlot.{UserSlot}
use Rattle.bdb_base.specs.declared.kinds.UserSlot.TheVariants.{Live, Gone}
use Rattle.bdb_base.specs.declared.tuple.Tuple.{Tuple}
use Rattle.bdb_base.specs.Bases.{is_user, name_at, user_names}
use Rattle.bdb_base.specs.Queries.{user_name}
use Rattle.bdb_base.specs.Same.{same_tuple}
use Rattle.bdb_base.specs.SameLemmas.{same_tuple-Decides}
use Rattle.bdb_base.proofs.UserLemmas.{name_found, user_above, user_at_place}
use Rattle.bdb_queries.specs.Slots.{user_tuple, user_tuples}
use Rattle.bdb_queries.proofs.FoundLemmas.{Found, found_first, found_later}

pub found_nowhere : {X : Type 0} (x : X) → Found x [] → ⊥
found_nowhere x f = false≢true (f (λ _. true) refl)

-- ---- users

-- numbers from one number on, at a place
later : (n k : ℕ) → n + suc k ≡ suc n + k
later n k = omega arith

at_first : (n : ℕ) → n + zero ≡ n
at_first n = omega arith

tuple_at : (n k : ℕ) (users : List UserSlot) (name : List ℕ) → name_at users k ≡ Some name → Found (user_tuple (n + k) name) (user_tuples n users)
tuple_at n k [] name e = absurd (none-some name e)
tuple_at n zero (Live m ∷ users) name e =
    let same : m ≡ name = same_Some m name e in
    subst (λ i. Found (user_tuple i name) (user_tuples n (Live m ∷ users))) (sym (at_first n))
    (subst (λ u. Found (user_tuple n u) (user_tuples n (Live m ∷ users))) same (found_first (user_tuple n m) (user_tuples (suc n) users)))
tuple_at n zero (Gone ∷ users) name e = absurd (none-some name e)
tuple_at n (suc k) (Live m ∷ users) name e =
    subst (λ i. Found (user_tuple i name) (user_tuples n (Live m ∷ users))) (sym (later n k))
    (found_later (user_tuple (suc n + k) name) (user_tuple n m) (user_tuples (suc n) users) (tuple_at (suc n) k users name e))
tuple_at n (suc k) (Gone ∷ users) name e =
    subst (λ i. Found (user_tuple i name) (user_tuples (suc n) users)) (sym (later n k)) (tuple_at (suc n) k users name e)

place_of_tuple : (n : ℕ) (users : List UserSlot) (t : Tuple) → list_any (λ u. same_tuple u t) (user_tuples n users) ≡ true
    → (k : ℕ) × (name : List ℕ) × (name_at users k ≡ Some name) × (t ≡ user_tuple (n + k) name)
place_of_tuple n [] t e = absurd (false≢true e)
place_of_tuple n (Live m ∷ users) t e = elim (or_cases (same_tuple (user_tuple n m) t) (list_any (λ u. same_tuple u t) (user_tuples (suc n) users)) e) [
  | inl k ↦ (zero, m, refl, sym ((same_tuple-Decides (user_tuple n m) t).0 k) ∙ ap (λ i. user_tuple i m) (sym (at_first n)))
  | inr k ↦
      let rest = place_of_tuple (suc n) users t k in
      (suc rest.0, rest.1, rest.2, rest.3 ∙ ap (λ i. user_tuple i rest.1) (sym (later n rest.0)))
]
place_of_tuple n (Gone ∷ users) t e =
    let rest = place_of_tuple (suc n) users t e in
    (suc rest.0, rest.1, rest.2, rest.3 ∙ ap (λ i. user_tuple i rest.1) (sym (later n rest.0)))

-- the name of a place is among the names of all users
pub found_name : (users : List UserSlot) (at : ℕ) (name : List ℕ) → name_at users at ≡ Some name → Found name (user_names users)
found_name [] at name e = absurd (none-some name e)
found_name (Live m ∷ users) zero name e =
    let same : m ≡ name = same_Some m name e in
    subst (λ u. Found u (m ∷ user_names users)) same (found_first m (user_names users))
found_name (Gone ∷ users) zero name e = absurd (none-some name e)
found_name (Live m ∷ users) (suc at) name e = found_later name m (user_names users) (found_name users at name e)
found_name (Gone ∷ users) (suc at) name e = found_name users at name e

-- a user's tuple is among those of all users
pub found_user_tuple : (users : List UserSlot) (uid : ℕ) (name : List ℕ) → is_user users uid ≡ true → user_name users uid ≡ Some name → Found (user_tuple uid name) (user_tuples 1 users)
found_user_tuple users uid name h e =
    let above : 0 < uid = user_above users uid h in
    let same : 1 + (uid - 1) ≡ uid = omega arith in
    subst (λ i. Found (user_tuple i name) (user_tuples 1 users)) same (tuple_at 1 (uid - 1) users name (name_found users uid name e).1)

-- a tuple among those of all users is a user's
pub user_of_test : (users : List UserSlot) (t : Tuple) → list_any (λ u. same_tuple u t) (user_tuples 1 users) ≡ true
    → (uid : ℕ) × (name : List ℕ) × (is_user users uid ≡ true) × (user_name users uid ≡ Some name) × (t ≡ user_tuple uid name)
user_of_test users t f =
    let at = place_of_tuple 1 users t f in
    let k = at.0 in
    let user : is_user users (1 + k) ≡ true = user_at_place users k ∙ ap is_some at.2 in
    let place : (1 + k) - 1 ≡ k = omega arith in
    (1 + k, at.1, user, cond-true (is_user users (1 + k)) (name_at users ((1 + k) - 1)) None user ∙ ap (name_at users) place ∙ at.2, at.3)

pub user_of_tuple : (users : List UserSlot) (t : Tuple) → Found t (user_tuples 1 users)
    → (uid : ℕ) × (name : List ℕ) × (is_user users uid ≡ true) × (user_name users uid ≡ Some name) × (t ≡ user_tuple uid name)
user_of_tuple users t f = user_of_test users t (f (λ u. same_tuple u t) ((same_tuple-Decides t t).1 refl))
