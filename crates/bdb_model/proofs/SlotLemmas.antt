-- Slots in which less is chosen than in others.
use Rattle.std.proofs.Common.{◌≡◌, ◌∙◌, ℕ, suc, true, List, [], ◌∷◌, ◌++◌, Option, None, Some, refl, ap, sym}
use Prim.Native.Nat.{zero}
use Rattle.std.specs.List.{slice_get}
use Rattle.std.specs.Option.{option_map, option_and_then}
use Rattle.bdb_base.specs.declared.kinds.Cmp.{Cmp}
use Rattle.bdb_base.specs.declared.kinds.Cond.{Cond}
use Rattle.bdb_base.specs.declared.kinds.Operand.{Operand}
use Rattle.bdb_base.specs.declared.kinds.Operand.TheVariants.{Col, Lit}
use Rattle.bdb_base.specs.declared.kinds.Ref.{Ref}
use Rattle.bdb_base.specs.declared.kinds.Value.{Value}
use Rattle.bdb_base.specs.declared.kinds.Who.{Who}
use Rattle.bdb_base.specs.declared.kinds.Who.TheVariants.{User, Of}
use Rattle.bdb_base.specs.declared.tuple.Tuple.{Tuple}
use Rattle.bdb_base.specs.Conditions.{compare_so}
use Rattle.bdb_base.proofs.ListLemmas.{list_all_weaker}
use Rattle.bdb_queries.proofs.FoundLemmas.{option_map_some}
use Rattle.bdb_queries.proofs.RangeLemmas.{and_then_some}
use Rattle.bdb_queries.specs.Slots.{slot_at, known, known_operand, must_hold, must_all_hold, uid_of, path_of}
use Rattle.bdb_model.specs.Allowed.{may_compare, may_hold, may_all_hold}

-- what is chosen in the former is chosen in the latter
abbrev pub Below : List (Option Tuple) → List (Option Tuple) → Type 0
Below [] [] = Unit {0}
Below [] (y ∷ ys) = ⊥
Below (x ∷ xs) [] = ⊥
Below (None ∷ xs) (y ∷ ys) = Below xs ys
Below (Some t ∷ xs) (y ∷ ys) = (y ≡ Some t) × Below xs ys

pub below_itself : (xs : List (Option Tuple)) → Below xs xs
below_itself [] = tt
below_itself (None ∷ xs) = below_itself xs
below_itself (Some t ∷ xs) = (refl, below_itself xs)

-- where an item is chosen, it is so in what is above
below_one : (x y z : Option Tuple) (t : Tuple) → x ≡ Some t → y ≡ x → y ≡ Some t
below_one x y z t e k = k ∙ e

pub below_then : (xs ys zs : List (Option Tuple)) → Below xs ys → Below ys zs → Below xs zs
below_then [] [] [] h k = tt
below_then [] [] (z ∷ zs) h k = k
below_then [] (y ∷ ys) zs h k = absurd h
below_then (x ∷ xs) [] zs h k = absurd h
below_then (None ∷ xs) (y ∷ ys) [] h k = k
below_then (Some t ∷ xs) (y ∷ ys) [] h k = absurd k
below_then (None ∷ xs) (None ∷ ys) (z ∷ zs) h k = below_then xs ys zs h k
below_then (None ∷ xs) (Some u ∷ ys) (z ∷ zs) h k = below_then xs ys zs h k.1
below_then (Some t ∷ xs) (None ∷ ys) (z ∷ zs) h k = cc
below_then (Some t ∷ xs) (Some u ∷ ys) (z ∷ zs) h k = (k.0 ∙ h.0, below_then xs ys zs h.1 k.1)

pub below_append : (pre xs ys : List (Option Tuple)) → Below xs ys → Below (pre ++ xs) (pre ++ ys)
below_append [] xs ys h = h
below_append (None ∷ pre) xs ys h = below_append pre xs ys h
below_append (Some t ∷ pre) xs ys h = (refl, below_append pre xs ys h)

pub below_slot : (xs ys : List (Option Tuple)) (at : ℕ) (t : Tuple) → Below xs ys → slot_at xs at ≡ Some t → slot_at ys at ≡ Some t
below_slot [] [] at t h e = e
below_slot [] (y ∷ ys) at t h e = absurd h
below_slot (x ∷ xs) [] at t h e = absurd h
below_slot (None ∷ xs) (y ∷ ys) zero t h e = cc
below_slot (None ∷ xs) (y ∷ ys) (suc at) t h e = below_slot xs ys at t h e
below_slot (Some u ∷ xs) (y ∷ ys) zero t h e = h.0 ∙ e
below_slot (Some u ∷ xs) (y ∷ ys) (suc at) t h e = below_slot xs ys at t h.1 e

pub below_known : (xs ys : List (Option Tuple)) → Below xs ys → (r : Ref) (v : Value) → known xs r ≡ Some v → known ys r ≡ Some v
below_known xs ys h r v e =
    let k = and_then_some (λ t. slice_get t.vals r.col) (slot_at xs r.item) v e in
    ap (option_and_then (λ t. slice_get t.vals r.col)) (below_slot xs ys r.item k.0 h k.1) ∙ k.2

pub below_operand : (xs ys : List (Option Tuple)) → Below xs ys → (o : Operand) (v : Value) → known_operand xs o ≡ Some v → known_operand ys o ≡ Some v
below_operand xs ys h (Col r) v e = below_known xs ys h r v e
below_operand xs ys h (Lit w) v e = e

below_compare : (cmp : Cmp) (x y a b : Option Value) → ((v : Value) → x ≡ Some v → a ≡ Some v) → ((v : Value) → y ≡ Some v → b ≡ Some v) → compare_so cmp a b ≡ true → may_compare cmp x y ≡ true
below_compare cmp None y a b h k e = refl
below_compare cmp (Some v) None a b h k e = refl
below_compare cmp (Some v) (Some w) a b h k e = ap (λ o. compare_so cmp o (Some w)) (sym (h v refl)) ∙ ap (compare_so cmp a) (sym (k w refl)) ∙ e

-- what must hold in the latter may hold in the former
pub below_may : (xs ys : List (Option Tuple)) → Below xs ys → (conds : List Cond) → must_all_hold ys conds ≡ true → may_all_hold xs conds ≡ true
below_may xs ys h conds e = list_all_weaker (must_hold ys) (may_hold xs)
    (λ c k. below_compare c.cmp (known xs c.left) (known_operand xs c.right) (known ys c.left) (known_operand ys c.right)
    (below_known xs ys h c.left) (below_operand xs ys h c.right) k)
    conds e

pub below_uid : (xs ys : List (Option Tuple)) → Below xs ys → (who : Who) (uid : ℕ) → uid_of xs who ≡ Some uid → uid_of ys who ≡ Some uid
below_uid xs ys h (User i) uid e = e
below_uid xs ys h (Of item) uid e =
    let k = option_map_some (λ t. t.rel) (slot_at xs item) uid e in
    ap (option_map (λ t. t.rel)) (below_slot xs ys item k.0 h k.1) ∙ ap Some k.2

pub below_path : (xs ys : List (Option Tuple)) → Below xs ys → (path : List Who) (w : List ℕ) → path_of xs path ≡ Some w → path_of ys path ≡ Some w
below_path xs ys h [] w e = e
below_path xs ys h (who ∷ whos) w e =
    let k = and_then_some (λ uid. option_map (λ u. uid ∷ u) (path_of xs whos)) (uid_of xs who) w e in
    let m = option_map_some (λ u. k.0 ∷ u) (path_of xs whos) w k.2 in
    ap (option_and_then (λ uid. option_map (λ u. uid ∷ u) (path_of ys whos))) (below_uid xs ys h who k.0 k.1)
    ∙ ap (option_map (λ u. k.0 ∷ u)) (below_path xs ys h whos m.0 m.1) ∙ ap Some m.2
