-- Lists of numbers, one more at their end.
use Rattle.std.proofs.Common.{◌≡◌, ◌∙◌, ℕ, ◌≤◌, Bool, true, false, not, ◌||◌, nat_eq, List, [], ◌∷◌, ◌++◌, refl, ap, sym, suc, zero, arith, length, take, slice_get, Some}
use Rattle.std.proofs.lemmas.Bool.{and_parts, and_from, or_left, or_right, or_parts, or_from, false≢true, false_from_ne_true, not-true, eqb-true, eq-eqb, ne_eqb, eqb-false}
use Rattle.bdb_base.proofs.ListLemmas.{or_false}
use Rattle.bdb_base.specs.Causes.{is_listed}
use Rattle.bdb_tables.specs.Names.{are_once}

pub take_snoc : (ss : List ℕ) (k at v : ℕ) → slice_get ss at ≡ Some v → take at (ss ++ k ∷ []) ≡ take at ss
take_snoc [] k at v e = absurd cc
take_snoc (x ∷ ss) k zero v e = refl
take_snoc (x ∷ ss) k (suc at) v e = ap (λ (z : List ℕ). x ∷ z) (take_snoc ss k at v e)

pub get_snoc : (ss : List ℕ) (k at v : ℕ) → slice_get ss at ≡ Some v → slice_get (ss ++ k ∷ []) at ≡ Some v
get_snoc [] k at v e = absurd cc
get_snoc (x ∷ ss) k zero v e = e
get_snoc (x ∷ ss) k (suc at) v e = get_snoc ss k at v e

pub listed_get : (ss : List ℕ) (at v : ℕ) → slice_get ss at ≡ Some v → is_listed v ss ≡ true
listed_get [] at v e = absurd cc
listed_get (x ∷ ss) zero v e = let s : x ≡ v = cc in or_left (nat_eq v x) (is_listed v ss) (eq-eqb v x (sym s))
listed_get (x ∷ ss) (suc at) v e = or_right (nat_eq v x) (is_listed v ss) (listed_get ss at v e)

pub listed_take : (ss : List ℕ) (at u v : ℕ) → slice_get ss at ≡ Some u → is_listed v (take (suc at) ss) ≡ (is_listed v (take at ss) || nat_eq v u)
listed_take [] at u v e = absurd cc
listed_take (x ∷ ss) zero u v e = let s : x ≡ u = cc in or_false (nat_eq v x) ∙ ap (nat_eq v) s
listed_take (x ∷ ss) (suc at) u v e = ap (λ b. nat_eq v x || b) (listed_take ss at u v e) ∙ assoc (nat_eq v x) (is_listed v (take at ss)) (nat_eq v u)
  where
    assoc : (a b c : Bool) → (a || (b || c)) ≡ ((a || b) || c)
    assoc true b c = refl
    assoc false b c = refl

-- a number doesn't come before its place
pub once_at : (ss : List ℕ) (at u : ℕ) → are_once ss ≡ true → slice_get ss at ≡ Some u → is_listed u (take at ss) ≡ false
once_at [] at u h e = absurd cc
once_at (x ∷ ss) zero u h e = refl
once_at (x ∷ ss) (suc at) u h e =
    let k = and_parts (not (is_listed x ss)) (are_once ss) h in
    let apart : nat_eq u x ≡ false = false_from_ne_true (nat_eq u x) (λ t.
    false≢true (sym (not-true (is_listed x ss) k.0) ∙ ap (λ y. is_listed y ss) (sym (eqb-true u x t)) ∙ listed_get ss at u e)) in
    or_from (nat_eq u x) (is_listed u (take at ss)) apart (once_at ss at u k.1 e)

pub listed_snoc : (ss : List ℕ) (k c : ℕ) → is_listed k (ss ++ c ∷ []) ≡ (is_listed k ss || nat_eq k c)
listed_snoc [] k c = or_false (nat_eq k c)
listed_snoc (x ∷ ss) k c = ap (λ b. nat_eq k x || b) (listed_snoc ss k c) ∙ assoc (nat_eq k x) (is_listed k ss) (nat_eq k c)
  where
    assoc : (a b c : Bool) → (a || (b || c)) ≡ ((a || b) || c)
    assoc true b c = refl
    assoc false b c = refl

pub once_snoc : (ss : List ℕ) (c : ℕ) → are_once ss ≡ true → is_listed c ss ≡ false → are_once (ss ++ c ∷ []) ≡ true
once_snoc [] c h f = refl
once_snoc (x ∷ ss) c h f =
    let k = and_parts (not (is_listed x ss)) (are_once ss) h in
    let o = or_parts (nat_eq c x) (is_listed c ss) f in
    let apart : nat_eq x c ≡ false = ne_eqb x c (λ e. eqb-false c x o.0 (sym e)) in
    and_from (not (is_listed x (ss ++ c ∷ []))) (are_once (ss ++ c ∷ [])) (ap not (listed_snoc ss x c ∙ or_from (is_listed x ss) (nat_eq x c) (not-true (is_listed x ss) k.0) apart)) (once_snoc ss c k.1 o.1)

pub take_whole : (ss : List ℕ) (at : ℕ) → length ss ≤ at → take at ss ≡ ss
take_whole [] zero l = refl
take_whole [] (suc at) l = refl
take_whole (x ∷ ss) zero l = absurd (omega arith)
take_whole (x ∷ ss) (suc at) l = ap (λ (z : List ℕ). x ∷ z) (take_whole ss at (omega arith))
