-- What is read at a key, and the items of a list that are read so far.
use Rattle.std.proofs.Common.{◌≡◌, ℕ, suc, ◌+◌, List, [], ◌∷◌, ◌++◌, take, Option, Some, None, refl, ap, subst, arith}
use Prim.Native.Nat.{zero}
use Rattle.std.specs.List.{slice_get}
use Rattle.bdb_keep.specs.Tables.{Tables}
use Rattle.bdb_tables.specs.Codec.{Codec, HasAt}

-- ---- first items of lists

pub take_more : {X : Type 0} (n : ℕ) (xs : List X) (x : X) → slice_get xs n ≡ Some x → take (suc n) xs ≡ take n xs ++ x ∷ []
take_more zero [] x e = absurd cc
take_more (suc n) [] x e = absurd cc
take_more zero (y ∷ xs) x e = let s : y ≡ x = cc in ap (λ z. z ∷ []) s
take_more (suc n) (y ∷ xs) x e = ap (λ ys. y ∷ ys) (take_more n xs x e)

pub take_none : {X : Type 0} (n : ℕ) (xs : List X) → slice_get xs n ≡ None → take n xs ≡ xs
take_none zero [] e = refl
take_none (suc n) [] e = refl
take_none zero (y ∷ xs) e = absurd cc
take_none (suc n) (y ∷ xs) e = ap (λ ys. y ∷ ys) (take_none n xs e)

pub one_more : (n : ℕ) → suc n ≡ n + 1
one_more n = omega arith

-- ---- what a table has at a key

module _ {Key Row : Type 0} where
  -- what tables have at a key, where these are the tables and the answer
  pub at_old : (c : Codec Key Row) (t u : Tables) (key : Key) (o p : Option Row) → u ≡ t → o ≡ p → HasAt c u key o → HasAt c t key p
  at_old c t u key o p e f h = subst (λ x. HasAt c t key x) f (subst (λ x. HasAt c x key o) e h)
