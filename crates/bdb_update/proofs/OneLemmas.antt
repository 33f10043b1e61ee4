-- How often is written where one statement of a list of one goes.
use Rattle.std.proofs.Common.{◌≡◌, ◌∙◌, ◌+◌, ◌≤◌, ℕ, List, [], ◌∷◌, refl, ap, sym, subst, drop, arith, length}
use Prim.Native.Nat.{zero, suc}
use Rattle.bdb_base.specs.declared.kinds.Stmt.{Stmt}
use Rattle.bdb_keep.specs.Seen.{Seen}
use Rattle.bdb_update.specs.Bounds.{WritesWithinMore}

-- so many statements are gone: while it is none, nothing was done; one that is alone was taken away with few writes
pub record OneGoes (old new : Seen) (all : List Stmt) (gone : ℕ) : Type 0 where
  pub none : gone ≡ 0 → new ≡ old
  pub one : (x : Stmt) → all ≡ x ∷ [] → 1 ≤ gone → WritesWithinMore (length x.path + 2) 8 old new

-- what is left of a list of one is that one, where anything is left
left_of_one : (n : ℕ) (x y : Stmt) (rest : List Stmt) → drop n (x ∷ []) ≡ y ∷ rest → (n ≡ 0) × (y ≡ x)
left_of_one zero x y rest e = (refl, cc)
left_of_one (suc zero) x y rest e = absurd cc
left_of_one (suc (suc n)) x y rest e = absurd cc

some_gone : (n : ℕ) (x : Stmt) → drop n (x ∷ []) ≡ [] → 1 ≤ n
some_gone zero x e = absurd cc
some_gone (suc n) x e = omega arith

-- the next one goes
pub one_more : (old mid new : Seen) (all : List Stmt) (n : ℕ) (y : Stmt) (rest : List Stmt) → drop n all ≡ y ∷ rest → OneGoes old mid all n → WritesWithinMore (length y.path + 2) 8 mid new
    → OneGoes old new all (n + 1)
one_more old mid new all n y rest split goes writes = record {
  none = λ e. absurd (omega arith);
  one = λ x is _.
      let first = left_of_one n x y rest (ap (drop n) (sym is) ∙ split) in
      subst (λ (s : Seen). WritesWithinMore (length x.path + 2) 8 s new) (goes.none first.0)
      (subst (λ (z : Stmt). WritesWithinMore (length z.path + 2) 8 mid new) first.1 writes);
}

-- all are gone
pub one_gone : (old new : Seen) (all : List Stmt) (n : ℕ) (x : Stmt) → drop n all ≡ [] → OneGoes old new all n → all ≡ x ∷ [] → WritesWithinMore (length x.path + 2) 8 old new
one_gone old new all n x end goes is = goes.one x is (some_gone n x (ap (drop n) (sym is) ∙ end))
