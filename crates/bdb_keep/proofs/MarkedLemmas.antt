-- What a count of marked rows tells. Crates above name these lemmas at their functions.
use Rattle.std.proofs.Common.{◌≡◌, ℕ, arith, ◌+◌, suc, zero, Bool, true, false, List, [], ◌∷◌, length, refl, sym, ◌∙◌}
use Rattle.std.specs.List.{AllByRecursion, Contains, IsDistinct}
use mathlib.Core.Bool.{true≢false}
use Rattle.bdb_base.specs.Same.{same_text}
use Rattle.bdb_base.specs.SameLemmas.{same_text-Decides}
use Rattle.bdb_keep.specs.Tables.{Tables}
use Rattle.bdb_keep.specs.Marked.{IsMarkedAt, IsMarkedCount}
use Rattle.bdb_keep.specs.declared.keeper.KeyEnd.{KeyEnd}

none_listed : (keys : List (List ℕ)) (key : List ℕ) → length keys ≡ 0 → Contains keys key → ⊥
none_listed keys key e c = absurd (omega arith)

-- where none is counted, no row is marked
pub none_marked : (t : Tables) (tab : ℕ) (end : KeyEnd) (word : ℕ) → IsMarkedCount t tab end word 0 → (key : List ℕ) → IsMarkedAt t tab end word key → ⊥
none_marked t tab end word c key at = none_listed c.keys key c.count (c.listed key at)

-- where two or more are counted, a row is marked at another key than this one
pub another_marked : (t : Tables) (tab : ℕ) (end : KeyEnd) (word n : ℕ) → IsMarkedCount t tab end word (n + 2) → (key : List ℕ) → (other : List ℕ) × (IsMarkedAt t tab end word other) × (other ≡ key → ⊥)
unfolding IsDistinct
another_marked t tab end word n c key = there c.keys c.once c.each c.count
  where
    apart : (a b : List ℕ) → same_text a b ≡ false → a ≡ key → b ≡ key → ⊥
    apart a b e f g = true≢false (sym ((same_text-Decides a b).1 (f ∙ sym g)) ∙ e)

    there : (keys : List (List ℕ)) → IsDistinct same_text keys → AllByRecursion (IsMarkedAt t tab end word) keys → length keys ≡ n + 2 → (other : List ℕ) × (IsMarkedAt t tab end word other) × (other ≡ key → ⊥)
    there [] once each e = absurd (omega arith)
    there (a ∷ []) once each e = absurd (omega arith)
    there (a ∷ b ∷ keys) once each e = pick (same_text a key) refl
      where
        pick : (same : Bool) → same_text a key ≡ same → (other : List ℕ) × (IsMarkedAt t tab end word other) × (other ≡ key → ⊥)
        pick true s = (b, each.1.0, λ g. apart a b once.0.0 ((same_text-Decides a key).0 s) g)
        pick false s = (a, each.0, λ g. true≢false (sym ((same_text-Decides a key).1 g) ∙ s))

-- where one is counted, and a row is marked at a key, none is at another
pub only_marked : (t : Tables) (tab : ℕ) (end : KeyEnd) (word : ℕ) → IsMarkedCount t tab end word 1 → (key other : List ℕ) → IsMarkedAt t tab end word key → IsMarkedAt t tab end word other → other ≡ key
only_marked t tab end word c key other a b = there c.keys c.count (c.listed key a) (c.listed other b)
  where
    first : (x k : List ℕ) → Contains (x ∷ []) k → x ≡ k
    first x k (zero, h, e) = e
    first x k (suc i, h, e) = absurd (omega arith)

    there : (keys : List (List ℕ)) → length keys ≡ 1 → Contains keys key → Contains keys other → other ≡ key
    there [] e p q = absurd (omega arith)
    there (x ∷ []) e p q = sym (first x other q) ∙ first x key p
    there (x ∷ y ∷ keys) e p q = absurd (omega arith)
