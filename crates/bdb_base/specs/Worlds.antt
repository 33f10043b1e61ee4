-- Worlds and belief, over a list of standing statements. `keys` gives the length of each relation's key.
use Rattle.std.specs.Prelude.{◌≡◌, ℕ, Bool, true, false, not, ◌&&◌, ◌||◌, List, [], ◌∷◌, Option, find}
use Rattle.std.specs.List.{list_any}
use Rattle.bdb_base.specs.declared.kinds.Sign.{Sign}
use Rattle.bdb_base.specs.declared.kinds.Sign.TheVariants.{Plus, Minus}
use Rattle.bdb_base.specs.declared.kinds.Stmt.{Stmt}
use Rattle.bdb_base.specs.declared.tuple.Tuple.{Tuple}
use Rattle.bdb_base.specs.Same.{same_path, same_tuple, same_sign}
use Rattle.bdb_base.specs.Clash.{clash}

-- a signed tuple is stated at this very path
abbrev pub explicit : List Stmt → List ℕ → Tuple → Sign → Bool
explicit stmts w t s = list_any (λ x. same_path x.path w && (same_tuple x.tuple t && same_sign x.sign s)) stmts

-- a signed tuple clashes with a statement of this very path
abbrev pub contradicted : (ℕ → ℕ) → List Stmt → List ℕ → Tuple → Sign → Bool
contradicted keys stmts w t s = list_any (λ x. same_path x.path w && clash keys t s x.tuple x.sign) stmts

-- the first statement of this very path with which a signed tuple clashes
abbrev pub least_clash : (ℕ → ℕ) → List Stmt → List ℕ → Tuple → Sign → Option Stmt
least_clash keys stmts w t s = find (λ x. same_path x.path w && clash keys t s x.tuple x.sign) stmts

-- The world of a path has a signed tuple: it is explicit there, or it is in the world of the path without its first
-- user and clashes with nothing explicit.
abbrev pub stated : (ℕ → ℕ) → List Stmt → List ℕ → Tuple → Sign → Bool
stated keys stmts [] t s = explicit stmts [] t s
stated keys stmts (i ∷ w) t s = explicit stmts (i ∷ w) t s || (stated keys stmts w t s && not (contradicted keys stmts (i ∷ w) t s))

-- A path believes a tuple where its world has it with plus. It believes the negation where its world has it with minus,
-- or with plus another tuple of its relation and key.
abbrev pub believes : (ℕ → ℕ) → List Stmt → List ℕ → Tuple → Sign → Bool
believes keys stmts w t Plus = stated keys stmts w t Plus
believes keys stmts w t Minus = stated keys stmts w t Minus || list_any (λ x. clash keys t Plus x.tuple Plus && stated keys stmts w x.tuple Plus) stmts

-- no two statements of one path clash
abbrev pub IsConsistent : (ℕ → ℕ) → List Stmt → Type 0
IsConsistent keys stmts = (w : List ℕ) (t t' : Tuple) (s s' : Sign) → explicit stmts w t s ≡ true → explicit stmts w t' s' ≡ true → clash keys t s t' s' ≡ false
