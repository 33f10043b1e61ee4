-- What the code finds at a level is what the definition says of it.
use Rattle.std.proofs.Common.{◌≡◌, ◌∙◌, ℕ, ◌+◌, ◌<◌, ◌≤◌, true, false, ◌&&◌, List, [], ◌∷◌, ap, sym, Some, None, filter, length, drop, arith}
use Rattle.std.proofs.lemmas.Bool.{and_parts}
use Rattle.bdb_base.specs.declared.kinds.Sign.{Sign}
use Rattle.bdb_base.specs.declared.kinds.Stmt.{Stmt}
use Rattle.bdb_base.specs.declared.tuple.Tuple.{Tuple}
use Rattle.bdb_base.specs.Clash.{clash}
use Rattle.bdb_base.specs.Same.{same_path, same_tuple, same_sign}
use Rattle.bdb_base.specs.Worlds.{explicit, least_clash}
use Rattle.bdb_base.proofs.FindLemmas.{list_any-filter_same}
use Rattle.bdb_why.specs.declared.kinds.Ground.TheVariants.{Found, Blocked, Nowhere}
use Rattle.bdb_why.specs.Grounds.{ground_by, ground_from}
use Rattle.bdb_why.proofs.FindLemmas.{find_kept}

-- what the statements of a path state is what all state there
pub explicit_here : (stmts : List Stmt) (w : List ℕ) (t : Tuple) (s : Sign) → explicit (filter (λ x. same_path x.path w) stmts) w t s ≡ explicit stmts w t s
explicit_here stmts w t s = list_any-filter_same (λ x. same_path x.path w && (same_tuple x.tuple t && same_sign x.sign s)) (λ x. same_path x.path w)
    (λ x e. (and_parts (same_path x.path w) (same_tuple x.tuple t && same_sign x.sign s) e).0) stmts

pub least_here : (keys : ℕ → ℕ) (stmts : List Stmt) (w : List ℕ) (t : Tuple) (s : Sign)
    → least_clash keys (filter (λ x. same_path x.path w) stmts) w t s ≡ least_clash keys stmts w t s
least_here keys stmts w t s = find_kept (λ x. same_path x.path w && clash keys t s x.tuple x.sign) (λ x. same_path x.path w)
    (λ x e. (and_parts (same_path x.path w) (clash keys t s x.tuple x.sign) e).0) stmts

pub ground_if_explicit : (keys : ℕ → ℕ) (stmts : List Stmt) (n : ℕ) (w : List ℕ) (t : Tuple) (s : Sign) → explicit stmts w t s ≡ true
    → ground_from keys stmts n w t s ≡ Found n
ground_if_explicit keys stmts n [] t s e = ap (λ b. ground_by b (least_clash keys stmts [] t s) n Nowhere) e
ground_if_explicit keys stmts n (i ∷ w) t s e = ap (λ b. ground_by b (least_clash keys stmts (i ∷ w) t s) n (ground_from keys stmts (n + 1) w t s)) e

pub ground_if_clash : (keys : ℕ → ℕ) (stmts : List Stmt) (n : ℕ) (w : List ℕ) (t : Tuple) (s : Sign) (x : Stmt) → explicit stmts w t s ≡ false
    → least_clash keys stmts w t s ≡ Some x → ground_from keys stmts n w t s ≡ Blocked n x
ground_if_clash keys stmts n [] t s x e f = ap (λ b. ground_by b (least_clash keys stmts [] t s) n Nowhere) e ∙ ap (λ o. ground_by false o n Nowhere) f
ground_if_clash keys stmts n (i ∷ w) t s x e f =
    ap (λ b. ground_by b (least_clash keys stmts (i ∷ w) t s) n (ground_from keys stmts (n + 1) w t s)) e
    ∙ ap (λ o. ground_by false o n (ground_from keys stmts (n + 1) w t s)) f

pub ground_at_end : (keys : ℕ → ℕ) (stmts : List Stmt) (n : ℕ) (w : List ℕ) (t : Tuple) (s : Sign) → length w < 1 → explicit stmts w t s ≡ false
    → least_clash keys stmts w t s ≡ None → ground_from keys stmts n w t s ≡ Nowhere
ground_at_end keys stmts n [] t s h e f = ap (λ b. ground_by b (least_clash keys stmts [] t s) n Nowhere) e ∙ ap (λ o. ground_by false o n Nowhere) f
ground_at_end keys stmts n (i ∷ w) t s h e f = absurd (omega arith)

pub ground_further : (keys : ℕ → ℕ) (stmts : List Stmt) (n : ℕ) (w rest : List ℕ) (t : Tuple) (s : Sign) → 1 ≤ length w → rest ≡ drop 1 w
    → explicit stmts w t s ≡ false → least_clash keys stmts w t s ≡ None → ground_from keys stmts n w t s ≡ ground_from keys stmts (n + 1) rest t s
ground_further keys stmts n [] rest t s h r e f = absurd (omega arith)
ground_further keys stmts n (i ∷ w) rest t s h r e f =
    ap (λ b. ground_by b (least_clash keys stmts (i ∷ w) t s) n (ground_from keys stmts (n + 1) w t s)) e
    ∙ ap (λ o. ground_by false o n (ground_from keys stmts (n + 1) w t s)) f
    ∙ ap (λ v. ground_from keys stmts (n + 1) v t s) (sym r)
