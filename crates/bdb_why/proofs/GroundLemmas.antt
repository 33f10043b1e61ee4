-- A ground is found exactly where the world has the signed tuple.
use Rattle.std.proofs.Common.{◌≡◌, ◌∙◌, ℕ, ◌+◌, Bool, true, false, not, ◌&&◌, ◌||◌, List, [], ◌∷◌, refl, ap, sym, Some, None, Option}
use Rattle.std.specs.Option.{is_some}
use Rattle.bdb_base.specs.declared.kinds.Sign.{Sign}
use Rattle.bdb_base.specs.declared.kinds.Stmt.{Stmt}
use Rattle.bdb_base.specs.declared.tuple.Tuple.{Tuple}
use Rattle.bdb_base.specs.Clash.{clash}
use Rattle.bdb_base.specs.Same.{same_path}
use Rattle.bdb_base.specs.Worlds.{explicit, least_clash, stated}
use Rattle.bdb_base.proofs.ListLemmas.{or_false}
use Rattle.bdb_base.proofs.BoolLemmas.{and_true, and_false}
use Rattle.bdb_why.specs.declared.kinds.Ground.{Ground}
use Rattle.bdb_why.specs.declared.kinds.Ground.TheVariants.{Nowhere}
use Rattle.bdb_why.specs.Grounds.{ground_by, ground_from, is_found}
use Rattle.bdb_why.specs.WhyLaws.{StatedIsFound}
use Rattle.bdb_why.proofs.FindLemmas.{find_some}

pub found_by_rest : (b : Bool) (x : Option Stmt) (n : ℕ) (rest : Ground) → is_found (ground_by b x n rest) ≡ (b || (is_found rest && not (is_some x)))
found_by_rest true x n rest = refl
found_by_rest false (Some x) n rest = sym (and_false (is_found rest))
found_by_rest false None n rest = sym (and_true (is_found rest))

pub found_from : (keys : ℕ → ℕ) (stmts : List Stmt) (n : ℕ) (w : List ℕ) (t : Tuple) (s : Sign) → is_found (ground_from keys stmts n w t s) ≡ stated keys stmts w t s
found_from keys stmts n [] t s = found_by_rest (explicit stmts [] t s) (least_clash keys stmts [] t s) n Nowhere ∙ or_false (explicit stmts [] t s)
found_from keys stmts n (i ∷ w) t s =
    found_by_rest (explicit stmts (i ∷ w) t s) (least_clash keys stmts (i ∷ w) t s) n (ground_from keys stmts (n + 1) w t s)
    ∙ ap (λ b. explicit stmts (i ∷ w) t s || (b && not (is_some (least_clash keys stmts (i ∷ w) t s)))) (found_from keys stmts (n + 1) w t s)
    ∙ ap (λ b. explicit stmts (i ∷ w) t s || (stated keys stmts w t s && not b)) (find_some (λ x. same_path x.path (i ∷ w) && clash keys t s x.tuple x.sign) stmts)

pub stated_is_found : StatedIsFound
stated_is_found keys stmts w t s = found_from keys stmts 0 w t s
