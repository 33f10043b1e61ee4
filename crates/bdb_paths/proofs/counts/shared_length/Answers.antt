use Rattle.std.proofs.Common.{◌≡◌, ℕ, ◌<◌, List, [], ◌∷◌, length, drop, refl, arith}
use Rattle.bdb_paths.specs.Shared.{shared_length}
use Rattle.bdb_paths.proofs.counts.shared_length.Goals as goal

none_shared : (w p : List ℕ) → length p < 1 → shared_length w p ≡ 0
none_shared [] p l = refl
none_shared (i ∷ w) [] l = refl
none_shared (i ∷ w) (j ∷ p) l = absurd (omega arith)

pub returns-in_default-clause-value : goal.returns-in_default-clause-value
returns-in_default-clause-value c =
    let n = none_shared (drop c.loop-x.x-index c.args.a.now) c.loop-x.rest.now c.in_default.len_below in
    omega arith
